-- `as_admission` meets its contract: the id, and the statics behind it, are judged by the two tests by which an
-- admission judges them.
use mathlib.Core.List.{List}
use Prim.Native.Nat.{◌≤◌}
use native.Mathlib.Omega.{arith}
use lib.IntN.{ℤ}
use lib.ListN.{length, drop, length-drop}
use lib.Seq.{take_all}
use Rattle.paper.specs.Ranges.{statics_count}
use Rattle.paper_messages.specs.Messages.{as_admission}
use Rattle.messages.proofs.kinds.as_admission.Goals as goal

pub returns : goal.returns
unfolding as_admission
returns c =
    let values : List ℤ = c.args.values in
    let short : length (drop 1 values) ≤ statics_count = rw (length-drop 1 values) (omega arith) in
    rw (
      c.valid_given.ensures,
      c.given_of.ensures,
      take_all statics_count (drop 1 values) short,
      c.valid_id.ensures,
      c.number_at.ensures,
    )
