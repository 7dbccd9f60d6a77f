-- A message that is heard whole is heard so whatever stands behind it: no byte past its own is looked at.
use mathlib.Core.Path.{◌≡◌, sym}
use mathlib.Core.Bool.{false}
use mathlib.Core.List.{List, ◌++◌}
use Prim.Native.Nat.{ℕ}
use lib.Dec.{eqb}
use lib.Seq.{take-append-le}
use Rattle.paper.specs.declared.Verdict.TheVariants.{CutShort}
use Rattle.paper.specs.Verdicts.{number_of, first_of}
use Rattle.paper_messages.specs.Messages.{read_checks}
use Rattle.paper_messages.specs.OwnBytes.{own_bytes, HeardAlike}
use Rattle.paper_messages.proofs.OwnBytes.{own_within, own_same}

-- WHAT IS HEARD WHOLE is heard so whatever stands behind it
pub heard_whole_lem : (u later : List ℕ) → eqb (number_of (first_of (read_checks u))) (number_of CutShort) ≡ false
    → HeardAlike u (u ++ later)
heard_whole_lem u later whole =
    own_same u (u ++ later) whole (sym (take-append-le (own_bytes u) u later (own_within u whole)))
