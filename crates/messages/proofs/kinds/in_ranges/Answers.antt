use mathlib.Core.Path.{◌≡◌}
use mir.Facts.{to_z-of_z}
use mir.Syntax.{w64}
use lib.IntN.{pos}
use lib.ListN.{get_or}
use Rattle.paper.specs.Ranges.{within_z}
use Rattle.paper_messages.specs.Fields.{no_field}
use native.Mathlib.Omega.{arith}
use Rattle.messages.proofs.RangeTurns.{judging_none, judging_out, judging_more, judging_all}
use mathlib.Core.Path.{ap}
use mathlib.Core.Bool.{not}
use Rattle.messages.proofs.kinds.in_ranges.Goals as goal
use Rattle.messages.proofs.kinds.in_ranges.Goals.{After-is_in}

said : (c : After-is_in)
    → let s = c.before.before.before.before.before in
    let i = c.before.before.before.before.loop-i.i in
    c.is_in.result
    ≡ within_z (get_or s.args.places i no_field).low (get_or s.args.places i no_field).high (get_or s.args.values i (pos 0))
said c = rw (to_z-of_z {w = w64} (record { sfits = c.before.is_in-arg-in-loop-i-1.given })) at c.is_in.ensures

pub loop-i-init : goal.loop-i-init
loop-i-init c = judging_none _ _ (omega arith)

pub returns-then-not-is_in : goal.returns-then-not-is_in
returns-then-not-is_in c =
    judging_out _ _ _ c.loop-i.invariant (omega arith) _ (said (goal.at.returns-then-not-is_in c).After-is_in) (ap not c.if-not-is_in.true)

pub loop-i-preserved : goal.loop-i-preserved
loop-i-preserved c =
    judging_more _ _ _ c.loop-i.invariant (omega arith) _ (said (goal.at.loop-i-preserved c).After-is_in) (ap not c.if-not-is_in.false)

pub returns : goal.returns
returns c = judging_all _ _ _ c.loop-i.invariant (omega arith)
