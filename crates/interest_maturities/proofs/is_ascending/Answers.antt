use Rattle.std.proofs.lemmas.Bool.{lt-ltb, le-ltb}
use Rattle.paper_interest.specs.Interest.{strictly_ascending, strictly_ascending_from}
use Rattle.interest_maturities.specs.KeyLaws.{none_of_short}
use Rattle.interest_maturities.proofs.is_ascending.Goals as goal

pub returns-in_default : goal.returns-in_default
unfolding strictly_ascending
returns-in_default c = rw (none_of_short _ c.in_default.ensures.parts)

pub loop-next-init : goal.loop-next-init
unfolding strictly_ascending
loop-next-init c = rw c.in-Some.ensures.parts

pub returns-then-next-last : goal.returns-then-next-last
unfolding strictly_ascending_from
returns-then-next-last c =
    rw (c.in-Some-split_first.ensures.parts, le-ltb _ _ c.if-next-last.true) at c.loop-next.invariant

pub loop-next-preserved : goal.loop-next-preserved
unfolding strictly_ascending_from
loop-next-preserved c =
    rw (c.in-Some-split_first.ensures.parts, lt-ltb _ _ c.if-next-last.false) at c.loop-next.invariant

pub returns : goal.returns
unfolding strictly_ascending_from
returns c = rw (none_of_short _ c.in_default-split_first.ensures.parts) at c.loop-next.invariant
