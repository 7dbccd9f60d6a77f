use Rattle.std.proofs.Common.{◌≡◌, ◌∷◌}
use Rattle.paper_interest.specs.Interest.{maturities_of}
use Rattle.interest_maturities.specs.KeyLaws.{none_of_short}
use Rattle.interest_maturities.proofs.Passed.{passed_first, read_first, passed_next, read_between, read_last}
use Rattle.interest_maturities.proofs.neighbours.Goals as goal
use Rattle.interest_maturities.proofs.neighbours.Goals.{After-unwrap}

first_is : (c : After-unwrap)
    → maturities_of c.before.before.args.numbers.now ≡ c.unwrap.result.0 ∷ maturities_of c.unwrap.result.1.now
first_is c = rw c.unwrap.ensures at c.before.split_first.ensures.parts

pub returns-then-y-first : goal.returns-then-y-first
returns-then-y-first c =
    read_first _ _ _ _ (first_is (goal.at.returns-then-y-first c).After-unwrap) c.if-y-first.true

pub loop-next-init : goal.loop-next-init
loop-next-init c = passed_first _ _ _ _ (first_is (goal.at.loop-next-init c).After-unwrap) c.if-y-first.false

pub returns-then-y-t : goal.returns-then-y-t
returns-then-y-t c =
    read_between _ _ _ _ c.loop-next.invariant _ _ c.in-Some.ensures.parts c.if-y-t.true

pub loop-next-preserved : goal.loop-next-preserved
loop-next-preserved c =
    passed_next _ _ _ _ c.loop-next.invariant _ _ c.in-Some.ensures.parts c.if-y-t.false

pub returns : goal.returns
returns c = read_last _ _ _ _ c.loop-next.invariant (none_of_short _ c.in_default.ensures.parts)
