-- `volatility::replaces` meets its contract: the tests of the code are the definition's, the last only where the others
-- pass.
use mathlib.Core.Path.{◌≡◌}
use mathlib.Core.Bool.{Bool, true, false, ◌&&◌}
use lib.Dec.{leb, ltb}
use Rattle.paper_desk.specs.Rates.{replaces}
use Rattle.rates.proofs.volatility.replaces.Goals as goal
use Rattle.rates.proofs.volatility.replaces.Goals.{Start}

-- "When b ≤ 1 and r > 100·S_1 (last rate)"
abbrev isLookedAt : Start → Bool
isLookedAt s = leb s.args.b 1 && ltb s.args.last s.args.r

pub returns-then-b-r : goal.returns-then-b-r
unfolding replaces
returns-then-b-r c =
    let test : isLookedAt (goal.at.returns-then-b-r c).Start ≡ true = c.if-b-r.true in
    rw (c.replacement.ensures, test)

pub returns : goal.returns
unfolding replaces
returns c = let test : isLookedAt (goal.at.returns c).Start ≡ false = c.if-b-r.false in rw test
