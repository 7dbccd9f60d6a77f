-- `reasons::replacement_taken` meets its contract: the test of the code is the definition's.
use mathlib.Core.Path.{◌≡◌}
use mathlib.Core.Bool.{Bool, true, false, ◌&&◌}
use lib.Dec.{leb, ltb}
use Rattle.paper_reasons.specs.Figures.{replacement_taken}
use Rattle.record_reasons.proofs.reasons.replacement_taken.Goals as goal
use Rattle.record_reasons.proofs.reasons.replacement_taken.Goals.{Start}

-- "When b ≤ 1 and r > 100·S_1 (last rate)"
abbrev is_taken : Start → Bool
is_taken s = leb s.args.b 1 && ltb s.args.last s.args.r

pub returns-then-b-last : goal.returns-then-b-last
unfolding replacement_taken
returns-then-b-last c =
    let test : is_taken (goal.at.returns-then-b-last c).Start ≡ true = c.if-b-last.true in
    rw (c.replacement.ensures, test)

pub returns : goal.returns
unfolding replacement_taken
returns c = let test : is_taken (goal.at.returns c).Start ≡ false = c.if-b-last.false in rw test
