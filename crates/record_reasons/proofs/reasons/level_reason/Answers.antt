-- `reasons::level_reason` meets its contract: the tests of the code are the conditions, in their order. Where the first
-- two do not hold the third does.
use mathlib.Core.Bool.{true, false}
use Prim.Native.Nat.{ℕ}
use lib.Dec.{eqb}
use Rattle.paper.specs.declared.Statics.{Statics}
use Rattle.paper_desk.specs.Rates.{minimum_of}
use Rattle.rates_level.specs.declared.Level.{Level}
use Rattle.paper_reasons.specs.declared.LevelReason.TheVariants as level
use mathlib.Core.Path.{◌≡◌, sym, ap, ◌∙◌}
use borrow.Author.Tests.{eq-eqb, ne_eqb}
use Rattle.rates_level.proofs.Statics.{valid_are_rate_statics}
use Rattle.paper_reasons.specs.Reasons.{level_set_by}
use Rattle.paper_reasons.proofs.Levels.{level_reason_is_first, maximum_left}
use Rattle.record_reasons.proofs.reasons.level_reason.Goals as goal
use Rattle.record_reasons.proofs.reasons.level_reason.Goals.{After-level_of-own, Else-is_least}

-- the requirement did not set it
not_least : (c : Else-is_least)
    → let a = c.before.before.args in
    level_set_by a.st a.tentative a.m a.level a.rate.bp level.Requirement ≡ false
not_least c = sym c.before.is_least.ensures ∙ c.if-is_least.false

-- the minimum that the code compares with is the level's
minimum_is : (c : After-level_of-own)
    → let a = c.before.before.before.args in
    c.level_of-own.result.minimum.bp ≡ minimum_of a.st a.level
minimum_is c = ap (λ (x : Level). x.minimum.bp) c.level_of-own.ensures

-- whether the minimum set it
by_minimum : (st : Statics) (l m t rate low : ℕ) → low ≡ minimum_of st l
    → level_set_by st t m l rate level.Minimum ≡ eqb rate low
unfolding level_set_by
by_minimum st l m t rate low e = rw e

pub returns-then-is_least : goal.returns-then-is_least
returns-then-is_least c =
    sym (level_reason_is_first _ _ _ _ _ c.requires.st_value.1 ∙ rw (sym c.is_least.ensures ∙ c.if-is_least.true))

pub level_of-own-requires : goal.level_of-own-requires
level_of-own-requires c = valid_are_rate_statics _ c.requires.st_value.0

pub returns-then-rate-own : goal.returns-then-rate-own
returns-then-rate-own c =
    let a = c.args in
    let least = not_least (goal.at.returns-then-rate-own c).Else-is_least in
    let low : level_set_by a.st a.tentative a.m a.level a.rate.bp level.Minimum ≡ true =
    by_minimum _ _ _ _ _ _ (minimum_is (goal.at.returns-then-rate-own c).After-level_of-own) ∙ eq-eqb _ _ c.if-rate-own.true in
    sym (level_reason_is_first _ _ _ _ _ c.requires.st_value.1 ∙ rw (least, low))

pub returns : goal.returns
returns c =
    let a = c.args in
    let low : level_set_by a.st a.tentative a.m a.level a.rate.bp level.Minimum ≡ false =
    by_minimum _ _ _ _ _ _ (minimum_is (goal.at.returns c).After-level_of-own) ∙ ne_eqb _ _ c.if-rate-own.false in
    let least = rw c.requires.bp_value at (not_least (goal.at.returns c).Else-is_least) in
    rw c.requires.bp_value (maximum_left _ _ _ _ c.requires.st_value.0 c.requires.st_value.1 least (rw c.requires.bp_value at low))
