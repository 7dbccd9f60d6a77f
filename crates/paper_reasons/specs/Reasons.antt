-- Document 02, W-207: which reason is named for each figure of an accepted evaluation. Each reason has its condition,
-- in the words of document 01, and the first that holds is named.
use Rattle.std.specs.Prelude.{◌≡◌, Bool, true, false, not, ◌&&◌, List, [], ◌∷◌, ℕ, ◌+◌, ◌/◌, leb, ltb, eqb}
use Rattle.paper.specs.declared.External.{External}
use Rattle.paper.specs.declared.Roubles.{Roubles}
use Rattle.paper.specs.declared.Statics.{Statics}
use Rattle.paper.specs.declared.Tentative.{Tentative}
use Rattle.paper.specs.Lists.{pick, some}
use Rattle.paper.specs.Least.{least_multiple}
use Rattle.paper_desk.specs.Evaluation.{close_of, bid_of, ask_of, between}
use Rattle.paper_desk.specs.Rates.{minimum_of, covers}
use Rattle.paper.specs.Verdicts.{Naming, first_named, FirstAt, Exactly}
use Rattle.paper_reasons.specs.declared.PriceReason.{PriceReason}
use Rattle.paper_reasons.specs.declared.PriceReason.TheVariants as price
use Rattle.paper_reasons.specs.declared.WeightReason.{WeightReason}
use Rattle.paper_reasons.specs.declared.WeightReason.TheVariants as weight
use Rattle.paper_reasons.specs.declared.ReplacementReason.{ReplacementReason}
use Rattle.paper_reasons.specs.declared.ReplacementReason.TheVariants as replacement
use Rattle.paper_reasons.specs.declared.TentativeReason.{TentativeReason}
use Rattle.paper_reasons.specs.declared.TentativeReason.TheVariants as tentative
use Rattle.paper_reasons.specs.declared.LevelReason.{LevelReason}
use Rattle.paper_reasons.specs.declared.LevelReason.TheVariants as level

-- ---- "Where two set it equally, the earlier in the list just given is named."

-- the reasons of a list, in its order, each with its condition
abbrev pub is_in_order : {A : Type 0} → (holds : A → Bool) → List A → List (Naming A)
is_in_order holds [] = []
is_in_order holds (x ∷ xs) = record { verdict = x; applies = holds x } ∷ is_in_order holds xs

-- the first whose condition holds, by the definition that the refusals have; `none` where none holds
abbrev pub first_that_holds : {A : Type 0} → (none : A) → (holds : A → Bool) → List A → A
first_that_holds none holds order = first_named none (is_in_order holds order)

-- WHAT IS NAMED IS THE TRUE REASON: each reason is named exactly when its condition holds and no earlier one's does;
-- the condition of the one named holds, and it is the only one so named
pub record TrueReason {A : Type 0} (holds : A → Bool) (order : List A) (named : A) : Type 0 where
  pub exactly : (v : A) → Exactly (named ≡ v) (FirstAt v (is_in_order holds order))
  pub condition : holds named ≡ true
  pub only : (v : A) → FirstAt v (is_in_order holds order) → v ≡ named

-- ---- the price (6.1)

-- whether some row has a weight above 0
unfoldable pub is_traded : List Roubles → Bool
is_traded rs = some (λ (r : Roubles). ltb 0 r.weight) rs

-- the price before place (d) rounds it to the grid
abbrev pub before_grid : (previous : ℕ) → (used : External) → List Roubles → ℕ
before_grid previous used rs = between (bid_of used rs) (close_of previous rs) (ask_of used rs)

-- "which figure set the price": the one that it equals. The close is of the rows with a weight, and yesterday the
-- previous evaluation where there is no such row; BID and ASK are present, and formed with the outside prices that
-- count (W-211)
unfoldable pub price_set_by : (previous : ℕ) → (used : External) → List Roubles → PriceReason → Bool
price_set_by previous used rs price.None = false
price_set_by previous used rs price.Close = is_traded rs && eqb (before_grid previous used rs) (close_of previous rs)
price_set_by previous used rs price.Bid = ltb 0 (bid_of used rs) && eqb (before_grid previous used rs) (bid_of used rs)
price_set_by previous used rs price.Ask = ltb 0 (ask_of used rs) && eqb (before_grid previous used rs) (ask_of used rs)
price_set_by previous used rs price.Yesterday = not (is_traded rs) && eqb (before_grid previous used rs) previous

-- "(close, bid, ask, or yesterday)"
abbrev pub price_reasons : List PriceReason
price_reasons = price.Close ∷ price.Bid ∷ price.Ask ∷ price.Yesterday ∷ []

unfoldable pub price_reason : (previous : ℕ) → (used : External) → List Roubles → PriceReason
price_reason previous used rs = first_that_holds price.None (price_set_by previous used rs) price_reasons

-- ---- the weight (7.1)

-- "a is 0 when b > 1; else a_up when r > s, a_down otherwise."
unfoldable pub weight_given : (b r s : ℕ) → WeightReason → Bool
weight_given b r s weight.None = false
weight_given b r s weight.Zero = ltb 1 b
weight_given b r s weight.Up = ltb s r
weight_given b r s weight.Down = leb r s

abbrev pub weight_reasons : List WeightReason
weight_reasons = weight.Zero ∷ weight.Up ∷ weight.Down ∷ []

-- "With isEWMA no, .. weight, replacement and tentative rate none."
unfoldable pub weight_reason : Statics → (b r s : ℕ) → WeightReason
weight_reason st b r s = pick st.ewma (first_that_holds weight.None (weight_given b r s) weight_reasons) weight.None

-- ---- the replacement (7.1)

-- "s is the greater, and on a tie x is the one chosen": it won where it is the one chosen
unfoldable pub replacement_was : (won : Bool) → ReplacementReason → Bool
replacement_was won replacement.None = false
replacement_was won replacement.Yes = won
replacement_was won replacement.No = not won

abbrev pub replacement_reasons : List ReplacementReason
replacement_reasons = replacement.Yes ∷ replacement.No ∷ []

-- `won` is whether the replacement is the one chosen on the day (`replaced_on` of Why)
unfoldable pub replacement_reason : Statics → (won : Bool) → ReplacementReason
replacement_reason st won =
    pick st.ewma (first_that_holds replacement.None (replacement_was won) replacement_reasons) replacement.None

-- ---- the tentative rate (7.1)

-- "If t ≥ tentative + h, tentative becomes t. Else if t ≤ tentative - h and age + 1 ≥ n, it falls by one h. Else it
-- stays": it waited where t is low enough and the wait is not over, and was level where t is within a step
unfoldable pub tentative_did : (h wait t : ℕ) → Tentative → TentativeReason → Bool
tentative_did h wait t old tentative.None = false
tentative_did h wait t old tentative.Rose = leb (old.bp + h) t
tentative_did h wait t old tentative.Fell = leb (t + h) old.bp && leb wait (old.age + 1)
tentative_did h wait t old tentative.Waited = leb (t + h) old.bp
tentative_did h wait t old tentative.Level = ltb t (old.bp + h) && ltb old.bp (t + h)

abbrev pub tentative_reasons : List TentativeReason
tentative_reasons = tentative.Rose ∷ tentative.Fell ∷ tentative.Waited ∷ tentative.Level ∷ []

unfoldable pub tentative_reason : Statics → (t : ℕ) → Tentative → TentativeReason
tentative_reason st t old =
    pick st.ewma (first_that_holds tentative.None (tentative_did st.h st.wait t old) tentative_reasons)
    tentative.None

-- ---- the rate of a level (7.1)

-- the least multiple of h that covers the requirement, where S_max covers it
unfoldable pub requirement_step : Statics → (tentative m level : ℕ) → ℕ
requirement_step st t m level = least_multiple st.h (st.smax / st.h) (λ v. covers st t m level v)

-- "whether the requirement, the minimum or the maximum set it": the rate is the least multiple of h that covers the
-- requirement, which S_max covers; it is S_L_min; it is S_max
unfoldable pub level_set_by : Statics → (tentative m level rate : ℕ) → LevelReason → Bool
level_set_by st t m l rate level.None = false
level_set_by st t m l rate level.Requirement = covers st t m l st.smax && eqb rate (requirement_step st t m l)
level_set_by st t m l rate level.Minimum = eqb rate (minimum_of st l)
level_set_by st t m l rate level.Maximum = eqb rate st.smax

abbrev pub level_reasons : List LevelReason
level_reasons = level.Requirement ∷ level.Minimum ∷ level.Maximum ∷ []

-- "With isEWMA no, each level names the minimum"
unfoldable pub level_reason : Statics → (tentative m level rate : ℕ) → LevelReason
level_reason st t m l rate =
    pick st.ewma (first_that_holds level.None (level_set_by st t m l rate) level_reasons) level.Minimum
