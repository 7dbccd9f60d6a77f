-- What a day in range and a sound record are to what an evaluation makes: the terms are valid, and the rates of the
-- figures are rates.
use mathlib.Core.Path.{◌≡◌, refl}
use mathlib.Core.Bool.{Bool, true, false}
use mathlib.Core.List.{List, [], ◌∷◌}
use Prim.Native.Nat.{ℕ, zero, suc, ◌≤◌, ◌<◌}
use native.Mathlib.Nat.{le_trans}
use native.Mathlib.Omega.{arith}
use lib.ListN.{length, get_or}
use Rattle.paper.specs.declared.Record.{Record}
use Rattle.paper.specs.declared.Day.{Day}
use Rattle.paper.specs.declared.Figures.{Figures}
use Rattle.paper.specs.Lists.{pick, three, for_levels, all_three}
use Rattle.paper.specs.Numbers.{rate_most}
use Rattle.paper.specs.Ranges.{valid_term, term_at, sound, valid_day_numbers, rate_at}
use Rattle.paper_desk.specs.Rates.{minimum_of, level_rate, figures_of, modelled, unmodelled}
use Rattle.paper.proofs.Logic.{and_left, and_right}
use Rattle.record_soundness.proofs.Facts.{sound_facts}
use Rattle.rates_level.specs.RateStatics.{RateStatics}
use Rattle.rates_level.proofs.Statics.{valid_are_rate_statics, level_statics}
use Rattle.rates_level.proofs.Reach.{level_rate_within_most}
use Rattle.record_writing.specs.Evaluates.{move_to, figures_at}

-- ---- the terms of a day

-- three places are a list of three
pub list_of_three_is : {A : Type 0} (l : List A) (z : A) → length l ≡ 3 → l ≡ three (λ i. get_or l i z)
list_of_three_is [] z e = absurd (omega arith)
list_of_three_is (x ∷ []) z e = absurd (omega arith)
list_of_three_is (x ∷ y ∷ []) z e = absurd (omega arith)
list_of_three_is (x ∷ y ∷ w ∷ []) z e = refl
list_of_three_is (x ∷ y ∷ w ∷ v ∷ l) z e = absurd (omega arith)

pub day_terms_valid : (d : Day) → valid_day_numbers d ≡ true → all_three (λ k. valid_term (term_at d.terms k)) ≡ true
day_terms_valid d v = search (v, and_left, and_right)

-- ---- the rates of an evaluation are rates

-- a figure for each level, each within a most
levels_held : (rate : ℕ → ℕ) (most : ℕ) → ((l : ℕ) → rate l ≤ most) → (i : ℕ) → i < 3
    → rate_at (for_levels (λ l. record { bp = rate l })) i ≤ most
levels_held rate most h zero k = h 1
levels_held rate most h (suc zero) k = h 2
levels_held rate most h (suc (suc zero)) k = h 3
levels_held rate most h (suc (suc (suc i))) k = absurd (omega arith)

pub rates_held : (r : Record) (d : Day) (p : ℕ) → sound r ≡ true → (i : ℕ) → i < 3
    → rate_at (figures_at r d p).rates i ≤ rate_most
unfolding figures_at figures_of modelled unmodelled
rates_held r d p v i k = go r.statics.ewma
  where
    st : RateStatics r.statics
    st = valid_are_rate_statics r.statics (sound_facts r v).valid

    by_model : Figures
    by_model = modelled r.statics d.b d.m (rate_at r.rates 0) (move_to r p) r.s r.tentative

    go : (b : Bool) → rate_at (pick b by_model (unmodelled r.statics r.s r.tentative)).rates i ≤ rate_most
    go true = levels_held (λ l. level_rate r.statics by_model.tentative.bp d.m l) rate_most
        (λ l. le_trans (level_rate_within_most r.statics l d.m by_model.tentative.bp st) st.most_high) i k
    go false = levels_held (minimum_of r.statics) rate_most
        (λ l. le_trans (level_statics r.statics l st).1 st.most_high) i k
