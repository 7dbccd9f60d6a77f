-- A reason's figure is the figure: the price on the grid, the weight, the volatility, the tentative rate and the rate
-- of a level are what the reason that is named says.
use mathlib.Core.Path.{◌≡◌, refl, sym, ap, ◌∙◌}
use mathlib.Core.Bool.{Bool, true, false, not, ◌&&◌}
use mathlib.Core.List.{List, map}
use Prim.Native.Nat.{ℕ, ◌+◌, ◌-◌, min, max}
use native.Mathlib.Nat.{max-zero, max-eq_left, max-eq_right}
use native.Mathlib.Omega.{arith}
use lib.Dec.{leb, ltb}
use borrow.Author.Tests.{eqb-true, ltb-true, ltb-false, leb-false, le-leb, lt-ltb, le-ltb}
use Rattle.paper.specs.declared.Row.{Row}
use Rattle.paper.specs.declared.External.{External}
use Rattle.paper.specs.declared.Roubles.{Roubles}
use Rattle.paper.specs.declared.Model.{Model}
use Rattle.paper.specs.declared.Statics.{Statics}
use Rattle.paper.specs.declared.Tentative.{Tentative}
use Rattle.paper.specs.Lists.{pick}
use Rattle.paper.specs.Numbers.{age_most}
use Rattle.paper.specs.Roundings.{to_grid}
use Rattle.paper.specs.Ranges.{valid_statics}
use Rattle.paper_desk.specs.Evaluation.{roubles_of, bid_of, ask_of, evaluation_of}
use Rattle.paper_desk.specs.Rates.{weight_of, weighted, replacement, replaces, replacement_wins, volatility_of}
use Rattle.paper_desk.specs.Rates.{tentative_after}
use Rattle.paper_desk.specs.Rates.{tentative_rate, tentative_rate_by_move, tentative_rate_of, minimum_of, covers, level_rate}
use Rattle.paper.proofs.Logic.{not_true_and_false, and_right, and_both, pick_true}
use Rattle.paper_reasons.specs.declared.PriceReason.{PriceReason}
use Rattle.paper_reasons.specs.declared.PriceReason.TheVariants as price
use Rattle.paper_reasons.specs.declared.WeightReason.TheVariants as weight
use Rattle.paper_reasons.specs.declared.ReplacementReason.TheVariants as chosen
use Rattle.paper_reasons.specs.declared.TentativeReason.TheVariants as tentative
use Rattle.paper_reasons.specs.declared.LevelReason.{LevelReason}
use Rattle.paper_reasons.specs.declared.LevelReason.TheVariants as level
use Rattle.paper_reasons.specs.Reasons.{is_traded, before_grid, price_set_by, price_reason, weight_given, weight_reason}
use Rattle.paper_reasons.specs.Reasons.{replacement_was, replacement_reason, tentative_did, tentative_reason}
use Rattle.paper_reasons.specs.Reasons.{level_set_by, level_reason}
use Rattle.paper_reasons.specs.Figures.{price_figure, weight_figure, volatility_figure, step_figure, tentative_figure}
use Rattle.paper_reasons.specs.Figures.{level_figure, replacement_taken}
use Rattle.paper_reasons.proofs.Prices.{price_named}
use Rattle.paper_reasons.proofs.Levels.{level_named_lem}

-- the figure whose condition holds is the price before the grid
set_by_lem : (previous : ℕ) (used : External) (rs : List Roubles) (x : PriceReason) → price_set_by previous used rs x ≡ true
    → before_grid previous used rs ≡ price_figure previous used rs x
unfolding price_set_by price_figure
set_by_lem previous used rs price.None e = absurd (not_true_and_false false e refl)
set_by_lem previous used rs price.Close e = eqb-true _ _ (and_right (is_traded rs) _ e)
set_by_lem previous used rs price.Bid e = eqb-true _ _ (and_right (ltb 0 (bid_of used rs)) _ e)
set_by_lem previous used rs price.Ask e = eqb-true _ _ (and_right (ltb 0 (ask_of used rs)) _ e)
set_by_lem previous used rs price.Yesterday e = eqb-true _ _ (and_right (not (is_traded rs)) _ e)

-- PRICE CLOSE: the evaluation is the close on the grid; and so for the others
pub price_is : (g previous : ℕ) (used : External) (rows : List Row)
    → let rs : List Roubles = map roubles_of rows in
    evaluation_of g previous used rows ≡ to_grid g (price_figure previous used rs (price_reason previous used rs)) 1
unfolding evaluation_of
price_is g previous used rows =
    let rs : List Roubles = map roubles_of rows in
    ap (λ (x : ℕ). to_grid g x 1)
    (set_by_lem previous used rs (price_reason previous used rs) (price_named previous used rs).condition)

-- ---- x and y

module _ (m : Model) (b r last s : ℕ) where
  abbrev x : ℕ
  x = weighted (weight_of m b r s) s r

  abbrev y : ℕ
  y = replacement m.q r

  -- "s is the greater": new s is the greater of x and y, which is 0 where it is not taken
  pub greater_is : volatility_of m b r last s ≡ max x (replacement_taken m b r last)
  unfolding volatility_of replaces replacement_taken
  greater_is = go (leb b 1) (ltb last r) (ltb x y) refl
    where
      go : (few above : Bool) (less : Bool) → ltb x y ≡ less
          → pick (few && above && less) y x ≡ max x (pick (few && above) y 0)
      go true true true e = sym (max-eq_right (omega (arith, ltb-true x y e)))
      go true true false e = sym (max-eq_left (ltb-false x y e))
      go true false less e = sym (max-zero x)
      go false above less e = sym (max-zero x)

  -- the replacement won where y is above x
  pub won_is : ltb x (replacement_taken m b r last) ≡ replacement_wins m b r last s
  unfolding replaces replacement_taken
  won_is = go (leb b 1) (ltb last r)
    where
      go : (few above : Bool) → ltb x (pick (few && above) y 0) ≡ (few && above && ltb x y)
      go true true = refl
      go true false = le-ltb x 0 (omega arith)
      go false above = le-ltb x 0 (omega arith)

-- With isEWMA yes:
module _ (st : Statics) (ewma : st.ewma ≡ true) where
  -- WEIGHT
  pub weight_is : (m : Model) (b r s : ℕ) → weight_of m b r s ≡ weight_figure m (weight_reason st b r s)
  unfolding weight_of weight_figure weight_reason weight_given
  weight_is m b r s = rw ewma (go (ltb 1 b) (ltb s r) (leb r s) (λ e. le-leb r s (ltb-false s r e)))
    where
      go : (none above below : Bool) → (above ≡ false → below ≡ true) → pick none 0 (pick above m.aup m.adown)
          ≡ weight_figure m (pick none weight.Zero (pick above weight.Up (pick below weight.Down weight.None)))
      go true above below e = refl
      go false true below e = refl
      go false false below e = rw (e refl)

  -- REPLACEMENT
  pub volatility_is : (m : Model) (b last r s : ℕ) → volatility_of m b r last s
      ≡ volatility_figure m (weight_of m b r s) r s (replacement_reason st (replacement_wins m b r last s))
  unfolding volatility_of volatility_figure replacement_reason replacement_was
  volatility_is m b last r s = rw ewma (go (replacement_wins m b r last s))
    where
      x : ℕ
      x = weighted (weight_of m b r s) s r

      go : (won : Bool) → pick won (replacement m.q r) x
          ≡ volatility_figure m (weight_of m b r s) r s (pick won chosen.Yes (pick (not won) chosen.No chosen.None))
      go true = refl
      go false = refl

  -- THE t OF THE DAY
  pub step_is : (won : Bool) (r s : ℕ) → tentative_rate_of st won r s ≡ step_figure st r s (replacement_reason st won)
  unfolding tentative_rate_of step_figure replacement_reason replacement_was
  step_is won r s = go won ∙ ap (step_figure st r s) (sym (pick_true st.ewma _ chosen.None ewma))
    where
      go : (won : Bool) → pick won (tentative_rate_by_move st r) (tentative_rate st s)
          ≡ step_figure st r s (pick won chosen.Yes (pick (not won) chosen.No chosen.None))
      go true = refl
      go false = refl

  -- TENTATIVE
  pub tentative_is : (t : ℕ) (old : Tentative) → (tentative_after st.h st.wait t old).bp
      ≡ tentative_figure st.h t old.bp (tentative_reason st t old)
  unfolding tentative_after tentative_figure tentative_reason tentative_did
  tentative_is t old =
      rw ewma (go (leb (old.bp + st.h) t) (leb (t + st.h) old.bp) (leb st.wait (old.age + 1))
      (ltb t (old.bp + st.h) && ltb old.bp (t + st.h)) within)
    where
      within : leb (old.bp + st.h) t ≡ false → leb (t + st.h) old.bp ≡ false
          → (ltb t (old.bp + st.h) && ltb old.bp (t + st.h)) ≡ true
      within r l =
          and_both (ltb t (old.bp + st.h)) (ltb old.bp (t + st.h))
          (lt-ltb t (old.bp + st.h) (leb-false (old.bp + st.h) t r))
          (lt-ltb old.bp (t + st.h) (leb-false (t + st.h) old.bp l))

      go : (rose low over level : Bool) → (rose ≡ false → low ≡ false → level ≡ true)
          → (pick {A = Tentative} rose (record { bp = t; age = 0 }) (pick (low && over)
          (record { bp = old.bp - st.h; age = 0 })
          (record { bp = old.bp; age = min age_most (old.age + 1) }))).bp
          ≡ tentative_figure st.h t old.bp (pick rose tentative.Rose (pick (low && over) tentative.Fell
          (pick low tentative.Waited (pick level tentative.Level tentative.None))))
      go true low over level e = refl
      go false true true level e = refl
      go false true false level e = refl
      go false false over level e = rw (e refl refl)

-- LEVEL: with isEWMA yes
level_set_by_lem : (st : Statics) (l m t rate : ℕ) (x : LevelReason) → level_set_by st t m l rate x ≡ true
    → rate ≡ level_figure st t m l x
unfolding level_set_by level_figure
level_set_by_lem st l m t rate level.None e = absurd (not_true_and_false false e refl)
level_set_by_lem st l m t rate level.Requirement e = eqb-true _ _ (and_right (covers st t m l st.smax) _ e)
level_set_by_lem st l m t rate level.Minimum e = eqb-true _ _ e
level_set_by_lem st l m t rate level.Maximum e = eqb-true _ _ e

pub level_is : (st : Statics) (l m t : ℕ) → valid_statics st ≡ true → st.ewma ≡ true
    → level_rate st t m l ≡ level_figure st t m l (level_reason st t m l (level_rate st t m l))
level_is st l m t v ewma =
    level_set_by_lem st l m t (level_rate st t m l) (level_reason st t m l (level_rate st t m l))
    (level_named_lem st l m t v ewma).condition

-- and with isEWMA no: the rate is the minimum, which is what is named
pub level_unmodelled : (st : Statics) (l m t rate : ℕ) → st.ewma ≡ false
    → level_figure st t m l (level_reason st t m l rate) ≡ minimum_of st l
unfolding level_reason level_figure
level_unmodelled st l m t rate off = rw off
