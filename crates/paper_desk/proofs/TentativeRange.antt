-- W-208: what t is, how far the tentative rate runs, and the theorem that no evaluation takes it out of its range.
use mathlib.Core.Path.{◌≡◌, refl}
use mathlib.Core.Bool.{Bool, true, false}
use Prim.Native.Nat.{ℕ, ◌+◌, ◌*◌, ◌/◌, ◌%◌, ◌≤◌, ◌<◌}
use native.Mathlib.Nat.{le_trans, mul-le-mul, mul-le-mul_left}
use native.Mathlib.Omega.{arith}
use lib.Dec.{leb}
use borrow.Author.Tests.{leb-true, le-leb, eqb-true, eq-eqb, ltb-false}
use Rattle.paper.specs.declared.Statics.{Statics}
use Rattle.paper.specs.declared.Tentative.{Tentative}
use Rattle.paper.specs.Lists.{pick}
use Rattle.paper.specs.Numbers.{hundredths_of_millionths_in_bp, millionths_in_bp, volatility_most, tentative_most}
use Rattle.paper.specs.Numbers.{multiplier_most}
use Rattle.paper.specs.Ranges.{valid_statics, tentative_top, valid_tentative}
use Rattle.paper_desk.specs.Rates.{model_of, least_step, tentative_rate, tentative_rate_by_move, tentative_rate_of}
use Rattle.paper_desk.specs.Rates.{tentative_after, modelled, unmodelled, figures_of, move_too_large, IsLeastStep}
use Rattle.paper.proofs.Logic.{and_left, and_right, and_both, and_right_false}
use Rattle.paper.proofs.StaticsFacts.{statics_facts}
use Rattle.paper_desk.proofs.Steps.{step_is}
use Rattle.paper_desk.proofs.Volatility.{valid_weighs}
use Rattle.paper_desk.proofs.Bounds.{volatility_high, up_is_step, least_step_within_a_step, tentative_held}
use Rattle.paper_desk.proofs.Bounds.{tentative_multiple}
use Rattle.paper_desk.proofs.Level.{quotient_times_is}

-- ---- the top of the range

top_step : (h : ℕ) → 0 < h → tentative_top h ≡ least_step h 1 tentative_most
unfolding tentative_top
top_step h p = let one : 1 * h ≡ h = omega arith in rw one at (up_is_step h 1 tentative_most p (omega arith))

-- it is "the least multiple of h at or above 100,000 bp"
pub tentative_top_is : (h : ℕ) → 0 < h → IsLeastStep h 1 tentative_most (tentative_top h)
tentative_top_is h p = rw (top_step h p) (step_is h 1 tentative_most p (omega arith))

-- so it is less than a step above them
pub tentative_top_high : (h : ℕ) → 0 < h → tentative_top h < tentative_most + h
tentative_top_high h p = rw (top_step h p) (omega (arith, least_step_within_a_step h 1 tentative_most p (omega arith)))

-- ---- t

-- "the least multiple of h with 10,000·t ≥ q·s", whatever S_max is
pub tentative_rate_is : (st : Statics) (s : ℕ) → 0 < st.h
    → IsLeastStep st.h hundredths_of_millionths_in_bp (st.q * s) (tentative_rate st s)
unfolding tentative_rate
tentative_rate_is st s p = step_is st.h hundredths_of_millionths_in_bp (st.q * s) p (omega arith)

-- W-202: of a replacement, with 100·t ≥ r
pub tentative_rate_by_move_is : (st : Statics) (r : ℕ) → 0 < st.h
    → IsLeastStep st.h millionths_in_bp r (tentative_rate_by_move st r)
unfolding tentative_rate_by_move
tentative_rate_by_move_is st r p = step_is st.h millionths_in_bp r p (omega arith)

-- a least step is at most the top where the top covers
covered_high : (h factor n t : ℕ) → 0 < h → n ≤ factor * tentative_most → IsLeastStep h factor n t → t ≤ tentative_top h
covered_high h factor n t p most is =
    let top = tentative_top_is h p in
    let whole = quotient_times_is (tentative_top h) h top.multiple in
    let reached : tentative_most ≤ tentative_top h = omega (arith, top.enough) in
    let covered : n ≤ factor * tentative_top h = le_trans most (mul-le-mul_left factor reached) in
    rw whole at (is.least (tentative_top h / h) (rw whole covered))

in_range_lem : (h t : ℕ) → t ≤ tentative_top h → t % h ≡ 0 → valid_tentative h t ≡ true
unfolding valid_tentative
in_range_lem h t high multiple = and_both _ _ (le-leb t (tentative_top h) high) (eq-eqb (t % h) 0 multiple)

-- whichever rule makes it, t is in the tentative rate's range: q·s/10,000 is at most 100,000, and r/100 less
pub tentative_rate_in : (st : Statics) (replaced : Bool) (r s : ℕ) → 0 < st.h → st.q ≤ multiplier_most
    → r ≤ volatility_most → s ≤ volatility_most → valid_tentative st.h (tentative_rate_of st replaced r s) ≡ true
unfolding tentative_rate_of
tentative_rate_in st true r s p q hr hs =
    let is = tentative_rate_by_move_is st r p in
    in_range_lem st.h _ (covered_high st.h millionths_in_bp r _ p (omega arith) is) is.multiple
tentative_rate_in st false r s p q hr hs =
    let is = tentative_rate_is st s p in
    let most : st.q * s ≤ hundredths_of_millionths_in_bp * tentative_most = omega (arith, mul-le-mul q hs) in
    in_range_lem st.h _ (covered_high st.h hundredths_of_millionths_in_bp (st.q * s) _ p most is) is.multiple

-- ---- an evaluation

-- what a number in the range is
pub valid_tentative_within_top : (h t : ℕ) → valid_tentative h t ≡ true → t ≤ tentative_top h
unfolding valid_tentative
valid_tentative_within_top h t v = leb-true _ _ (and_left (leb t (tentative_top h)) _ v)

valid_multiple : (h t : ℕ) → valid_tentative h t ≡ true → t % h ≡ 0
unfolding valid_tentative
valid_multiple h t v = eqb-true _ _ (and_right (leb t (tentative_top h)) _ v)

-- the tentative rate becomes t, falls by a step, or stays: it is in the range each time
pub after_in : (h wait t : ℕ) (old : Tentative) → valid_tentative h t ≡ true → valid_tentative h old.bp ≡ true
    → valid_tentative h (tentative_after h wait t old).bp ≡ true
after_in h wait t old v w =
    in_range_lem h _ (tentative_held h wait t old (tentative_top h) (valid_tentative_within_top h t v)
    (valid_tentative_within_top h old.bp w))
    (tentative_multiple h wait t old (valid_multiple h t v) (valid_multiple h old.bp w))

pub statics_step_positive : (st : Statics) → valid_statics st ≡ true → 0 < st.h
statics_step_positive st v = (statics_facts st v).h.least

multiplier_high : (st : Statics) → valid_statics st ≡ true → st.q ≤ multiplier_most
multiplier_high st v = (statics_facts st v).q.most

-- with the model on
pub modelled_stays : (st : Statics) (b m s1 r s : ℕ) (old : Tentative) → valid_statics st ≡ true → r ≤ volatility_most
    → s ≤ volatility_most → valid_tentative st.h old.bp ≡ true
    → valid_tentative st.h (modelled st b m s1 r s old).tentative.bp ≡ true
unfolding modelled
modelled_stays st b m s1 r s old v hr hs w =
    after_in st.h st.wait _ old
    (tentative_rate_in st _ r _ (statics_step_positive st v) (multiplier_high st v) hr
    (volatility_high (model_of st) b (millionths_in_bp * s1) r s volatility_most (valid_weighs st v) hs hr)) w

-- No evaluation that is accepted takes the tentative rate out of its range
pub tentative_stays : (st : Statics) (b m s1 r s : ℕ) (old : Tentative) → valid_statics st ≡ true
    → move_too_large st r ≡ false → s ≤ volatility_most → valid_tentative st.h old.bp ≡ true
    → valid_tentative st.h (figures_of st b m s1 r s old).tentative.bp ≡ true
unfolding figures_of unmodelled move_too_large
tentative_stays st b m s1 r s old v small hs w = go st.ewma refl
  where
    go : (on : Bool) → st.ewma ≡ on
        → valid_tentative st.h (pick on (modelled st b m s1 r s old) (unmodelled st s old)).tentative.bp ≡ true
    go true e =
        modelled_stays st b m s1 r s old v (ltb-false volatility_most r (and_right_false st.ewma _ small e)) hs w
    go false e = w
