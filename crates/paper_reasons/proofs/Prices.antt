-- The price: it equals one of the figures that set it, so one of the four reasons holds, and the figure of the reason
-- that is named, on the grid, is the evaluation.
use mathlib.Core.Path.{◌≡◌, refl, ap, ◌∙◌}
use mathlib.Core.Logic.{◌⊎◌, inl, inr}
use mathlib.Core.Bool.{Bool, true, false, not, ◌||◌}
use mathlib.Core.List.{List, [], ◌∷◌}
use Prim.Native.Nat.{ℕ, zero, suc, ◌≤◌, ◌<◌, min, max}
use native.Mathlib.Omega.{arith}
use lib.Dec.{ltb}
use borrow.Author.Tests.{eq-eqb, lt-ltb}
use Rattle.paper.specs.declared.External.{External}
use Rattle.paper.specs.declared.Roubles.{Roubles}
use Rattle.paper.specs.Lists.{pick, some, those}
use Rattle.paper_desk.specs.Evaluation.{traded, mean, close_of, bid_of, ask_of, median, between}
use Rattle.paper.specs.Verdicts.{NoneApplies, none, also}
use Rattle.paper.proofs.Logic.{not_true_and_false, and_both, le_or_lt}
use Rattle.paper_reasons.specs.declared.PriceReason.TheVariants as price
use Rattle.paper_reasons.specs.Reasons.{is_in_order, is_traded, before_grid, price_set_by, price_reasons, price_reason}
use Rattle.paper_reasons.specs.Reasons.{TrueReason}
use Rattle.paper_reasons.proofs.First.{true_reason}

-- where no row has a weight none is left
untraded : (rs : List Roubles) → is_traded rs ≡ false → traded rs ≡ []
unfolding is_traded traded some those
untraded [] e = refl
untraded (r ∷ rs) e = go (ltb 0 r.weight) e (untraded rs)
  where
    go : (b : Bool) → (b || is_traded rs) ≡ false → (is_traded rs ≡ false → traded rs ≡ [])
        → pick b (r ∷ traded rs) (traded rs) ≡ []
    go true e rest = absurd (not_true_and_false true refl e)
    go false e rest = rest e

-- "With no such row it is the previous evaluation."
pub close_untraded : (previous : ℕ) (rs : List Roubles) → is_traded rs ≡ false → close_of previous rs ≡ previous
unfolding close_of mean
close_untraded previous rs e = ap (mean previous) (untraded rs e)

-- the price before the grid is the close, or a BID or an ASK that is present
pub between_is_one_of_three : (bid close ask : ℕ) → (between bid close ask ≡ close)
    ⊎ (((0 < bid) × (between bid close ask ≡ bid)) ⊎ ((0 < ask) × (between bid close ask ≡ ask)))
unfolding between median
between_is_one_of_three zero close zero = inl refl
between_is_one_of_three zero close (suc ask) = go (le_or_lt close (suc ask))
  where
    go : (close ≤ suc ask) ⊎ (suc ask < close) → (min close (suc ask) ≡ close)
        ⊎ (((0 < 0) × (min close (suc ask) ≡ 0)) ⊎ ((0 < suc ask) × (min close (suc ask) ≡ suc ask)))
    go (inl l) = inl (omega arith)
    go (inr l) = inr (inr (omega arith, omega arith))
between_is_one_of_three (suc bid) close zero = go (le_or_lt (suc bid) close)
  where
    go : (suc bid ≤ close) ⊎ (close < suc bid) → (max close (suc bid) ≡ close)
        ⊎ (((0 < suc bid) × (max close (suc bid) ≡ suc bid)) ⊎ ((0 < 0) × (max close (suc bid) ≡ 0)))
    go (inl l) = inl (omega arith)
    go (inr l) = inr (inl (omega arith, omega arith))
between_is_one_of_three (suc bid) close (suc ask) =
    go (le_or_lt (suc bid) close) (le_or_lt (max (suc bid) close) (suc ask)) (le_or_lt (min (suc bid) close) (suc ask))
  where
    m : ℕ
    m = max (min (suc bid) close) (min (max (suc bid) close) (suc ask))

    go : (suc bid ≤ close) ⊎ (close < suc bid) → (max (suc bid) close ≤ suc ask) ⊎ (suc ask < max (suc bid) close)
        → (min (suc bid) close ≤ suc ask) ⊎ (suc ask < min (suc bid) close) → (m ≡ close)
        ⊎ (((0 < suc bid) × (m ≡ suc bid)) ⊎ ((0 < suc ask) × (m ≡ suc ask)))
    go (inl l) (inl k) j = inl (omega arith)
    go (inl l) (inr k) (inl j) = inr (inr (omega arith, omega arith))
    go (inl l) (inr k) (inr j) = inr (inl (omega arith, omega arith))
    go (inr l) (inl k) j = inr (inl (omega arith, omega arith))
    go (inr l) (inr k) (inl j) = inr (inr (omega arith, omega arith))
    go (inr l) (inr k) (inr j) = inl (omega arith)

module _ (previous : ℕ) (used : External) (rs : List Roubles) where
  -- one of the four conditions holds
  pub one_set_it : NoneApplies (is_in_order (price_set_by previous used rs) price_reasons) → ⊥
  unfolding price_set_by
  one_set_it (also a (also b (also c (also d none)))) =
      go (between_is_one_of_three (bid_of used rs) (close_of previous rs) (ask_of used rs)) (is_traded rs) refl
    where
      go : (before_grid previous used rs ≡ close_of previous rs)
          ⊎ (((0 < bid_of used rs) × (before_grid previous used rs ≡ bid_of used rs))
          ⊎ ((0 < ask_of used rs) × (before_grid previous used rs ≡ ask_of used rs)))
          → (t : Bool) → is_traded rs ≡ t → ⊥
      go (inl e) true t = not_true_and_false _ (and_both _ _ t (eq-eqb _ _ e)) a
      go (inl e) false t = not_true_and_false _ (and_both _ _ (ap not t)
          (eq-eqb _ _ (e ∙ close_untraded previous rs t))) d
      go (inr (inl (l, e))) t q = not_true_and_false _ (and_both _ _ (lt-ltb _ _ l) (eq-eqb _ _ e)) b
      go (inr (inr (l, e))) t q = not_true_and_false _ (and_both _ _ (lt-ltb _ _ l) (eq-eqb _ _ e)) c

  pub price_named : TrueReason (price_set_by previous used rs) price_reasons (price_reason previous used rs)
  unfolding price_reason
  price_named = true_reason price.None (price_set_by previous used rs) price_reasons one_set_it
