-- Laws of the two sides: the close between those that are present, what the median is, and the lesser of two asks.
use mathlib.Core.Path.{◌≡◌, refl, sym, ◌∙◌}
use Prim.Native.Nat.{ℕ, zero, suc, ◌≤◌, min, max}
use native.Mathlib.Omega.{arith}
use Rattle.paper_desk.specs.Evaluation.{lesser_ask, median, between}

-- ---- the median: the close held between the lower and the upper of the two sides, whichever is the bid

pub median_open : (bid close ask : ℕ) → bid ≤ ask → median bid close ask ≡ max bid (min close ask)
unfolding median
median_open bid close ask h = omega arith

pub median_crossed : (bid close ask : ℕ) → ask ≤ bid → median bid close ask ≡ max ask (min close bid)
unfolding median
median_crossed bid close ask h = omega arith

-- ---- the sides that are present

pub between_none_is_close : (bid close ask : ℕ) → bid ≡ 0 → ask ≡ 0 → close ≡ between bid close ask
unfolding between
between_none_is_close bid close ask p q = rw (p, q)

pub between_ask_alone_is_min : (bid close ask : ℕ) → bid ≡ 0 → (ask ≡ 0 → ⊥) → min close ask ≡ between bid close ask
unfolding between
between_ask_alone_is_min bid close zero p f = absurd (f refl)
between_ask_alone_is_min bid close (suc ask) p f = rw p

pub between_bid_alone_is_max : (bid close ask : ℕ) → (bid ≡ 0 → ⊥) → ask ≡ 0 → max close bid ≡ between bid close ask
unfolding between
between_bid_alone_is_max zero close ask f q = absurd (f refl)
between_bid_alone_is_max (suc bid) close ask f q = rw q

pub between_both_is_median : (bid close ask : ℕ) → (bid ≡ 0 → ⊥) → (ask ≡ 0 → ⊥)
    → median bid close ask ≡ between bid close ask
unfolding between
between_both_is_median zero close ask f g = absurd (f refl)
between_both_is_median (suc bid) close zero f g = absurd (g refl)
between_both_is_median (suc bid) close (suc ask) f g = refl

-- ---- the lesser of two asks, of which 0 is missing

pub lesser_is_second : (a b : ℕ) → a ≡ 0 → b ≡ lesser_ask a b
unfolding lesser_ask
lesser_is_second a b p = rw p

pub lesser_is_first : (a b : ℕ) → b ≡ 0 → a ≡ lesser_ask a b
unfolding lesser_ask
lesser_is_first zero b q = sym q
lesser_is_first (suc a) b q = rw q

pub lesser_is_min : (a b : ℕ) → (a ≡ 0 → ⊥) → (b ≡ 0 → ⊥) → min a b ≡ lesser_ask a b
unfolding lesser_ask
lesser_is_min zero b f g = absurd (f refl)
lesser_is_min (suc a) zero f g = absurd (g refl)
lesser_is_min (suc a) (suc b) f g = refl

pub lesser_le : (a b n : ℕ) → a ≤ n → b ≤ n → lesser_ask a b ≤ n
unfolding lesser_ask
lesser_le zero b n p q = q
lesser_le (suc a) zero n p q = p
lesser_le (suc a) (suc b) n p q = omega arith

min_assoc : (a b c : ℕ) → min (min a b) c ≡ min a (min b c)
min_assoc a b c = omega arith

pub lesser_assoc : (a b c : ℕ) → lesser_ask (lesser_ask a b) c ≡ lesser_ask a (lesser_ask b c)
unfolding lesser_ask
lesser_assoc zero b c = refl
lesser_assoc (suc a) zero c = refl
lesser_assoc (suc a) (suc b) zero = sym (lesser_is_first (min (suc a) (suc b)) 0 refl)
lesser_assoc (suc a) (suc b) (suc c) =
    let f : min (suc a) (suc b) ≡ 0 → ⊥ = λ e. omega arith in
    let g : min (suc b) (suc c) ≡ 0 → ⊥ = λ e. omega arith in
    let s : suc a ≡ 0 → ⊥ = λ e. omega arith in
    let t : suc c ≡ 0 → ⊥ = λ e. omega arith in
    sym (lesser_is_min (min (suc a) (suc b)) (suc c) f t) ∙ min_assoc (suc a) (suc b) (suc c)
    ∙ lesser_is_min (suc a) (min (suc b) (suc c)) s g
