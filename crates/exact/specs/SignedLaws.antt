-- Laws of signed numbers for those who read a day: their order, what a range gives, and how far a term's repo rate
-- moves a base.
use Rattle.std.specs.Prelude.{◌≡◌, refl, true, false, ℕ, suc, ◌+◌, ◌*◌, ◌^◌, ◌≤◌, ◌<◌, leb, ℤ, pos, negsuc}
use Rattle.std.proofs.Common.{◌∙◌, mul-le-mul, arith, leb-true, ltb-true, le-leb, le-ltb}
use Rattle.std.specs.Int.Signed.{mag, le_z, lt_z}
use Rattle.paper.specs.Numbers.{one_in_bp, term_days_most, repo_least, repo_most, past_every}
use Rattle.paper.specs.Ranges.{within_z, unsigned}
use Rattle.paper.specs.Roundings.{grown}
use Rattle.paper.proofs.Logic.{not_true_and_false, and_left, and_right}
use Rattle.paper_desk.proofs.Units.{unsigned_within}

-- no natural number is below 0, and every other number is
pub natural_not_below_zero : (n : ℕ) → lt_z (pos n) (pos 0) ≡ true → ⊥
natural_not_below_zero n e = let h : n < 0 = ltb-true n 0 e in omega arith

pub negative_below_zero : (n : ℕ) → lt_z (negsuc n) (pos 0) ≡ false → ⊥
negative_below_zero n e = not_true_and_false true refl e

-- "-9,999..9,999 bp"
pub between_repo_ends_within_most : (x : ℤ) → le_z repo_least x ≡ true → le_z x repo_most ≡ true → mag x ≤ mag repo_most
between_repo_ends_within_most (pos n) low high = leb-true n 9999 high
between_repo_ends_within_most (negsuc n) low high = let l : n ≤ 9998 = leb-true n 9998 low in omega arith

-- and the other way round, of its end
pub within_most_is_at_most : (x : ℤ) → mag x ≤ mag repo_most → le_z x repo_most ≡ true
within_most_is_at_most (pos n) h = le-leb n 9999 h
within_most_is_at_most (negsuc n) h = refl

pub repo_within_most : (x : ℤ) → within_z repo_least repo_most x ≡ true → mag x ≤ mag repo_most
repo_within_most x e = between_repo_ends_within_most x (and_left (le_z repo_least x) (le_z x repo_most) e)
    (and_right (le_z repo_least x) (le_z x repo_most) e)

-- a number of a range that begins at 0 or above is at most the range's end
pub unsigned_le : (low most : ℕ) (x : ℤ) → most < past_every → within_z (pos low) (pos most) x ≡ true → unsigned x ≤ most
unsigned_le low most x h e =
    leb-true (unsigned x) most
    (and_right (leb low (unsigned x)) (leb (unsigned x) most) (unsigned_within low most x h ∙ e))

-- and is not below zero
pub within_not_below_zero : (low : ℕ) (high x : ℤ) → within_z (pos low) high x ≡ true → lt_z x (pos 0) ≡ false
within_not_below_zero low high (pos n) e = le-ltb n 0 (omega arith)
within_not_below_zero low high (negsuc n) e = absurd (not_true_and_false false e refl)

-- ---- base + k·rate

-- a term's days at less than the whole each: 300,000
abbrev pub growth_most : ℕ
growth_most = term_days_most * one_in_bp

-- base + k·rate stays above 0 and fits 64 bits
pub record Grows (base k : ℕ) (rate : ℤ) : Type 0 where
  pub days : k ≤ term_days_most
  pub size : mag rate ≤ mag repo_most
  pub least : growth_most ≤ base
  pub most : base ≤ 2 ^ 62

-- k·rate moves base by at most 300,000 either way
pub grown_near_base : (base k : ℕ) (x : ℤ) → k ≤ term_days_most → mag x ≤ mag repo_most
    → (grown base k x ≤ base + growth_most) × (base ≤ grown base k x + growth_most)
unfolding grown
grown_near_base base k (pos n) hk h = omega (arith, mul-le-mul hk h)
grown_near_base base k (negsuc n) hk h =
    let more : suc n ≤ one_in_bp = omega arith in
    omega (arith, mul-le-mul hk more)
