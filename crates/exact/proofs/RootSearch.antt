-- The search of `least_root` on plain numbers: how it begins, goes on by a turn, and ends. With k bits to come, f is
-- what is found of the root of n - 1, rounded down; the least root of n is one more.
use mathlib.Core.Path.{◌≡◌, ap, sym, ◌∙◌}
use Prim.Native.Nat.{ℕ, ◌+◌, ◌-◌, ◌*◌, ◌^◌, ◌≤◌, ◌<◌}
use native.Mathlib.Nat.{mul-le-mul, mul-le-mul_right, mul-lt-mul_of_pos_right}
use native.Mathlib.Omega.{arith}
use lib.Pow.{pow-add, pow_pos, pow_mono}
use Rattle.paper.specs.Numbers.{one_in_ten_thousandths}
use Rattle.paper.specs.Least.{least_root}
use Rattle.paper.proofs.Search.{root_one_more}
use Rattle.exact.specs.declared.Found.{Found}
use Rattle.exact.specs.RootBits.{Searched, sought, OneBitMore}

-- the loops' invariant
pub record RootSearch (factor n k : ℕ) (f : Found) : Type 0 where
  pub searched : Searched factor k f
  pub number : sought factor k f ≡ (n - 1) * 2 ^ (20 - k)

-- nothing is found, and all of n - 1 is left, shifted by the bits that are passed over
abbrev pub nothing : (n k : ℕ) → Found
nothing n k = record { x = 0; doubled = 0; rest = (n - 1) * 2 ^ (20 - k) }

module _ (factor n k : ℕ) (few : k ≤ 20) (covers : n ≤ factor * (2 ^ k * 2 ^ k)) where
  shifted_covers : n * 2 ^ (20 - k) ≤ factor * 2 ^ k * 2 ^ 20
  shifted_covers =
      let p : ℕ = 2 ^ k in
      let q : ℕ = 2 ^ (20 - k) in
      let all : 20 ≡ k + (20 - k) = omega arith in
      let both : 2 ^ 20 ≡ p * q = ap (λ (z : ℕ). 2 ^ z) all ∙ pow-add 2 k (20 - k) in
      omega (arith, mul-le-mul_right q covers, ap (λ (z : ℕ). factor * p * z) both)

  -- what is at most n can be shifted as n - 1 is
  pub shifted_fits : (m : ℕ) → m ≤ n → factor ≤ one_in_ten_thousandths → m * 2 ^ (20 - k) < 2 ^ 64
  shifted_fits m most hfactor =
      omega (arith, mul-le-mul_right (2 ^ (20 - k)) most, shifted_covers, mul-le-mul hfactor (pow_mono few))

  pub begins : 0 < n → RootSearch factor n k (nothing n k)
  begins some =
      let less : n - 1 < n = omega arith in
      record {
        searched =
            record {
              bits = few;
              top = omega (arith, pow_mono few);
              doubled = omega arith;
              above = omega (arith, shifted_covers, mul-lt-mul_of_pos_right less (pow_pos (20 - k)));
            };
        number = omega arith;
      }

pub goes_on : (factor n k : ℕ) (f r : Found) → 0 < k → RootSearch factor n k f → OneBitMore factor k f r
    → RootSearch factor n (k - 1) r
goes_on factor n k f r pos s more =
    let one_less : 20 - (k - 1) ≡ 20 - k + 1 = omega (arith, s.searched.bits) in
    record { searched = more.searched; number = rw (one_less, pow-add) (omega arith) }

pub ends : (factor n : ℕ) (f : Found) → 0 < factor → 0 < n → RootSearch factor n 0 f → f.x + 1 ≡ least_root factor n
ends factor n f pos some s =
    sym (root_one_more factor n f.x pos (omega arith) (omega arith))
