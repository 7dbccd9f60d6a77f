-- Clause 14.6: the key maturities that every figure for a term is read off.
use Rattle.std.specs.Prelude.{◌≡◌, ⊤, Contains, List, ℕ, ◌≤◌, ◌<◌, ℤ}
use Rattle.paper.specs.declared.Maturity.{Maturity}
use Rattle.paper_interest.specs.Interest.{figure_at, interpolated}
use Rattle.interest_maturities.specs.declared.Nearest.{Nearest}
use Rattle.interest_maturities.specs.declared.Nearest.TheVariants.{One, Two}

-- a figure for a term of y days, read off one key maturity, or between two
abbrev pub figure_between : (Maturity → ℤ) → Nearest → (y : ℕ) → ℤ
figure_between f (One k) y = f k
figure_between f (Two k l) y = interpolated k.t (f k) l.t (f l) y

-- they are key maturities of the evening
abbrev pub Among : List Maturity → Nearest → Type 0
Among ks (One k) = Contains ks k
Among ks (Two k l) = Contains ks k × Contains ks l

-- where there are two, the term is after the first and not after the second
abbrev pub Around : (y : ℕ) → Nearest → Type 0
Around y (One k) = ⊤
Around y (Two k l) = (k.t < y) × (y ≤ l.t)

pub record Reads (ks : List Maturity) (y : ℕ) (n : Nearest) : Type 0 where
  pub among : Among ks n
  pub around : Around y n
  pub reads : (f : Maturity → ℤ) → figure_at f ks y ≡ figure_between f n y
