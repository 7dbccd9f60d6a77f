-- Document 02, W-204: what is asked of the root, and of whom. "The least x whose square covers a number .. Its answers
-- stay the same."
use Rattle.std.specs.Prelude.{◌≡◌, ℕ, ◌+◌, ◌-◌, ◌*◌, ◌≤◌}
use Rattle.paper.specs.declared.Model.{Model}
use Rattle.paper.specs.Numbers.{one_in_ten_thousandths}
use Rattle.paper_desk.specs.Rates.{weight_of, weighted}

-- x is the least whole number with factor·x² ≥ n; nothing is said of how it is found
pub record IsLeastRoot (factor n x : ℕ) : Type 0 where
  pub covers : n ≤ factor * (x * x)
  pub least : (z : ℕ) → n ≤ factor * (z * z) → x ≤ z

-- the number that the root covers (7.1), (10,000 - a)·s² + a·r², with the weight a that a model gives for b, r and s
abbrev pub mean_of_squares : Model → (b r s : ℕ) → ℕ
mean_of_squares m b r s =
    let a : ℕ = weight_of m b r s in
    (one_in_ten_thousandths - a) * (s * s) + a * (r * r)

-- "Its answers stay the same", of a function of a factor and a number n: it asks `Asks` of the two, and promises
-- `Answers` of its answer x. It may be called for the root of a model's mean of squares, as at (f), and there its
-- promise allows one answer, which is the x of clause 7.1 and the least root however it is found.
pub record SameRoot (Asks : (factor n : ℕ) → Type 0) (Answers : (factor n x : ℕ) → Type 0) (m : Model) (b r s : ℕ) :
    Type 0 where
  pub asks : Asks one_in_ten_thousandths (mean_of_squares m b r s)
  pub weighted : (x : ℕ) → Answers one_in_ten_thousandths (mean_of_squares m b r s) x → x ≡ weighted (weight_of m b r s) s r
  pub least : (x : ℕ) → Answers one_in_ten_thousandths (mean_of_squares m b r s) x
      → IsLeastRoot one_in_ten_thousandths (mean_of_squares m b r s) x
  pub same : (x y : ℕ) → Answers one_in_ten_thousandths (mean_of_squares m b r s) x
      → IsLeastRoot one_in_ten_thousandths (mean_of_squares m b r s) y
      → x ≡ y
