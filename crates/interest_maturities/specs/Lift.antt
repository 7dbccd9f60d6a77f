-- Rates of either sign on a base that no rate reaches below, so that they are natural numbers, and what of rates is
-- worked out in these.
use Rattle.std.specs.Prelude.{◌≡◌, ℕ, ◌+◌, ◌-◌, ◌≤◌, ℤ, pos, negsuc, nat_abs, ◌+ℤ◌, ◌-ℤ◌}
use Rattle.std.proofs.Common.{sym, ap, ◌∙◌, arith}
use Rattle.std.proofs.Math.IntN.{sub_ℕ}
use Rattle.paper.specs.Numbers.{repo_most}
use Rattle.paper.specs.Roundings.{grown, apart, at_least_zero}
use Rattle.paper_interest.specs.Interest.{apart_z}
use Rattle.paper.proofs.Differences.{differences_equal, whole_is_difference, difference_plus, difference_minus}
use Rattle.paper.proofs.Differences.{difference_size_is_apart}
use Rattle.paper_interest.proofs.Lifted.{lifted_is, difference_at_least_zero}

-- the base; it is no number of the paper
abbrev pub lift : ℕ
lift = 1000000

abbrev pub lifted : ℤ → ℕ
lifted x = grown lift 1 x

-- a rate moves the base by at most 9,999 either way
pub lifted_within : (x : ℤ) → nat_abs x ≤ nat_abs repo_most
    → (lifted x ≤ lift + nat_abs repo_most) × (lift ≤ lifted x + nat_abs repo_most)
unfolding grown
lifted_within (pos n) h = omega arith
lifted_within (negsuc n) h = omega arith

-- x - y
pub lifted_minus : (x y : ℤ) → nat_abs x ≤ nat_abs repo_most → nat_abs y ≤ nat_abs repo_most
    → x -ℤ y ≡ sub_ℕ (lifted x) (lifted y)
lifted_minus x y h k =
    let left : x ≡ sub_ℕ (lifted x) lift = lifted_is lift x (omega arith) in
    let right : y ≡ sub_ℕ (lifted y) lift = lifted_is lift y (omega arith) in
    ap (λ (z : ℤ). z -ℤ y) left
    ∙ ap (λ (z : ℤ). sub_ℕ (lifted x) lift -ℤ z) right
    ∙ difference_minus (lifted x) lift (lifted y) lift
    ∙ differences_equal (lifted x + lift) (lift + lifted y) (lifted x) (lifted y) (omega arith)

-- |x - y|
pub lifted_apart : (x y : ℤ) → nat_abs x ≤ nat_abs repo_most → nat_abs y ≤ nat_abs repo_most
    → apart (lifted x) (lifted y) ≡ apart_z x y
unfolding apart_z
lifted_apart x y h k = sym (ap nat_abs (lifted_minus x y h k) ∙ difference_size_is_apart (lifted x) (lifted y))

-- x - y + n, where below zero counts as 0
pub lifted_part : (x y : ℤ) (n : ℕ) → nat_abs x ≤ nat_abs repo_most → nat_abs y ≤ nat_abs repo_most
    → lifted x + n - lifted y ≡ at_least_zero ((x -ℤ y) +ℤ pos n)
lifted_part x y n h k =
    sym
    (ap (λ (z : ℤ). at_least_zero (z +ℤ pos n)) (lifted_minus x y h k)
    ∙ ap (λ (z : ℤ). at_least_zero (sub_ℕ (lifted x) (lifted y) +ℤ z)) (whole_is_difference n)
    ∙ ap at_least_zero (difference_plus (lifted x) (lifted y) n 0)
    ∙ difference_at_least_zero (lifted x + n) (lifted y + 0)
    ∙ omega arith)
