-- What is known when an admission is written, and what shifting three ranges asks of their numbers: no more than a
-- valid admission and a sound record give.
use Rattle.std.specs.Prelude.{◌≡◌, true, List, ℕ, ◌≤◌, get_or}
use Rattle.paper.specs.declared.Price.{Price}
use Rattle.paper.specs.declared.Admission.{Admission}
use Rattle.paper.specs.declared.Limits.{Limits}
use Rattle.paper.specs.Numbers.{limit_most}
use Rattle.paper.specs.Ranges.{no_limits, valid_admission}
use Rattle.limits.specs.LimitRanges.{EachOfThree}
use Rattle.limits.specs.LimitBounds.{delta_most}

-- 4 does not apply, and the two latest evaluations that are given are these prices
pub record Admitting (a : Admission) (p1 p2 : Price) : Type 0 where
  pub valid : valid_admission a ≡ true
  pub later : p1 ≡ record { units = a.p1 }
  pub earlier : p2 ≡ record { units = a.p2 }

-- of three ranges that are shifted, delta and each upper limit are in range
abbrev pub Shiftable : (delta : ℕ) → (ranges : List Limits) → Type 0
Shiftable delta ranges = EachOfThree (λ i. (delta ≤ delta_most) × ((get_or ranges i no_limits).upper ≤ limit_most))
