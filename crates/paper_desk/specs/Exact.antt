-- Demand 3: the volatility worked out again as an exact fraction under the root.
use Rattle.std.specs.Prelude.{◌≡◌, ◌⊎◌, List, [], ◌∷◌, ℕ, suc, ◌+◌, ◌-◌, ◌*◌, ◌≤◌, ◌<◌, ℤ}
use Rattle.std.specs.declared.option.Option.{Option}
use Rattle.std.specs.declared.option.Option.TheVariants.{None, Some}
use Rattle.paper.specs.declared.Model.{Model}
use Rattle.paper.specs.declared.Admission.{Admission}
use Rattle.paper.specs.declared.Day.{Day}
use Rattle.paper.specs.Lists.{pick}
use Rattle.paper.specs.Numbers.{one_in_ten_thousandths, one_in_millionths, millionths_in_bp, one_in_hundredths}
use Rattle.paper.specs.Roundings.{Quotient, RoundedUp, greater_of, apart}
use Rattle.paper.specs.Ranges.{statics_of, rate_at}
use Rattle.paper_desk.specs.Rates.{model_of, Weighing, move_of, weight_of, replacement_wins, volatility_of}
use Rattle.paper_desk.specs.Desk.{Ask, rule_of}
use Rattle.paper_desk.specs.Sequences.{Carries, carries}

-- which figure the carried volatility chose: the mean by a weight, or the replacement
pub data Choice : Type 0 where
  by_weight : ℕ → Choice
  replaced : Choice

-- ---- the exact square

-- the greater of |P - P1|/P1 and |P - P2|/P2 in millionths, not rounded
unfoldable pub exact_move : (p p1 p2 : ℕ) → Quotient
exact_move p p1 p2 =
    greater_of (record { num = apart p p2 * one_in_millionths; den = p2 })
    (record { num = apart p p1 * one_in_millionths; den = p1 })

-- (10,000 - a)/10,000 of the old square and a/10,000 of the move's; or the square of 100·r/q
unfoldable pub next_square : (q : ℕ) → (x r : Quotient) → Choice → Quotient
next_square q x r (by_weight a) =
    record {
      num = (one_in_ten_thousandths - a) * x.num * (r.den * r.den) + a * (r.num * r.num) * x.den;
      den = one_in_ten_thousandths * x.den * (r.den * r.den);
    }
next_square q x r replaced =
    record { num = one_in_hundredths * r.num * (one_in_hundredths * r.num); den = r.den * q * (r.den * q) }

-- the choice that the volatility's rule makes in an evaluation
unfoldable pub choice_of : Model → (b r last s : ℕ) → Choice
choice_of m b r last s = pick (replacement_wins m b r last s) replaced (by_weight (weight_of m b r s))

-- s was carried on n times by the volatility's rule, and x is the exact square by the same choices. Each time has its
-- own weights and multiplier, its own last rate and a move that is rounded up
pub data CarriedOn : (n s : ℕ) → Quotient → Type 0 where
  begun : (s : ℕ) → CarriedOn 0 s (record { num = s * s; den = 1 })
  once_more : {n s : ℕ} {x : Quotient} → CarriedOn n s x → (m : Model) (b last r : ℕ) (move : Quotient) → Weighing m
      → RoundedUp r move
      → CarriedOn (suc n) (volatility_of m b r last s) (next_square m.q x move (choice_of m b r last s))

-- the exact square after one ask more, from the square x before it, what was carried before it and the evaluation p after
-- it: what is no evaluation carries nothing on
abbrev pub square_then : Admission → Option (Day × List ℤ) → (x : Quotient) → (before : Carries) → (p : ℕ) → Quotient
square_then a None x before p = x
square_then a (Some (d, rows)) x before p =
    next_square a.given.q x (exact_move p before.p1 before.p2)
    (choice_of (model_of (statics_of a.given)) d.b (move_of p before.p1 before.p2)
    (millionths_in_bp * rate_at before.rates 0) before.s)

-- the exact square in square millionths: from the s of the admission, by the move of each accepted evaluation as it is,
-- not rounded, and by the choice that the carried figure made in it
unfoldable pub exact_square : Admission → List Ask → Quotient
exact_square a [] = record { num = a.s * a.s; den = 1 }
exact_square a (x ∷ xs) =
    square_then a (rule_of x).evaluates (exact_square a xs) (carries a xs) (carries a (x ∷ xs)).p1

-- ---- the promise

-- demand 3 "in whole numbers, with n the accepted evaluations and the exact square kept as N/D .., D above 0": "s²·D ≥
-- N, and s ≤ n or (s - n - 1)²·D < N; at n 0, s²·D = N"
pub record NearExact (n s : ℕ) (square : Quotient) : Type 0 where
  pub above : square.num ≤ s * s * square.den
  pub close : (s ≤ n) ⊎ ((s - n - 1) * (s - n - 1) * square.den < square.num)
  pub exact : n ≡ 0 → s * s * square.den ≡ square.num
  pub positive : 0 < square.den
