-- One evaluation with the model on: the new volatility stays near the exact one.
use mathlib.Core.Path.{◌≡◌, refl}
use mathlib.Core.Bool.{Bool, true, false}
use Prim.Native.Nat.{ℕ, ◌+◌, ◌-◌, ◌*◌, ◌≤◌, ◌<◌, max}
use native.Mathlib.Nat.{max_comm}
use native.Mathlib.Omega.{arith}
use lib.Dec.{leb, ltb}
use borrow.Author.Tests.{leb-true, leb-false}
use Rattle.paper.specs.declared.Model.{Model}
use Rattle.paper.specs.declared.Statics.{Statics}
use Rattle.paper.specs.Lists.{pick}
use Rattle.paper.specs.Numbers.{one_in_ten_thousandths, one_in_hundredths, one_in_millionths}
use Rattle.paper.specs.Roundings.{Quotient, up, RoundedUp, greater_of, apart}
use Rattle.paper.specs.Ranges.{valid_statics}
use Rattle.paper_desk.specs.Rates.{model_of, move_from, move_of, weight_of, weighted, replacement, replaces}
use Rattle.paper_desk.specs.Rates.{volatility_of, Weighing}
use Rattle.paper_desk.specs.Exact.{by_weight, replaced, exact_move, next_square, choice_of, NearExact}
use Rattle.paper.proofs.StaticsFacts.{statics_facts}
use Rattle.paper.proofs.Search.{root_covers, root_least, times_covers, times_least}
use Rattle.paper.proofs.Roundings.{up_rounded, rounded_max}
use Rattle.paper_desk.proofs.Drift.{weight_near, replace_near}

pub valid_weighs : (st : Statics) → valid_statics st ≡ true → Weighing (model_of st)
valid_weighs st v =
    let known = statics_facts st v in
    record { q = known.q.least; aup = known.aup; adown = known.adown }

-- ---- the move

-- (e): the move r is the exact one, rounded up
pub move_rounded : (p1 p2 p : ℕ) → 0 < p1 → 0 < p2 → RoundedUp (move_of p p1 p2) (exact_move p p1 p2)
unfolding move_of move_from exact_move greater_of
move_rounded p1 p2 p h1 h2 = go (leb (y.num * x.den) (x.num * y.den)) refl
  where
    x : Quotient
    x = record { num = apart p p1 * one_in_millionths; den = p1 }

    y : Quotient
    y = record { num = apart p p2 * one_in_millionths; den = p2 }

    go : (t : Bool) → leb (y.num * x.den) (x.num * y.den) ≡ t
        → RoundedUp (max (up x.num x.den) (up y.num y.den)) (pick t x y)
    go true e =
        rounded_max (up x.num x.den) (up y.num y.den) x y (up_rounded x.num p1 h1)
        (up_rounded y.num p2 h2) (leb-true _ _ e)
    go false e =
        rw (max_comm (up x.num x.den) (up y.num y.den))
        (rounded_max (up y.num y.den) (up x.num x.den) y x (up_rounded y.num p2 h2)
        (up_rounded x.num p1 h1)
        (omega (arith, leb-false (y.num * x.den) (x.num * y.den) e)))

-- ---- the volatility

pub weight_most_lem : (m : Model) (b r s : ℕ) → Weighing m → weight_of m b r s ≤ one_in_ten_thousandths
unfolding weight_of
weight_most_lem m b r s h = go (ltb 1 b) (ltb s r)
  where
    go : (x y : Bool) → pick x 0 (pick y m.aup m.adown) ≤ one_in_ten_thousandths
    go true y = omega arith
    go false true = h.aup
    go false false = h.adown

-- the mean by a weight
weighted_near : (a n s r q : ℕ) (old move : Quotient) → a ≤ one_in_ten_thousandths → NearExact n s old → RoundedUp r move
    → NearExact (n + 1) (weighted a s r) (next_square q old move (by_weight a))
unfolding weighted next_square
weighted_near a n s r q old move ha near rounded =
    let e : one_in_ten_thousandths - a + a ≡ one_in_ten_thousandths = omega arith in
    rw e at (weight_near (one_in_ten_thousandths - a) a n s r (weighted a s r) old move near rounded
    (rw e (root_covers one_in_ten_thousandths ((one_in_ten_thousandths - a) * (s * s) + a * (r * r)) (omega arith)))
    (λ z k. root_least one_in_ten_thousandths ((one_in_ten_thousandths - a) * (s * s) + a * (r * r)) z (rw e at k))
    (omega arith))

replacement_near : (n r q : ℕ) (old move : Quotient) → one_in_hundredths ≤ q → RoundedUp r move
    → NearExact (n + 1) (replacement q r) (next_square q old move replaced)
unfolding replacement next_square
replacement_near n r q old move hq rounded =
    replace_near one_in_hundredths n q r (replacement q r) move rounded (omega arith) hq
    (times_covers q (one_in_hundredths * r) (omega arith)) (times_least q (one_in_hundredths * r))

-- the rule takes one of the two, and the exact square is worked out by the same choice
pub volatility_near : (m : Model) (b last r s n : ℕ) (old move : Quotient) → Weighing m → NearExact n s old
    → RoundedUp r move
    → NearExact (n + 1) (volatility_of m b r last s) (next_square m.q old move (choice_of m b r last s))
unfolding volatility_of choice_of
volatility_near m b last r s n old move h near rounded =
    go (replaces m b r last (weighted (weight_of m b r s) s r)) (weight_of m b r s) (weight_most_lem m b r s h)
  where
    go : (t : Bool) (a : ℕ) → a ≤ one_in_ten_thousandths
        → NearExact (n + 1) (pick t (replacement m.q r) (weighted a s r))
        (next_square m.q old move (pick t replaced (by_weight a)))
    go true a ha = replacement_near n r m.q old move h.q rounded
    go false a ha = weighted_near a n s r m.q old move ha near rounded
