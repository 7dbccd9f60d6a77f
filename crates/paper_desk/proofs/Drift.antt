-- One step of the carried volatility against the exact one, over whole numbers alone and any weights b and a.
use mathlib.Core.Path.{◌≡◌}
use mathlib.Core.Logic.{◌⊎◌, inl, inr}
use Prim.Native.Nat.{ℕ, zero, suc, ◌+◌, ◌-◌, ◌*◌, ◌≤◌, ◌<◌}
use native.Mathlib.Nat.{mul-le-mul, mul-le-mul_left, le_of_mul-le-mul_left, mul-pos, le_trans}
use native.Mathlib.Omega.{arith}
use Rattle.paper.specs.Roundings.{Quotient, RoundedUp}
use Rattle.paper_desk.specs.Exact.{NearExact}
use Rattle.paper.proofs.Logic.{le_or_lt}
use Rattle.paper.proofs.Roundings.{rounded_below}

-- a square is not above another: neither is its side
pub le_of_squares_le : (x y : ℕ) → x * x ≤ y * y → x ≤ y
le_of_squares_le x y h = go (le_or_lt x y)
  where
    go : (x ≤ y) ⊎ (y < x) → x ≤ y
    go (inl l) = l
    go (inr l) = absurd (let m : suc y * suc y ≤ x * x = mul-le-mul l l in omega arith)

-- Cauchy, for two weights b and a
cauchy_up : (b a x k : ℕ)
    → (b * x + a * (x + k)) * (b * x + a * (x + k)) ≤ (b + a) * (b * (x * x) + a * ((x + k) * (x + k)))
cauchy_up b a x k = omega arith

cauchy : (b a x y : ℕ) → (b * x + a * y) * (b * x + a * y) ≤ (b + a) * (b * (x * x) + a * (y * y))
cauchy b a x y = go (le_or_lt x y)
  where
    go : (x ≤ y) ⊎ (y < x) → (b * x + a * y) * (b * x + a * y) ≤ (b + a) * (b * (x * x) + a * (y * y))
    go (inl l) =
        let e : x + (y - x) ≡ y = omega arith in
        rw e at (cauchy_up b a x (y - x))
    go (inr l) =
        let e : y + (x - y) ≡ x = omega arith in
        let c : (a * y + b * x) * (a * y + b * x) ≤ (a + b) * (a * (y * y) + b * (x * x)) =
        rw e at (cauchy_up a b y (x - y)) in
        omega arith

-- at the start the carried figure is exact
pub near_start : (s : ℕ) → NearExact 0 s (record { num = s * s; den = 1 })
near_start s = record { above = omega arith; close = go s; exact = λ _. omega arith; positive = omega arith }
  where
    go : (s : ℕ) → (s ≤ 0) ⊎ ((s - 0 - 1) * (s - 0 - 1) * 1 < s * s)
    go zero = inl (omega arith)
    go (suc k) = inr (let e : suc k - 0 - 1 ≡ k = omega arith in rw e (omega arith))

-- what is left of s when n + 1 is taken away has a square that is not above the exact one
near_below : (n s : ℕ) (x : Quotient) → NearExact n s x → (s - (n + 1)) * (s - (n + 1)) * x.den ≤ x.num
near_below n s x h = go h.close
  where
    go : (s ≤ n) ⊎ ((s - n - 1) * (s - n - 1) * x.den < x.num) → (s - (n + 1)) * (s - (n + 1)) * x.den ≤ x.num
    go (inl l) = let e : s - (n + 1) ≡ 0 = omega arith in rw e (omega arith)
    go (inr l) = let e : s - (n + 1) ≡ s - n - 1 = omega arith in rw e (omega arith)

-- A mean of two bounds, over a common denominator: b and a are weights, S and Q squares above N/D and E/K, X one above
-- their mean
mean_above : (b a w S Q X N D E K : ℕ) → N ≤ S * D → E ≤ Q * K → b * S + a * Q ≤ w * X
    → b * N * K + a * E * D ≤ X * (w * D * K)
mean_above b a w S Q X N D E K p q m =
    omega (arith, mul-le-mul_left (b * K) p, mul-le-mul_left (a * D) q, mul-le-mul_left (D * K) m)

-- The same from below; the common denominator is taken away again
mean_below : (b a w S Q U N D E K : ℕ) → 0 < D → 0 < K → S * D ≤ N → Q * K ≤ E
    → b * N * K + a * E * D ≤ U * (w * D * K) → b * S + a * Q ≤ w * U
mean_below b a w S Q U N D E K d k p q m =
    le_of_mul-le-mul_left
    (let t : (D * K) * (b * S + a * Q) ≤ (D * K) * (w * U) =
    omega (arith, mul-le-mul_left (b * K) p, mul-le-mul_left (a * D) q) in t)
    (mul-pos d k)

-- Both sides of a mean shifted by c: the mean's root moves by no more than c
mean_shift : (b a c x y u s r : ℕ) → s ≤ x + c → r ≤ y + c → b * (x * x) + a * (y * y) ≤ (b + a) * (u * u)
    → b * (s * s) + a * (r * r) ≤ (b + a) * ((u + c) * (u + c))
mean_shift b a c x y u s r hs hr m =
    let l : b * x + a * y ≤ (b + a) * u =
    le_of_squares_le (b * x + a * y) ((b + a) * u)
    (le_trans (cauchy b a x y) (omega (arith, mul-le-mul_left (b + a) m))) in
    omega (
      arith,
      mul-le-mul_left b (mul-le-mul hs hs),
      mul-le-mul_left a (mul-le-mul hr hr),
      mul-le-mul_left (c + c) l,
      m,
    )

square_out : (x y : ℕ) → x * x * (y * y) ≤ x * y * (x * y)
square_out x y = omega arith

-- The weight step: b of the old square and a of the move's square, over b + a
module _ (b a n s r x : ℕ) (old : Quotient) (move : Quotient) (near : NearExact n s old) (rounded : RoundedUp r move)
    (covers : b * (s * s) + a * (r * r) ≤ (b + a) * (x * x))
    (least : (z : ℕ) → b * (s * s) + a * (r * r) ≤ (b + a) * (z * z) → x ≤ z)
    (w : 0 < b + a) where
  weight_close : (x ≤ n + 1)
      ⊎ ((x - (n + 1) - 1) * (x - (n + 1) - 1) * ((b + a) * old.den * (move.den * move.den))
      < b * old.num * (move.den * move.den) + a * (move.num * move.num) * old.den)
  weight_close =
      go (le_or_lt x (n + 1))
      (le_or_lt (b * old.num * (move.den * move.den) + a * (move.num * move.num) * old.den)
      (u * u * ((b + a) * old.den * (move.den * move.den))))
    where
      u : ℕ
      u = x - (n + 1) - 1

      N : ℕ
      N = b * old.num * (move.den * move.den) + a * (move.num * move.num) * old.den

      D : ℕ
      D = (b + a) * old.den * (move.den * move.den)

      go : (x ≤ n + 1) ⊎ (n + 1 < x) → (N ≤ u * u * D) ⊎ (u * u * D < N) → (x ≤ n + 1) ⊎ (u * u * D < N)
      go (inl l) e = inl l
      go (inr l) (inr e) = inr e
      go (inr l) (inl e) =
          let m : b * ((s - (n + 1)) * (s - (n + 1))) + a * ((r - 1) * (r - 1)) ≤ (b + a) * (u * u) =
          mean_below b a (b + a) ((s - (n + 1)) * (s - (n + 1))) ((r - 1) * (r - 1)) (u * u) old.num old.den
          (move.num * move.num) (move.den * move.den)
          near.positive (mul-pos rounded.positive rounded.positive) (near_below n s old near)
          (le_trans (square_out (r - 1) move.den)
          (mul-le-mul (rounded_below r move rounded) (rounded_below r move rounded))) e in
          let z : x ≤ u + (n + 1) =
          least (u + (n + 1)) (mean_shift b a (n + 1) (s - (n + 1)) (r - 1) u s r (omega arith) (omega arith) m) in
          absurd (omega arith)

  pub weight_near : NearExact (n + 1) x
      (record {
        num = b * old.num * (move.den * move.den) + a * (move.num * move.num) * old.den;
        den = (b + a) * old.den * (move.den * move.den);
      })
  weight_near =
      record {
        above =
            mean_above b a (b + a) (s * s) (r * r) (x * x) old.num old.den (move.num * move.num)
            (move.den * move.den) near.above
            (le_trans (mul-le-mul rounded.covers rounded.covers) (omega arith)) covers;
        close = weight_close;
        exact = λ z. absurd (omega arith);
        positive = mul-pos (mul-pos w near.positive) (mul-pos rounded.positive rounded.positive);
      }

-- The replacement step: x is the least figure with x·q ≥ k·r, and the exact one is k·A/(B·q), squared; a unit of r is
-- at most a unit of x
pub replace_near : (k n q r x : ℕ) (move : Quotient) → RoundedUp r move → 0 < q → k ≤ q → k * r ≤ x * q
    → ((z : ℕ) → k * r ≤ z * q → x ≤ z)
    → NearExact (n + 1) x (record { num = k * move.num * (k * move.num); den = move.den * q * (move.den * q) })
replace_near k n q r x move rounded hq kq covers least =
    record {
      above = le_trans (mul-le-mul h h) (omega arith);
      close = close;
      exact = λ z. absurd (omega arith);
      positive = mul-pos (mul-pos rounded.positive hq) (mul-pos rounded.positive hq);
    }
  where
    h : k * move.num ≤ x * (move.den * q)
    h = omega (arith, mul-le-mul_left k rounded.covers, mul-le-mul_left move.den covers)

    u : ℕ
    u = x - (n + 1) - 1

    N : ℕ
    N = k * move.num * (k * move.num)

    D : ℕ
    D = move.den * q * (move.den * q)

    one_more : k * (r - 1) ≤ u * q → k * r ≤ (u + 1) * q
    one_more g = let e : k * r ≤ k * (r - 1 + 1) = mul-le-mul_left k (omega arith) in omega arith

    close : (x ≤ n + 1) ⊎ (u * u * D < N)
    close = go (le_or_lt x (n + 1)) (le_or_lt N (u * u * D))
      where
        go : (x ≤ n + 1) ⊎ (n + 1 < x) → (N ≤ u * u * D) ⊎ (u * u * D < N) → (x ≤ n + 1) ⊎ (u * u * D < N)
        go (inl l) e = inl l
        go (inr l) (inr e) = inr e
        go (inr l) (inl e) =
            let d : k * move.num ≤ u * (move.den * q) =
            le_of_squares_le (k * move.num) (u * (move.den * q)) (le_trans e (omega arith)) in
            let f : move.den * (k * (r - 1)) ≤ move.den * (u * q) =
            omega (arith, mul-le-mul_left k (rounded_below r move rounded)) in
            let g : k * (r - 1) ≤ u * q = le_of_mul-le-mul_left f rounded.positive in
            let z : x ≤ u + 1 = least (u + 1) (one_more g) in
            absurd (omega arith)
