-- A decimal that is written is read, and what is read is written.
use mathlib.Core.Path.{◌≡◌, refl, sym, ap, ◌∙◌}
use mathlib.Core.Bool.{Bool, true, false, ◌||◌, or-true}
use mathlib.Core.List.{List, [], ◌∷◌, ◌++◌, append_assoc}
use mathlib.Core.Logic.{◌⊎◌, inl, inr}
use Prim.Native.Nat.{ℕ, zero, suc, ◌+◌, ◌-◌, ◌*◌, ◌^◌, ◌≤◌, ◌<◌}
use native.Mathlib.Nat.{pow-suc, le-mul_of_pos_right, le_of_mul-le-mul_right, mul_assoc}
use native.Mathlib.Omega.{arith}
use lib.Dec.{leb, ltb, eqb}
use lib.Pow.{pow-add}
use lib.ListN.{length, drop, length-append}
use borrow.Author.Tests.{leb-true, leb-false, le-leb, ltb-true, lt-ltb, eqb-true, eq-eqb}
use Rattle.paper.specs.Lists.{pick}
use Rattle.text_bytes.specs.Bytes.{digit_zero, digit_nine}
use Rattle.text_bytes.specs.Numbers.{is_digit}
use Rattle.text_bytes.specs.Spells.{Digits, no_digit, digit, value}
use Rattle.text_bytes.proofs.Spelling.{impossible, within_is_digit, digit_is_within}
use Rattle.exchange_protocol.specs.declared.Column.{Column}
use Rattle.exchange_protocol.specs.Exchange.{point, Decimal, whole, pointed}
use Rattle.exchange_protocol.specs.Scan.{Front, front, none, then, starts, NumberEnds, number_most, digits}
use Rattle.exchange_protocol.specs.Scan.{past_zeros}
use Rattle.exchange_protocol.specs.Scan.{behind_zeros, decimals, behind_whole, number, WrittenDecimal}
use Rattle.exchange_protocol.proofs.Values.{ten_pos, value_split, value_lt, value_more, value_not_below}
use Rattle.exchange_protocol.proofs.Values.{cancelled_equal, whole_without_rest}

-- ---- digits that are written are read

-- digits in front, and then what stands behind them
digits_over : (k n : ℕ) {p : List ℕ} (rest : List ℕ) → Digits p → value n p ≤ number_most
    → digits (length p + k) n (p ++ rest) ≡ digits k (value n p) rest
unfolding digits value
digits_over k n rest no_digit h = let e : 0 + k ≡ k = omega arith in rw e
digits_over k n rest (digit {b} {t} lo hi d) h =
    let y : ℕ = 10 * n + (b - digit_zero) in
    let o : y ≤ number_most = omega (arith, value_not_below y t) in
    let e : suc (length t) + k ≡ suc (length t + k) = omega arith in
    rw (e, within_is_digit b lo hi, le-leb y number_most o) (digits_over k y rest d h)

digits_stop : (k n : ℕ) (rest : List ℕ) → starts is_digit rest ≡ false → digits k n rest ≡ front n rest
unfolding digits starts
digits_stop zero n rest h = refl
digits_stop (suc k) n [] h = refl
digits_stop (suc k) n (b ∷ t) h = rw h

digits_zero : (n : ℕ) (rest : List ℕ) → digits 0 n rest ≡ front n rest
unfolding digits
digits_zero n rest = refl

-- all digits that stand there
digits_all : (m n : ℕ) {p : List ℕ} (rest : List ℕ) → Digits p → value n p ≤ number_most → length p ≤ m
    → starts is_digit rest ≡ false → digits m n (p ++ rest) ≡ front (value n p) rest
digits_all m n {p} rest d h l s =
    let e : m ≡ length p + (m - length p) = omega arith in
    rw e (digits_over (m - length p) n rest d h ∙ digits_stop (m - length p) (value n p) rest s)

-- ---- zeros

zeros_over : {f : List ℕ} (rest : List ℕ) → Digits f → value 0 f ≡ 0 → past_zeros (f ++ rest) ≡ past_zeros rest
unfolding past_zeros value
zeros_over rest no_digit e = refl
zeros_over rest (digit {b} {t} lo hi d) e =
    let s : value (10 * 0 + (b - digit_zero)) t ≡ (10 * 0 + (b - digit_zero)) * 10 ^ length t + value 0 t
    = value_split (10 * 0 + (b - digit_zero)) t in
    let u : 10 * 0 + (b - digit_zero) ≤ value (10 * 0 + (b - digit_zero)) t = value_not_below
    (10 * 0 + (b - digit_zero)) t in
    let z : b ≡ digit_zero = omega arith in
    let r : value 0 t ≡ 0 = omega arith in
    rw (eq-eqb b digit_zero z) (zeros_over rest d r)

zeros_stop : (rest : List ℕ) → starts is_digit rest ≡ false → past_zeros rest ≡ rest
unfolding past_zeros starts is_digit
zeros_stop [] h = refl
zeros_stop (b ∷ t) h = go (eqb b digit_zero) refl
  where
    go : (x : Bool) → eqb b digit_zero ≡ x → pick x (past_zeros t) (b ∷ t) ≡ b ∷ t
    go false e = refl
    go true e =
        let z : is_digit b ≡ true = rw (eqb-true b digit_zero e) in
        impossible cc

-- ---- behind the point

-- digits that stand in two parts
pub record Cut (m : ℕ) (f : List ℕ) : Type 0 where
  pub fst : List ℕ
  pub snd : List ℕ
  pub is : f ≡ fst ++ snd
  pub long : length fst ≡ m
  pub first : Digits fst
  pub second : Digits snd

cut_digits : (m : ℕ) {f : List ℕ} → Digits f → m ≤ length f → Cut m f
cut_digits zero {f} d h = record { fst = []; snd = f; is = refl; long = refl; first = no_digit; second = d }
cut_digits (suc m) no_digit h = let z : ⊥ = omega arith in absurd z
cut_digits (suc m) (digit {b} {t} lo hi d) h =
    let r : Cut m t = cut_digits m d (omega arith) in
    record {
      fst = b ∷ r.fst;
      snd = r.snd;
      is = ap (λ (x : List ℕ). b ∷ x) r.is;
      long = ap suc r.long;
      first = digit lo hi r.first;
      second = r.second;
    }

-- the unit's decimals, and zeros behind them
split_reads : (c : Column) (n : ℕ) {a b : List ℕ} (rest : List ℕ) → Digits a → Digits b → length a ≡ c.places
    → 0 < length (a ++ b) → value n a ≤ number_most → value 0 b ≡ 0 → c.zeros ≡ true → starts is_digit rest ≡ false
    → decimals c n (a ++ (b ++ rest)) ≡ front (value n a) rest
unfolding decimals
split_reads c n {a} {b} rest d e long p o x z s =
    let m : c.places ≡ length a + 0 = omega arith in
    let w : length rest < length (a ++ (b ++ rest)) =
    rw (length-append a (b ++ rest), length-append b rest) (omega (arith, length-append a b)) in
    let y : c.places - (length (a ++ (b ++ rest)) - length (b ++ rest)) ≡ 0 =
    rw (length-append a (b ++ rest)) (omega arith) in
    let r : digits c.places n (a ++ (b ++ rest)) ≡ front (value n a) (b ++ rest) =
    ap (λ (k : ℕ). digits k n (a ++ (b ++ rest))) m ∙ digits_over 0 n (b ++ rest) d o
    ∙ digits_zero (value n a) (b ++ rest) in
    let u : value n a * 10 ^ 0 ≡ value n a = omega arith in
    rw (
      r,
      z,
      zeros_over rest e x,
      zeros_stop rest s,
      lt-ltb (length rest) (length (a ++ (b ++ rest))) w,
      y,
      u,
    )

module _ (c : Column) (n v : ℕ) {f : List ℕ} (rest : List ℕ) (d : Digits f) (some : 0 < length f)
    (most : v ≤ number_most) (s : starts is_digit rest ≡ false) (e : v * 10 ^ length f ≡ value n f * 10 ^ c.places) where
  behind : length rest < length (f ++ rest)
  behind = rw (length-append f rest) (omega arith)

  came : length (f ++ rest) - length rest ≡ length f
  came = rw (length-append f rest) (omega arith)

  zeros_none : behind_zeros c rest ≡ rest
  zeros_none = go c.zeros
    where
      go : (x : Bool) → pick x (past_zeros rest) rest ≡ rest
      go true = zeros_stop rest s
      go false = refl

  -- no more decimals than the unit has
  decimals_short : length f ≤ c.places → decimals c n (f ++ rest) ≡ front v rest
  unfolding decimals
  decimals_short h =
      let k : ℕ = c.places - length f in
      let g : c.places ≡ k + length f = omega arith in
      let i : v * 10 ^ length f ≡ (value n f * 10 ^ k) * 10 ^ length f =
      e ∙ ap (λ (x : ℕ). value n f * 10 ^ x) g ∙ ap (λ (x : ℕ). value n f * x) (pow-add 10 k (length f))
      ∙ sym (mul_assoc (value n f) (10 ^ k) (10 ^ length f)) in
      let j : v ≡ value n f * 10 ^ k = cancelled_equal v (value n f * 10 ^ k) (10 ^ length f) (ten_pos (length f)) i in
      let o : value n f ≤ number_most = omega (arith, le-mul_of_pos_right (value n f) (ten_pos k)) in
      rw (
        digits_all c.places n rest d o h s,
        zeros_none,
        lt-ltb (length rest) (length (f ++ rest)) behind,
        came,
        ← j,
      )

  -- more decimals: those behind the unit's are zeros
  decimals_long : c.zeros ≡ true → Cut c.places f → decimals c n (f ++ rest) ≡ front v rest
  decimals_long z q =
      let a : List ℕ = q.fst in
      let b : List ℕ = q.snd in
      let g : length f ≡ length b + c.places = ap length q.is ∙ length-append a b ∙ omega (arith, q.long) in
      let i : (v * 10 ^ length b) * 10 ^ c.places ≡ value n f * 10 ^ c.places =
      mul_assoc v (10 ^ length b) (10 ^ c.places)
      ∙ ap (λ (x : ℕ). v * x) (sym (pow-add 10 (length b) c.places) ∙ ap (λ (x : ℕ). 10 ^ x) (sym g)) ∙ e in
      let j : v * 10 ^ length b ≡ value n f =
      cancelled_equal (v * 10 ^ length b) (value n f) (10 ^ c.places) (ten_pos c.places) i in
      let k : v * 10 ^ length b ≡ value n a * 10 ^ length b + value 0 b =
      j ∙ ap (value n) q.is ∙ value_more n a b ∙ value_split (value n a) b in
      let x : (v ≡ value n a) × (value 0 b ≡ 0) =
      whole_without_rest v (value n a) (value 0 b) (10 ^ length b) (value_lt q.second) k in
      let o : value n a ≤ number_most = omega (arith, x.0) in
      ap (λ (x : List ℕ). decimals c n (x ++ rest)) q.is
      ∙ ap (decimals c n) (append_assoc a b rest)
      ∙ split_reads c n rest q.first q.second q.long (rw (← q.is) some) o x.1 z s
      ∙ ap (λ (x : ℕ). front x rest) (sym x.0)

  decimals_reads : (leb (length f) c.places || c.zeros) ≡ true → decimals c n (f ++ rest) ≡ front v rest
  decimals_reads h = go (leb (length f) c.places) refl h
    where
      go : (x : Bool) → leb (length f) c.places ≡ x → (x || c.zeros) ≡ true
          → decimals c n (f ++ rest) ≡ front v rest
      go true i j = decimals_short (leb-true (length f) c.places i)
      go false i j =
          let k : c.places < length f = leb-false (length f) c.places i in
          decimals_long j (cut_digits c.places d (omega arith))

-- ---- a decimal

-- the whole part is no more than the number
whole_le : (c : Column) (n v : ℕ) (f : List ℕ) → value n f * 10 ^ c.places ≡ v * 10 ^ length f → n ≤ v
whole_le c n v f e =
    let a : n * 10 ^ length f ≤ v * 10 ^ length f =
    omega (arith, value_split n f, le-mul_of_pos_right (value n f) (ten_pos c.places)) in
    le_of_mul-le-mul_right a (ten_pos (length f))

-- A DECIMAL THAT IS WRITTEN IS READ
pub decimal_reads : (c : Column) {p : List ℕ} {v : ℕ} (rest : List ℕ) → Decimal c p v → v ≤ number_most → NumberEnds rest
    → number c (p ++ rest) ≡ front v rest
unfolding number behind_whole starts is_digit
decimal_reads c rest (whole {t} d some) most s =
    let o : value 0 t ≤ number_most = omega (arith, le-mul_of_pos_right (value 0 t) (ten_pos c.places)) in
    let l : length t ≤ length (t ++ rest) = rw (length-append t rest) (omega arith) in
    let w : length rest < length (t ++ rest) = rw (length-append t rest) (omega arith) in
    rw (
      digits_all (length (t ++ rest)) 0 rest d o l s.digit,
      lt-ltb (length rest) (length (t ++ rest)) w,
      s.point,
    )
decimal_reads c rest (pointed {w} {f} {v} d some g some' h e) most s =
    let m : value (value 0 w) f * 10 ^ c.places ≡ v * 10 ^ length f = ap (λ (x : ℕ). x * 10 ^ c.places) (sym
    (value_more 0 w f)) ∙ sym e in
    let u : List ℕ = point ∷ (f ++ rest) in
    let q : value 0 w ≤ v = whole_le c (value 0 w) v f m in
    let o : value 0 w ≤ number_most = omega arith in
    let l : length w ≤ length (w ++ u) = rw (length-append w u) (omega arith) in
    let k : length u < length (w ++ u) = rw (length-append w u) (omega arith) in
    rw (
      append_assoc w (point ∷ f) rest,
      digits_all (length (w ++ u)) 0 u d o l refl,
      lt-ltb (length u) (length (w ++ u)) k,
    )
    (decimals_reads c (value 0 w) v rest g some' most s.digit (sym m) h)

-- ---- what is read is written

-- digits in front of a text
record Digited (n : ℕ) (u : List ℕ) (m v : ℕ) (rest : List ℕ) : Type 0 where
  p : List ℕ
  is : u ≡ p ++ rest
  digits : Digits p
  long : length p ≤ m
  value : value n p ≡ v

digits_back : (m n : ℕ) (u : List ℕ) (v : ℕ) (rest : List ℕ) → digits m n u ≡ front v rest → Digited n u m v rest
unfolding digits value
digits_back zero n u v rest e = record { p = []; is = cc; digits = no_digit; long = omega arith; value = cc }
digits_back (suc m) n [] v rest e = record { p = []; is = cc; digits = no_digit; long = omega arith; value = cc }
digits_back (suc m) n (b ∷ t) v rest e =
    go (is_digit b) (leb (10 * n + (b - digit_zero)) number_most) refl e
    (λ f. digits_back m (10 * n + (b - digit_zero)) t v rest f)
  where
    go : (x y : Bool) → is_digit b ≡ x
        → pick x (pick y (digits m (10 * n + (b - digit_zero)) t) none) (front n (b ∷ t)) ≡ front v rest
        → (digits m (10 * n + (b - digit_zero)) t ≡ front v rest → Digited (10 * n + (b - digit_zero)) t m v rest)
        → Digited n (b ∷ t) (suc m) v rest
    go false y h f back = record { p = []; is = cc; digits = no_digit; long = omega arith; value = cc }
    go true false h f back = impossible cc
    go true true h f back =
        let r : Digited (10 * n + (b - digit_zero)) t m v rest = back f in
        let d : (digit_zero ≤ b) × (b ≤ digit_nine) = digit_is_within b h in
        record {
          p = b ∷ r.p;
          is = ap (λ (x : List ℕ). b ∷ x) r.is;
          digits = digit d.0 d.1 r.digits;
          long = omega (arith, r.long);
          value = r.value;
        }

-- zeros in front of a text
record Zeroed (u rest : List ℕ) : Type 0 where
  z : List ℕ
  is : u ≡ z ++ rest
  digits : Digits z
  value : (n : ℕ) → value n z ≡ n * 10 ^ length z

zeros_none_back : (u : List ℕ) → Zeroed u u
unfolding value
zeros_none_back u = record { z = []; is = refl; digits = no_digit; value = λ n. omega arith }

zeros_back : (u : List ℕ) → Zeroed u (past_zeros u)
unfolding past_zeros value
zeros_back [] = zeros_none_back []
zeros_back (b ∷ t) = go (eqb b digit_zero) refl (zeros_back t)
  where
    go : (x : Bool) → eqb b digit_zero ≡ x → Zeroed t (past_zeros t) → Zeroed (b ∷ t) (pick x (past_zeros t) (b ∷ t))
    go false e r = zeros_none_back (b ∷ t)
    go true e r =
        let i : b ≡ digit_zero = eqb-true b digit_zero e in
        let lo : digit_zero ≤ b = omega arith in
        let hi : b ≤ digit_nine = omega arith in
        let q : (n : ℕ) → 10 * n + (b - digit_zero) ≡ 10 * n = λ n. omega arith in
        record {
          z = b ∷ r.z;
          is = ap (λ (x : List ℕ). b ∷ x) r.is;
          digits = digit lo hi r.digits;
          value = λ n. r.value (10 * n + (b - digit_zero)) ∙ rw (q n, pow-suc 10 (length r.z)) (omega arith);
        }

-- and only where the column may have them
record Behind (c : Column) (u rest : List ℕ) : Type 0 where
  zeroed : Zeroed u rest
  allowed : (length zeroed.z ≡ 0) ⊎ (c.zeros ≡ true)

behind_back : (c : Column) (u : List ℕ) → Behind c u (behind_zeros c u)
unfolding zeros_none_back
behind_back c u = go c.zeros refl
  where
    go : (x : Bool) → c.zeros ≡ x → Behind c u (pick x (past_zeros u) u)
    go true e = record { zeroed = zeros_back u; allowed = inr e }
    go false e = record { zeroed = zeros_none_back u; allowed = inl refl }

digits_append : {s t : List ℕ} → Digits s → Digits t → Digits (s ++ t)
digits_append no_digit e = e
digits_append (digit lo hi d) e = digit lo hi (digits_append d e)

times_pow : (v a b : ℕ) → v * 10 ^ a * 10 ^ b ≡ v * 10 ^ (a + b)
times_pow v a b = mul_assoc v (10 ^ a) (10 ^ b) ∙ ap (λ (x : ℕ). v * x) (sym (pow-add 10 a b))

-- what stands behind the point: the unit's decimals, and zeros
module _ (c : Column) (n : ℕ) {w : List ℕ} (d : Digits w) (some : 0 < length w) (is : value 0 w ≡ n) (t : List ℕ)
    (v₀ : ℕ) (r rest : List ℕ) (a : Digited n t c.places v₀ r) (b : Behind c r rest)
    (h : length rest < length t) where
  abbrev f : List ℕ
  f = a.p ++ b.zeroed.z

  joined : t ≡ f ++ rest
  joined =
      a.is ∙ ap (λ (x : List ℕ). a.p ++ x) b.zeroed.is ∙ sym (append_assoc a.p b.zeroed.z rest)

  f_long : length f ≡ length a.p + length b.zeroed.z
  f_long = length-append a.p b.zeroed.z

  f_some : 0 < length f
  f_some = omega (arith, ap length joined ∙ length-append f rest)

  permitted : (leb (length f) c.places || c.zeros) ≡ true
  permitted = go b.allowed
    where
      go : (length b.zeroed.z ≡ 0) ⊎ (c.zeros ≡ true) → (leb (length f) c.places || c.zeros) ≡ true
      go (inl e) =
          let o : length f ≤ c.places = omega (arith, f_long, a.long) in
          rw (le-leb (length f) c.places o)
      go (inr e) = rw e (or-true (leb (length f) c.places))

  abbrev k : ℕ
  k = c.places - (length t - length r)

  k_is : k + length a.p ≡ c.places
  k_is = omega (arith, ap length a.is ∙ length-append a.p r, a.long)

  spelt : value 0 (w ++ f) ≡ v₀ * 10 ^ length b.zeroed.z
  spelt =
      value_more 0 w f ∙ ap (λ (x : ℕ). value x f) is ∙ value_more n a.p b.zeroed.z
      ∙ ap (λ (x : ℕ). value x b.zeroed.z) a.value ∙ b.zeroed.value v₀

  exactly : v₀ * 10 ^ k * 10 ^ length f ≡ value 0 (w ++ f) * 10 ^ c.places
  exactly =
      let e : k + length f ≡ length b.zeroed.z + c.places = omega (arith, f_long, k_is) in
      times_pow v₀ k (length f) ∙ ap (λ (x : ℕ). v₀ * 10 ^ x) e ∙ sym (times_pow v₀ (length b.zeroed.z) c.places)
      ∙ ap (λ (x : ℕ). x * 10 ^ c.places) (sym spelt)

  pointed_back : WrittenDecimal c (w ++ point ∷ t) (v₀ * 10 ^ k) rest
  pointed_back =
      record {
        p = w ++ point ∷ f;
        is = ap (λ (x : List ℕ). w ++ point ∷ x) joined ∙ sym (append_assoc w (point ∷ f) rest);
        decimal =
            pointed d some (digits_append a.digits b.zeroed.digits) f_some permitted exactly;
      }

decimals_back : (c : Column) (n : ℕ) {w : List ℕ} → Digits w → 0 < length w → value 0 w ≡ n → (t : List ℕ) (v : ℕ)
    → (rest : List ℕ) → decimals c n t ≡ front v rest → WrittenDecimal c (w ++ point ∷ t) v rest
unfolding decimals
decimals_back c n {w} d some is t v rest e = go (digits c.places n t) refl e
  where
    told : (v₀ : ℕ) (r : List ℕ) → digits c.places n t ≡ front v₀ r → (x : Bool)
        → ltb (length (behind_zeros c r)) (length t) ≡ x
        → pick x (front (v₀ * 10 ^ (c.places - (length t - length r))) (behind_zeros c r)) none ≡ front v rest
        → WrittenDecimal c (w ++ point ∷ t) v rest
    told v₀ r i false h f = impossible cc
    told v₀ r i true h f =
        let j : v₀ * 10 ^ (c.places - (length t - length r)) ≡ v = cc in
        let q : behind_zeros c r ≡ rest = cc in
        rw (← j, ← q)
        (pointed_back c n d some is t v₀ r (behind_zeros c r) (digits_back c.places n t v₀ r i) (behind_back c r)
        (ltb-true (length (behind_zeros c r)) (length t) h))

    go : (x : Front ℕ) → digits c.places n t ≡ x
        → then x (λ v rest. pick (ltb (length (behind_zeros c rest)) (length t))
        (front (v * 10 ^ (c.places - (length t - length rest))) (behind_zeros c rest)) none) ≡ front v rest
        → WrittenDecimal c (w ++ point ∷ t) v rest
    go none i f = impossible cc
    go (front v₀ r) i f = told v₀ r i (ltb (length (behind_zeros c r)) (length t)) refl f

pub starts_back : (b : ℕ) (t : List ℕ) → starts (λ x. eqb x b) t ≡ true → t ≡ b ∷ drop 1 t
unfolding starts
starts_back b [] e = impossible cc
starts_back b (d ∷ t) e = ap (λ (x : ℕ). x ∷ t) (eqb-true d b e)

-- A DECIMAL THAT IS READ IS WRITTEN
pub decimal_back : (c : Column) (u : List ℕ) (v : ℕ) (rest : List ℕ) → number c u ≡ front v rest
    → WrittenDecimal c u v rest
unfolding number behind_whole
decimal_back c u v rest e = go (digits (length u) 0 u) refl e
  where
    told : (n : ℕ) (r : List ℕ) → Digited 0 u (length u) n r → (x y : Bool) → ltb (length r) (length u) ≡ x
        → starts (λ b. eqb b point) r ≡ y
        → pick x (pick y (decimals c n (drop 1 r)) (front (n * 10 ^ c.places) r)) none ≡ front v rest
        → WrittenDecimal c u v rest
    told n r a false y h i f = impossible cc
    told n r a true true h i f =
        let l : 0 < length a.p =
        omega (arith, ltb-true (length r) (length u) h, ap length a.is ∙ length-append a.p r) in
        rw (a.is, starts_back point r i) (decimals_back c n a.digits l a.value (drop 1 r) v rest f)
    told n r a true false h i f =
        let l : 0 < length a.p =
        omega (arith, ltb-true (length r) (length u) h, ap length a.is ∙ length-append a.p r) in
        let j : value 0 a.p * 10 ^ c.places ≡ v = ap (λ (x : ℕ). x * 10 ^ c.places) a.value ∙ cc in
        let q : r ≡ rest = cc in
        record { p = a.p; is = rw (← q) a.is; decimal = rw (← j) (whole a.digits l) }

    go : (x : Front ℕ) → digits (length u) 0 u ≡ x
        → then x (λ n rest. pick (ltb (length rest) (length u))
        (pick (starts (λ b. eqb b point) rest) (decimals c n (drop 1 rest)) (front (n * 10 ^ c.places) rest)) none)
        ≡ front v rest
        → WrittenDecimal c u v rest
    go none i f = impossible cc
    go (front n r) i f =
        told n r (digits_back (length u) 0 u n r i) (ltb (length r) (length u)) (starts (λ b. eqb b point) r) refl refl
        f
