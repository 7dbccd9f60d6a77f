-- What each function needs, on plain values: one turn of a loop, and each way that a function ends.
use mathlib.Core.Path.{◌≡◌, refl, sym, ap, ◌∙◌}
use mathlib.Core.Bool.{Bool, true, false, ◌&&◌, and-false}
use mathlib.Core.List.{List, [], ◌∷◌}
use mathlib.Core.Logic.{◌⊎◌, inl, inr}
use Prim.Native.Nat.{ℕ, zero, suc, ◌+◌, ◌-◌, ◌*◌, ◌^◌, ◌≤◌, ◌<◌}
use native.Mathlib.Nat.{mul-le-mul}
use native.Mathlib.Omega.{arith}
use lib.Dec.{leb, eqb}
use lib.IntN.{pos, neg_ℤ, ◌-ℤ◌, +ℤ_idl}
use lib.ListN.{length, take, drop, length-drop}
use lib.Seq.{take_all}
use mir.Syntax.{w64}
use mir.Val.{Fits, SFits, to_z, of_z}
use mir.ValLaws.{to_z_pos}
use mir.Facts.{to_z-of_z}
use borrow.Author.Tests.{le-leb, lt-leb, lt-ltb, le-ltb, ne_eqb}
use Rattle.std.specs.Char.{is_ascii_digit}
use Rattle.std.specs.List.{prefix_len}
use Rattle.paper.specs.Lists.{pick}
use Rattle.paper.proofs.Logic.{and_right}
use Rattle.text_bytes.specs.Bytes.{minus_sign, digit_zero}
use Rattle.text_bytes.specs.Numbers.{is_digit}
use Rattle.text_bytes.specs.Spells.{negated}
use Rattle.text_bytes.proofs.Spelling.{impossible, within_is_digit}
use Rattle.exchange_protocol.specs.declared.Column.{Column}
use Rattle.exchange_protocol.specs.Exchange.{point}
use Rattle.exchange_protocol.specs.Scan.{Front, front, none, starts, number_most, digits, past_zeros, behind_zeros}
use Rattle.exchange_protocol.specs.Scan.{decimals, behind_whole, number, positive, turned, cell, passed, pass}

-- what stands from a place on
pub rest_is : (t : List ℕ) (i : ℕ) → take (length t - i) (drop i t) ≡ drop i t
rest_is t i = take_all (length t - i) (drop i t) (omega (arith, length-drop i t))

-- ---- the byte in front

module _ (b : ℕ) (t : List ℕ) where
  pub passed_there : (rest : List ℕ) → front passed rest ≡ pass b t
      → (starts (λ x. eqb x b) t ≡ true) × (rest ≡ drop 1 t)
  unfolding pass
  passed_there rest e = go (starts (λ x. eqb x b) t) refl
    where
      go : (s : Bool) → starts (λ x. eqb x b) t ≡ s → (starts (λ x. eqb x b) t ≡ true) × (rest ≡ drop 1 t)
      go true q = let f : front passed rest ≡ front passed (drop 1 t) = rw q at e in (q, cc)
      go false q = let f : front passed rest ≡ none = rw q at e in impossible cc

  pub not_passed : none ≡ pass b t → starts (λ x. eqb x b) t ≡ false
  unfolding pass
  not_passed e = go (starts (λ x. eqb x b) t) refl
    where
      go : (s : Bool) → starts (λ x. eqb x b) t ≡ s → starts (λ x. eqb x b) t ≡ false
      go true q = let f : none ≡ front passed (drop 1 t) = rw q at e in impossible cc
      go false q = q

-- ---- digits

pub digit_test : (b : ℕ) → is_ascii_digit b ≡ is_digit b
unfolding is_digit
digit_test b = refl

-- what is left to read, behind the digits of n, leads to the same number and the same text behind it
pub record Counting (t : List ℕ) (most whole left n : ℕ) (rest : List ℕ) : Type 0 where
  pub small : n ≤ number_most
  pub few : left ≤ most
  pub long : length rest + most ≡ length t + left
  pub leads : digits left n rest ≡ digits most whole t

pub counting_none : (t : List ℕ) (most whole : ℕ) → whole ≤ number_most → Counting t most whole most whole t
counting_none t most whole h = record { small = h; few = omega arith; long = refl; leads = refl }

module _ (t : List ℕ) (most whole left n : ℕ) (rest : List ℕ) (c : Counting t most whole left n rest) where
  pub counting_all : left ≡ 0 → front n rest ≡ digits most whole t
  unfolding digits
  counting_all h = rw h at c.leads

  pub counting_stops : starts is_digit rest ≡ false → front n rest ≡ digits most whole t
  unfolding digits starts
  counting_stops d = go left rest d ∙ c.leads
    where
      go : (m : ℕ) (u : List ℕ) → starts is_digit u ≡ false → front n u ≡ digits m n u
      go zero u e = refl
      go (suc m) [] e = refl
      go (suc m) (b ∷ u) e = rw e

  module _ (h : 0 < left) (d : ℕ) (behind : List ℕ) (there : (rest ≡ (digit_zero + d) ∷ behind) × (d ≤ 9)) where
    opened : pick (leb (10 * n + d) number_most) (digits (left - 1) (10 * n + d) behind) none ≡ digits most whole t
    unfolding digits
    opened =
        let less : left ≡ suc (left - 1) = omega arith in
        let e : is_digit (digit_zero + d) ≡ true =
        within_is_digit (digit_zero + d) (omega arith) (omega (arith, there.1)) in
        let f : 10 * n + (digit_zero + d - digit_zero) ≡ 10 * n + d = omega arith in
        go (left - 1) less e f
      where
        go : (m : ℕ) → left ≡ suc m → is_digit (digit_zero + d) ≡ true
            → 10 * n + (digit_zero + d - digit_zero) ≡ 10 * n + d
            → pick (leb (10 * n + d) number_most) (digits m (10 * n + d) behind) none ≡ digits most whole t
        go m less e f = rw (e, f) at (rw (less, there.0) at c.leads)

    pub counting_over : number_most < 10 * n + d → none ≡ digits most whole t
    counting_over k = rw (lt-leb (10 * n + d) number_most k) at opened

    pub counting_more : 10 * n + d ≤ number_most → Counting t most whole (left - 1) (10 * n + d) behind
    counting_more k =
        record {
          small = k;
          few = omega (arith, c.few);
          long = omega (arith, c.long, ap length there.0);
          leads = rw (le-leb (10 * n + d) number_most k) at opened;
        }

-- ---- zeros

pub zeros_passed : (t : List ℕ) → drop (prefix_len (λ b. eqb b digit_zero) t) t ≡ past_zeros t
unfolding past_zeros
zeros_passed [] = refl
zeros_passed (b ∷ t) = go (eqb b digit_zero) refl (zeros_passed t)
  where
    go : (s : Bool) → eqb b digit_zero ≡ s → drop (prefix_len (λ x. eqb x digit_zero) t) t ≡ past_zeros t
        → drop (prefix_len (λ x. eqb x digit_zero) (b ∷ t)) (b ∷ t) ≡ past_zeros (b ∷ t)
    go true q r =
        let e : 1 + prefix_len (λ x. eqb x digit_zero) t ≡ suc (prefix_len (λ x. eqb x digit_zero) t) = omega arith in
        rw (q, e) r
    go false q r = rw q

-- ---- behind the point

pub scaled_fits : (v m : ℕ) → v ≤ number_most → m ≤ 10000 → Fits w64 (v * m)
scaled_fits v m h k = let p : v * m ≤ number_most * 10000 = mul-le-mul h k in record { fits = omega arith }

module _ (t : List ℕ) (c : Column) (n : ℕ) where
  pub decimals_bad : none ≡ digits c.places n t → none ≡ decimals c n t
  unfolding decimals
  decimals_bad e = rw (← e)

  module _ (v : ℕ) (rest behind : List ℕ) (f : front v rest ≡ digits c.places n t) (is : behind ≡ behind_zeros c rest)
    where
      pub decimals_none : length t ≤ length behind → none ≡ decimals c n t
      unfolding decimals
      decimals_none h = rw (← f, ← is, le-ltb (length behind) (length t) h)

      pub decimals_is : length behind < length t → (m : ℕ) → m ≡ 10 ^ (c.places - (length t - length rest))
          → front (v * m) behind ≡ decimals c n t
      unfolding decimals
      decimals_is h m k = rw (← f, ← is, lt-ltb (length behind) (length t) h, k)

-- ---- a number

module _ (t : List ℕ) (first : ℕ) (h : first ≤ 9) where
  whole_is : digits (length ((digit_zero + first) ∷ t)) 0 ((digit_zero + first) ∷ t) ≡ digits (length t) first t
  unfolding digits
  whole_is =
      let d : is_digit (digit_zero + first) ≡ true =
      within_is_digit (digit_zero + first) (omega arith) (omega arith) in
      let e : 10 * 0 + (digit_zero + first - digit_zero) ≡ first = omega arith in
      let l : first ≤ number_most = omega arith in
      rw (d, e, le-leb first number_most l)

  module _ (c : Column) where
    pub number_bad : none ≡ digits (length t) first t → none ≡ number c ((digit_zero + first) ∷ t)
    unfolding number
    number_bad x = rw (whole_is, ← x)

    module _ (n : ℕ) (rest : List ℕ) (f : front n rest ≡ digits (length t) first t) (few : length rest ≤ length t) where
      opened_whole : number c ((digit_zero + first) ∷ t) ≡ behind_whole c n rest
      unfolding number
      opened_whole = rw (whole_is, ← f, lt-ltb (length rest) (suc (length t)) (omega arith))

      pub number_pointed : (x : Front ℕ) (behind : List ℕ) → front passed behind ≡ pass point rest
          → x ≡ decimals c n behind → x ≡ number c ((digit_zero + first) ∷ t)
      unfolding behind_whole
      number_pointed x behind p q =
          rw (opened_whole, (passed_there point rest behind p).0, ← (passed_there point rest behind p).1) q

      pub number_whole : none ≡ pass point rest → (m : ℕ) → m ≡ 10 ^ c.places
          → front (n * m) rest ≡ number c ((digit_zero + first) ∷ t)
      unfolding behind_whole
      number_whole p m k = rw (opened_whole, not_passed point rest p, k)

-- no digit stands in front
no_digits : (u : List ℕ) → starts is_digit u ≡ false → digits (length u) 0 u ≡ front 0 u
unfolding digits starts
no_digits [] e = refl
no_digits (b ∷ u) e = rw e

no_number : (c : Column) (u : List ℕ) → starts is_digit u ≡ false → number c u ≡ none
unfolding number
no_number c u e = rw (no_digits u e, le-ltb (length u) (length u) (omega arith))

-- ---- a field

negated_is : (v : ℕ) → pos 0 -ℤ pos v ≡ negated v
unfolding negated
negated_is zero = refl
negated_is (suc v) = +ℤ_idl (neg_ℤ (pos (suc v)))

-- a number of a field as a signed number of 64 bits
module _ (v : ℕ) (h : v ≤ 10000 * number_most) where
  pub plain_code : to_z w64 v ≡ pos v
  plain_code = to_z_pos w64 v (omega arith)

  turned_fits : SFits w64 (pos 0 -ℤ pos v)
  unfolding negated
  turned_fits = rw (negated_is v) (go v h)
    where
      go : (n : ℕ) → n ≤ 10000 * number_most → SFits w64 (negated n)
      go zero k = record { sfits = omega arith }
      go (suc n) k = record { sfits = omega arith }

  pub turned_code : to_z w64 (of_z w64 (pos 0 -ℤ to_z w64 v)) ≡ pos 0 -ℤ pos v
  turned_code = rw plain_code (to_z-of_z {w = w64} {z = pos 0 -ℤ pos v} turned_fits)

-- a digit in front is no minus
pub no_minus : (c : Column) (t : List ℕ) (first : ℕ) (behind : List ℕ)
    → (t ≡ (digit_zero + first) ∷ behind) × (first ≤ 9)
    → t ≡ pick (c.minus && starts (λ b. eqb b minus_sign) t) (drop 1 t) t
unfolding starts
no_minus c t first behind there =
    let e : eqb (digit_zero + first) minus_sign ≡ false = ne_eqb (digit_zero + first) minus_sign (λ e. omega arith) in
    let f : starts (λ b. eqb b minus_sign) t ≡ false = rw there.0 e in
    rw (f, and-false c.minus)

-- which way a field is read
module _ (t : List ℕ) (c : Column) (start : List ℕ) where
  abbrev minus : Bool
  minus = c.minus && starts (λ b. eqb b minus_sign) t

  module _ (is : start ≡ pick minus (drop 1 t) t) where
    -- a minus is passed, or none is there
    behind_minus : ((minus ≡ true) × (start ≡ drop 1 t) × (length start < length t)) ⊎ ((minus ≡ false) × (start ≡ t))
    unfolding starts
    behind_minus = go minus refl
      where
        some : (u : List ℕ) → starts (λ b. eqb b minus_sign) u ≡ true → length (drop 1 u) < length u
        some [] e = impossible cc
        some (b ∷ u) e = omega arith

        go : (b : Bool) → minus ≡ b
            → ((minus ≡ true) × (start ≡ drop 1 t) × (length start < length t)) ⊎ ((minus ≡ false) × (start ≡ t))
        go true e =
            let q : start ≡ drop 1 t = rw e at is in
            inl (e, q, rw q (some t (and_right c.minus (starts (λ b. eqb b minus_sign) t) e)))
        go false e = inr (e, rw e at is)

    -- nothing is passed
    pub plain_is : length t ≤ length start → start ≡ t
    plain_is h = go behind_minus
      where
        go : ((minus ≡ true) × (start ≡ drop 1 t) × (length start < length t)) ⊎ ((minus ≡ false) × (start ≡ t))
            → start ≡ t
        go (inl (m, e, l)) = absurd (omega arith)
        go (inr (m, e)) = e

    module _ (first : ℕ) (behind : List ℕ) (there : (start ≡ (digit_zero + first) ∷ behind) × (first ≤ 9)) where
      digit : starts is_digit start ≡ true
      unfolding starts
      digit = rw there.0 (within_is_digit (digit_zero + first) (omega arith) (omega (arith, there.1)))

      pub cell_below : length start < length t → (v : ℕ) (rest : List ℕ)
          → front v rest ≡ number c ((digit_zero + first) ∷ behind) → front (pos 0 -ℤ pos v) rest ≡ cell c t
      unfolding cell turned
      cell_below h v rest k = go behind_minus
        where
          q : front v rest ≡ number c start
          q = k ∙ ap (number c) (sym there.0)

          go : ((minus ≡ true) × (start ≡ drop 1 t) × (length start < length t)) ⊎ ((minus ≡ false) × (start ≡ t))
              → front (pos 0 -ℤ pos v) rest ≡ cell c t
          go (inl (m, e, l)) = rw (m, ← e, ← q, negated_is v)
          go (inr (m, e)) = absurd (omega (arith, ap length e))

      pub cell_above : length t ≤ length start → (v : ℕ) (rest : List ℕ)
          → front v rest ≡ number c ((digit_zero + first) ∷ behind) → front (pos v) rest ≡ cell c t
      unfolding cell positive
      cell_above h v rest k = go behind_minus
        where
          q : front v rest ≡ number c start
          q = k ∙ ap (number c) (sym there.0)

          go : ((minus ≡ true) × (start ≡ drop 1 t) × (length start < length t)) ⊎ ((minus ≡ false) × (start ≡ t))
              → front (pos v) rest ≡ cell c t
          go (inl (m, e, l)) = absurd (omega arith)
          go (inr (m, e)) = rw (m, rw e at digit, and-false c.empty, ← (rw e at q))

      pub cell_bad : none ≡ number c ((digit_zero + first) ∷ behind) → none ≡ cell c t
      unfolding cell turned positive
      cell_bad k = go behind_minus
        where
          q : none ≡ number c start
          q = k ∙ ap (number c) (sym there.0)

          go : ((minus ≡ true) × (start ≡ drop 1 t) × (length start < length t)) ⊎ ((minus ≡ false) × (start ≡ t))
              → none ≡ cell c t
          go (inl (m, e, l)) = rw (m, ← e, ← q)
          go (inr (m, e)) = rw (m, rw e at digit, and-false c.empty, ← (rw e at q))

    module _ (d : starts is_digit start ≡ false) where
      pub cell_empty : c.empty ≡ true → length start ≡ length t → front (pos 0) t ≡ cell c t
      unfolding cell
      cell_empty k l = go behind_minus
        where
          go : ((minus ≡ true) × (start ≡ drop 1 t) × (length start < length t)) ⊎ ((minus ≡ false) × (start ≡ t))
              → front (pos 0) t ≡ cell c t
          go (inl (m, e, s)) = absurd (omega arith)
          go (inr (m, e)) = rw (m, rw e at d, k)

      pub cell_none : (c.empty ≡ true → length start ≡ length t → ⊥) → none ≡ cell c t
      unfolding cell turned positive
      cell_none k = go behind_minus c.empty refl
        where
          go : ((minus ≡ true) × (start ≡ drop 1 t) × (length start < length t)) ⊎ ((minus ≡ false) × (start ≡ t))
              → (b : Bool) → c.empty ≡ b → none ≡ cell c t
          go (inl (m, e, s)) b f = rw (m, ← e, no_number c start d)
          go (inr (m, e)) true f = absurd (k f (ap length e))
          go (inr (m, e)) false f = rw (m, no_number c t (rw e at d), f)
