-- A field that is written is read, what is read is written, and THE READING OF A FIELD IS UNIQUE.
use mathlib.Core.Path.{◌≡◌, refl, ap, ◌∙◌}
use mathlib.Core.Bool.{Bool, true, false, ◌&&◌, not, and-false}
use mathlib.Core.List.{List, [], ◌∷◌, ◌++◌, append_assoc}
use Prim.Native.Nat.{ℕ, zero, suc, ◌≤◌, ◌<◌}
use native.Mathlib.Omega.{arith}
use lib.Dec.{eqb}
use lib.IntN.{ℤ, pos, nat_abs}
use lib.ListN.{length, drop}
use borrow.Author.Tests.{ne_eqb}
use Rattle.paper.specs.Lists.{pick}
use Rattle.paper.proofs.Logic.{and_left, and_right}
use Rattle.text_bytes.specs.Bytes.{minus_sign, digit_nine}
use Rattle.text_bytes.specs.Numbers.{is_digit}
use Rattle.text_bytes.specs.Spells.{Digits, no_digit, digit, negated}
use Rattle.text_bytes.proofs.Spelling.{impossible, within_is_digit, digit_is_no_minus}
use Rattle.text_bytes.specs.Split.{Free, free_none, free}
use Rattle.text_bytes.proofs.Pieces.{free_append}
use Rattle.exchange_protocol.specs.declared.Column.{Column}
use Rattle.exchange_protocol.specs.Exchange.{point, Decimal, whole, pointed, Field, missing, plain, negative}
use Rattle.exchange_protocol.specs.Scan.{Front, front, none, then, starts, NumberEnds, number_most, number}
use Rattle.exchange_protocol.specs.Scan.{positive}
use Rattle.exchange_protocol.specs.Scan.{turned, cell, WrittenDecimal, WrittenField}
use Rattle.exchange_protocol.proofs.Decimals.{decimal_reads, starts_back, decimal_back}

-- ---- the bytes of a field

-- the minus, the point and the digits stand between these two
module _ (parts : ℕ → Bool) (other : (b : ℕ) → minus_sign ≤ b → b ≤ digit_nine → parts b ≡ false) where
  digits_free : {t : List ℕ} → Digits t → Free parts t
  digits_free no_digit = free_none
  digits_free (digit {b} lo hi d) = free (other b (omega arith) hi) (digits_free d)

  decimal_free : {c : Column} {p : List ℕ} {v : ℕ} → Decimal c p v → Free parts p
  decimal_free (whole d h) = digits_free d
  decimal_free (pointed d h g i q e) =
      free_append (digits_free d) (free (other point (omega arith) (omega arith)) (digits_free g))

  -- no field has a byte that is not one of a number
  pub field_free : {c : Column} {p : List ℕ} {z : ℤ} → Field c p z → Free parts p
  field_free (missing e) = free_none
  field_free (plain d) = decimal_free d
  field_free (negative e d) = free (other minus_sign (omega arith) (omega arith)) (decimal_free d)

-- ---- a field that is written is read

record Digital (t : List ℕ) : Type 0 where
  digit : starts is_digit t ≡ true
  minus : starts (λ b. eqb b minus_sign) t ≡ false

digits_first : {w : List ℕ} (u : List ℕ) → Digits w → 0 < length w → Digital (w ++ u)
unfolding starts
digits_first u no_digit h = let z : ⊥ = omega arith in absurd z
digits_first u (digit {b} lo hi d) h = record {
  digit = within_is_digit b lo hi;
  minus = ne_eqb b minus_sign (digit_is_no_minus b lo);
}

decimal_first : {c : Column} {p : List ℕ} {v : ℕ} (rest : List ℕ) → Decimal c p v → Digital (p ++ rest)
decimal_first rest (whole d h) = digits_first rest d h
decimal_first rest (pointed {w} {f} d h g i q e) =
    rw (append_assoc w (point ∷ f) rest) (digits_first (point ∷ (f ++ rest)) d h)

abs_negated : (v : ℕ) → nat_abs (negated v) ≡ v
unfolding negated
abs_negated zero = refl
abs_negated (suc v) = refl

-- A FIELD THAT IS WRITTEN IS READ
pub field_reads : (c : Column) {p : List ℕ} {z : ℤ} (rest : List ℕ) → Field c p z → nat_abs z ≤ number_most
    → NumberEnds rest → cell c (p ++ rest) ≡ front z rest
unfolding cell positive turned starts
field_reads c rest (missing e) most s = rw (s.minus, and-false c.minus, e, s.digit)
field_reads c rest (plain {p} {v} d) most s =
    let f : Digital (p ++ rest) = decimal_first rest d in
    rw (f.minus, and-false c.minus, f.digit, and-false c.empty, decimal_reads c rest d most s)
field_reads c rest (negative {p} {v} e d) most s =
    let o : v ≤ number_most = rw (abs_negated v) at most in
    rw (decimal_reads c rest d o s, e)

-- ---- what is read is written

-- A FIELD THAT IS READ IS WRITTEN
pub field_back : (c : Column) (u : List ℕ) (z : ℤ) (rest : List ℕ) → cell c u ≡ front z rest → WrittenField c u z rest
unfolding cell positive turned
field_back c u z rest e =
    go (c.minus && starts (λ b. eqb b minus_sign) u) (c.empty && not (starts is_digit u)) refl refl e
  where
    below : c.minus ≡ true → starts (λ b. eqb b minus_sign) u ≡ true → (x : Front ℕ) → number c (drop 1 u) ≡ x
        → then x (λ v rest. front (negated v) rest) ≡ front z rest → WrittenField c u z rest
    below m h none i f = impossible cc
    below m h (front v r) i f =
        let j : negated v ≡ z = cc in
        let k : r ≡ rest = cc in
        let b : WrittenDecimal c (drop 1 u) v r = decimal_back c (drop 1 u) v r i in
        record {
          p = minus_sign ∷ b.p;
          is = starts_back minus_sign u h ∙ ap (λ (x : List ℕ). minus_sign ∷ x) (rw (← k) b.is);
          field = rw (← j) (negative m b.decimal);
        }

    above : (x : Front ℕ) → number c u ≡ x → then x (λ v rest. front (pos v) rest) ≡ front z rest
        → WrittenField c u z rest
    above none i f = impossible cc
    above (front v r) i f =
        let j : pos v ≡ z = cc in
        let k : r ≡ rest = cc in
        let b : WrittenDecimal c u v r = decimal_back c u v r i in
        record { p = b.p; is = rw (← k) b.is; field = rw (← j) (plain b.decimal) }

    go : (x y : Bool) → (c.minus && starts (λ b. eqb b minus_sign) u) ≡ x → (c.empty && not (starts is_digit u)) ≡ y
        → pick x (then (number c (drop 1 u)) (λ v rest. front (negated v) rest))
        (pick y (front (pos 0) u) (then (number c u) (λ v rest. front (pos v) rest))) ≡ front z rest
        → WrittenField c u z rest
    go true y h k f =
        below (and_left c.minus (starts (λ b. eqb b minus_sign) u) h)
        (and_right c.minus (starts (λ b. eqb b minus_sign) u) h) (number c (drop 1 u)) refl f
    go false true h k f =
        let j : pos 0 ≡ z = cc in
        let q : u ≡ rest = cc in
        record { p = []; is = q; field = rw (← j) (missing (and_left c.empty (not (starts is_digit u)) k)) }
    go false false h k f = above (number c u) refl f
