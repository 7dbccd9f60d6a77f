-- WHAT IS PRINTED IS READ BACK: the text of a number whose size is below 2^63 reads as that number, and the words of an
-- answer are the texts of its numbers. So two different answers never print alike.
use mathlib.Core.Path.{◌≡◌, refl, sym, ap, ◌∙◌}
use mathlib.Core.Bool.{true}
use mathlib.Core.List.{List, [], ◌∷◌, ◌++◌, map}
use Prim.Native.Nat.{ℕ, suc, ◌+◌, ◌-◌, ◌*◌, ◌≤◌, ◌<◌}
use native.Mathlib.Omega.{arith}
use lib.IntN.{ℤ, pos, negsuc}
use lib.Signed.{mag}
use lib.ListN.{length, take, length-append}
use lib.Seq.{take_at}
use Rattle.std.specs.declared.option.Option.TheVariants.{Some}
use Rattle.text_bytes.specs.Bytes.{is_blank, words, line_feed, space, digit_zero, digit_nine}
use Rattle.text_bytes.specs.Numbers.{Decimal, one, more, decimal, signed, least, Fitting, none_fits, also_fits}
use Rattle.text_bytes.specs.Numbers.{number_of, next, spaced, numbers_of, answer_text}
use Rattle.text_bytes.specs.Spells.{no_blank, blank, Digits, no_digit, digit, value, negated, Spells, plain}
use Rattle.text_bytes.specs.Spells.{minus}
use Rattle.text_bytes.proofs.Decimals.{decimal_is}
use Rattle.text_bytes.proofs.Words.{Ends, end, parted, words_blanks, words_solid, words_none}
use Rattle.text_bytes.proofs.Spelling.{impossible, Sized, spells_reads, spells_solid, spells_some}

-- ---- a number

digits_more : {t : List ℕ} (b : ℕ) → digit_zero ≤ b → b ≤ digit_nine → Digits t → Digits (t ++ (b ∷ []))
digits_more b h k no_digit = digit h k no_digit
digits_more b h k (digit lo up d) = digit lo up (digits_more b h k d)

value_more : (n : ℕ) (t : List ℕ) (b : ℕ) → value n (t ++ (b ∷ [])) ≡ 10 * value n t + (b - digit_zero)
unfolding value
value_more n [] b = refl
value_more n (c ∷ t) b = value_more (10 * n + (c - digit_zero)) t b

-- the text of a number is digits that spell it
decimal_sized : {n : ℕ} {t : List ℕ} → Decimal n t → Sized 0 t n × (0 < length t)
unfolding value
decimal_sized (one {d} h) = (
  record { digits = digit {b = digit_zero + d} (omega arith) (omega arith) no_digit; is = omega arith },
  omega arith,
)
decimal_sized (more {n} {d} {t} h k p) =
    let q : Sized 0 t n × (0 < length t) = decimal_sized p in (
      record {
        digits = digits_more (digit_zero + d) (omega arith) (omega arith) q.0.digits;
        is = value_more 0 t (digit_zero + d) ∙ rw q.0.is (omega arith);
      },
      rw (length-append t ((digit_zero + d) ∷ [])) (omega arith),
    )

-- a number whose size is below 2^63 is printed as a word that spells it
pub signed_spells : (z : ℤ) → mag z < least → Spells (signed z) z
unfolding signed negated
signed_spells (pos n) h =
    let q : Sized 0 (decimal n) n × (0 < length (decimal n)) = decimal_sized (decimal_is n) in
    rw q.0.is at (plain q.0.digits q.1 (rw q.0.is (omega arith)))
signed_spells (negsuc n) h =
    let q : Sized 0 (decimal (suc n)) (suc n) × (0 < length (decimal (suc n))) = decimal_sized (decimal_is (suc n)) in
    rw q.0.is at (minus q.0.digits q.1 (rw q.0.is (omega arith)))

-- A PRINTED NUMBER READS BACK
pub signed_back : (z : ℤ) → mag z < least → number_of (signed z) ≡ Some z
signed_back z h = spells_reads (signed_spells z h)

-- ---- answers

spaced_ends : (zs : List ℤ) → Ends (spaced zs)
unfolding spaced next is_blank
spaced_ends [] = end
spaced_ends (z ∷ zs) = parted refl

space_blank : is_blank space ≡ true
unfolding is_blank
space_blank = refl

-- the words of numbers with a blank before each are their texts
spaced_words : {zs : List ℤ} → Fitting zs → words (spaced zs) ≡ map signed zs
unfolding spaced next
spaced_words none_fits = words_none no_blank
spaced_words (also_fits {z} {zs} h p) =
    let s : Spells (signed z) z = signed_spells z h in
    words_blanks {t = space ∷ []} (signed z ++ spaced zs) (blank space_blank no_blank)
    ∙ words_solid (signed z) (spells_solid s) (spells_some s) (spaced_ends zs)
    ∙ ap (λ (ws : List (List ℕ)). signed z ∷ ws) (spaced_words p)

answer_words : {v : ℕ} {zs : List ℤ} → Fitting (numbers_of v zs)
    → words (decimal v ++ spaced zs) ≡ map signed (numbers_of v zs)
unfolding signed
answer_words {v} {zs} (also_fits h p) =
    let s : Spells (decimal v) (pos v) = signed_spells (pos v) h in
    words_solid (decimal v) (spells_solid s) (spells_some s) (spaced_ends zs)
    ∙ ap (λ (ws : List (List ℕ)). decimal v ∷ ws) (spaced_words p)

read_back : {zs : List ℤ} → Fitting zs → map number_of (map signed zs) ≡ map Some zs
read_back none_fits = refl
read_back (also_fits {z} {zs} h p) = rw (signed_back z h, read_back p)

-- AN ANSWER'S BYTES READ BACK TO THE SAME NUMBERS
pub answer_reads_back : {v : ℕ} {zs : List ℤ} → Fitting (numbers_of v zs)
    → map number_of (words (decimal v ++ spaced zs)) ≡ map Some (numbers_of v zs)
answer_reads_back p = ap (map number_of) (answer_words p) ∙ read_back p

same_numbers : (xs ys : List ℤ) → map Some xs ≡ map Some ys → xs ≡ ys
same_numbers [] [] e = refl
same_numbers [] (y ∷ ys) e = impossible cc
same_numbers (x ∷ xs) [] e = impossible cc
same_numbers (x ∷ xs) (y ∷ ys) e =
    let h : x ≡ y = cc in
    let t : map Some xs ≡ map Some ys = cc in
    rw (h, same_numbers xs ys t)

-- a byte more at the end of each tells nothing apart
same_front : (a b : List ℕ) (x : ℕ) → a ++ (x ∷ []) ≡ b ++ (x ∷ []) → a ≡ b
same_front a b x e =
    let l : length (a ++ (x ∷ [])) ≡ length (b ++ (x ∷ [])) = ap length e in
    let n : length a ≡ length b = omega (arith, rw (length-append a (x ∷ []), length-append b (x ∷ [])) at l) in
    sym (take_at a (x ∷ []) (length a) refl) ∙ ap (take (length a)) e ∙ take_at b (x ∷ []) (length a) (sym n)

-- TWO DIFFERENT ANSWERS NEVER PRINT ALIKE
pub alike_is_same : {v w : ℕ} {zs ys : List ℤ} → Fitting (numbers_of v zs) → Fitting (numbers_of w ys)
    → answer_text v zs ≡ answer_text w ys → numbers_of v zs ≡ numbers_of w ys
unfolding answer_text
alike_is_same {v} {w} {zs} {ys} p q e =
    let f : decimal v ++ spaced zs ≡ decimal w ++ spaced ys =
    same_front (decimal v ++ spaced zs) (decimal w ++ spaced ys) line_feed e in
    same_numbers (numbers_of v zs) (numbers_of w ys)
    (sym (answer_reads_back p) ∙ ap (λ (t : List ℕ). map number_of (words t)) f ∙ answer_reads_back q)
