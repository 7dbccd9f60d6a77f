-- Laws of an evening's key maturities: the first and the others, that of a number, and what those in range give.
use Rattle.std.specs.Prelude.{◌≡◌, refl, true, false, List, [], ◌∷◌, map, Contains, ℕ, zero, suc, ◌+◌, ◌-◌, ◌*◌, ◌/◌, ◌%◌, ◌≤◌, ◌<◌, ℤ, pos, length, get_or, take, drop, slice_get, Some, None}
use Rattle.std.proofs.Common.{ap, sym, ◌∙◌, arith, leb-true, eqb-true}
use Rattle.std.proofs.lemmas.List.{length-map, get_or-map, get_or-drop, get_or-take, length-drop, drop-drop}
use Rattle.std.proofs.lemmas.Option.{slice_get-get_or, slice_get_past}
use Rattle.paper.specs.declared.Maturity.{Maturity}
use Rattle.paper.specs.Lists.{every}
use Rattle.paper.specs.Numbers.{key_numbers, all_key_numbers_most}
use Rattle.paper.specs.Ranges.{parts_from}
use Rattle.paper_interest.specs.Interest.{LentKey, key_at, keys_of, whole_keys, valid_key, valid_keys, maturity_of}
use Rattle.paper_interest.specs.Interest.{maturities_of, KeyRange}
use Rattle.paper.proofs.Logic.{and_left, and_right}
use Rattle.paper_interest.proofs.InterestRanges.{valid_key_in_range}
use Rattle.exact.specs.EveryLaws.{every_at}

-- ---- the first and the others

number_behind : (numbers : List ℤ) (i k : ℕ) → key_numbers + i ≡ k
    → get_or (drop key_numbers numbers) i (pos 0) ≡ get_or numbers k (pos 0)
number_behind numbers i k e =
    get_or-drop key_numbers numbers i (pos 0) ∙ ap (λ (n : ℕ). get_or numbers n (pos 0)) e

-- a key maturity of the numbers behind the first is one of all, eight numbers on
key_behind : (numbers : List ℤ) (at from : ℕ) → key_numbers + at ≡ from
    → key_at (drop key_numbers numbers) at ≡ key_at numbers from
unfolding key_at
key_behind numbers at from e =
    λ j. record {
      t = number_behind numbers at from e j;
      r = number_behind numbers (at + 1) (from + 1) (omega arith) j;
      r1 = number_behind numbers (at + 2) (from + 2) (omega arith) j;
      r2 = number_behind numbers (at + 3) (from + 3) (omega arith) j;
      index = number_behind numbers (at + 4) (from + 4) (omega arith) j;
      volatility = number_behind numbers (at + 5) (from + 5) (omega arith) j;
      tentative = number_behind numbers (at + 6) (from + 6) (omega arith) j;
      age = number_behind numbers (at + 7) (from + 7) (omega arith) j;
    }

keys_behind : (numbers : List ℤ) (at from count : ℕ) → key_numbers + at ≡ from
    → parts_from key_at key_numbers numbers from count
    ≡ parts_from key_at key_numbers (drop key_numbers numbers) at count
unfolding parts_from
keys_behind numbers at from zero e = refl
keys_behind numbers at from (suc count) e =
    λ j. sym (key_behind numbers at from e) j ∷ keys_behind numbers (at + key_numbers) (from + key_numbers) count (omega arith) j

key_in_front : (numbers : List ℤ) → key_at (take key_numbers numbers) 0 ≡ key_at numbers 0
unfolding key_at
key_in_front numbers =
    λ j. record {
      t = get_or-take key_numbers numbers 0 (pos 0) (omega arith) j;
      r = get_or-take key_numbers numbers 1 (pos 0) (omega arith) j;
      r1 = get_or-take key_numbers numbers 2 (pos 0) (omega arith) j;
      r2 = get_or-take key_numbers numbers 3 (pos 0) (omega arith) j;
      index = get_or-take key_numbers numbers 4 (pos 0) (omega arith) j;
      volatility = get_or-take key_numbers numbers 5 (pos 0) (omega arith) j;
      tentative = get_or-take key_numbers numbers 6 (pos 0) (omega arith) j;
      age = get_or-take key_numbers numbers 7 (pos 0) (omega arith) j;
    }

pub first_and_others : (numbers : List ℤ) → key_numbers ≤ length numbers
    → maturities_of numbers
    ≡ maturity_of (key_at (take key_numbers numbers) 0) ∷ maturities_of (drop key_numbers numbers)
unfolding maturities_of keys_of parts_from
first_and_others numbers h =
    let count : length numbers / key_numbers ≡ suc (length (drop key_numbers numbers) / key_numbers) =
    omega (arith, length-drop key_numbers numbers) in
    ap (λ (n : ℕ). map maturity_of (parts_from key_at key_numbers numbers 0 n)) count
    ∙ (λ j. maturity_of (sym (key_in_front numbers) j)
    ∷ map maturity_of (keys_behind numbers 0 key_numbers (length (drop key_numbers numbers) / key_numbers) refl j))

pub none_of_short : (numbers : List ℤ) → length numbers < key_numbers → maturities_of numbers ≡ []
unfolding maturities_of keys_of parts_from
none_of_short numbers h =
    let count : length numbers / key_numbers ≡ 0 = omega arith in
    ap (λ (n : ℕ). map maturity_of (parts_from key_at key_numbers numbers 0 n)) count

-- ---- how many there are

pub keys_count : (numbers : List ℤ) (at count : ℕ) → length (parts_from key_at key_numbers numbers at count) ≡ count
unfolding parts_from
keys_count numbers at zero = refl
keys_count numbers at (suc count) = ap suc (keys_count numbers (at + key_numbers) count)

pub count_is : (numbers : List ℤ) → length (maturities_of numbers) ≡ length numbers / key_numbers
unfolding maturities_of keys_of
count_is numbers = length-map (keys_of numbers) maturity_of ∙ keys_count numbers 0 (length numbers / key_numbers)

-- ---- the key maturity of a number

-- behind n of them are the others
behind : (numbers : List ℤ) (n : ℕ) → key_numbers * n ≤ length numbers
    → maturities_of (drop (key_numbers * n) numbers) ≡ drop n (maturities_of numbers)
behind numbers zero h = refl
behind numbers (suc n) h =
    let front : key_numbers ≤ length numbers = omega arith in
    let rest : length (drop key_numbers numbers) ≡ length numbers - key_numbers = length-drop key_numbers numbers in
    ap (λ (m : ℕ). maturities_of (drop m numbers)) (omega arith)
    ∙ ap maturities_of (sym (drop-drop (key_numbers * n) key_numbers numbers))
    ∙ behind (drop key_numbers numbers) n (omega arith)
    ∙ sym (ap (drop (suc n)) (first_and_others numbers front))

pub nth_is : (numbers : List ℤ) (n : ℕ) (k : Maturity) (others : List Maturity) → key_numbers * n + key_numbers ≤ length numbers
    → maturities_of (drop (key_numbers * n) numbers) ≡ k ∷ others
    → slice_get (maturities_of numbers) n ≡ Some k
nth_is numbers n k others h e =
    let here : get_or (maturities_of numbers) n k ≡ k =
    ap (λ (m : ℕ). get_or (maturities_of numbers) m k) (omega arith)
    ∙ sym (get_or-drop n (maturities_of numbers) 0 k)
    ∙ ap (λ (ks : List Maturity). get_or ks 0 k) (sym (behind numbers n (omega arith)) ∙ e) in
    slice_get-get_or (maturities_of numbers) n k (omega (arith, count_is numbers)) ∙ ap Some here

pub nth_past : (numbers : List ℤ) (n : ℕ) → length numbers < key_numbers * n + key_numbers
    → slice_get (maturities_of numbers) n ≡ None
nth_past numbers n h = slice_get_past (maturities_of numbers) n (omega (arith, count_is numbers))

-- ---- what numbers that are not refused give

pub valid_whole : (numbers : List ℤ) → valid_keys numbers ≡ true → whole_keys numbers ≡ true
unfolding valid_keys
valid_whole numbers v = search (v, and_left)

pub whole_in_eights : (numbers : List ℤ) → whole_keys numbers ≡ true → length numbers % key_numbers ≡ 0
unfolding whole_keys
whole_in_eights numbers v = eqb-true (length numbers % key_numbers) 0 (search (v, and_left))

pub whole_has_one : (numbers : List ℤ) → whole_keys numbers ≡ true → key_numbers ≤ length numbers
unfolding whole_keys
whole_has_one numbers v = leb-true key_numbers (length numbers) (search (v, and_left, and_right))

pub whole_within_most : (numbers : List ℤ) → whole_keys numbers ≡ true → length numbers ≤ all_key_numbers_most
unfolding whole_keys
whole_within_most numbers v = leb-true (length numbers) all_key_numbers_most (search (v, and_left, and_right))

-- each key maturity is in range
pub key_in_range : (numbers : List ℤ) (k : Maturity) → valid_keys numbers ≡ true → Contains (maturities_of numbers) k
    → KeyRange k
unfolding valid_keys maturities_of
key_in_range numbers k v h =
    let all : every valid_key (keys_of numbers) ≡ true = search (v, and_left, and_right) in
    let n : ℕ = h.0 in
    let none : LentKey = key_at [] 0 in
    let inside : n < length (keys_of numbers) = omega (arith, h.1, length-map (keys_of numbers) maturity_of) in
    let valid : valid_key (get_or (keys_of numbers) n none) ≡ true =
    sym (get_or-map valid_key (keys_of numbers) n none false inside) ∙ every_at valid_key (keys_of numbers) n all inside in
    let is : maturity_of (get_or (keys_of numbers) n none) ≡ k =
    sym (get_or-map maturity_of (keys_of numbers) n none k inside) ∙ h.2 in
    rw (← is) (valid_key_in_range (get_or (keys_of numbers) n none) valid)
