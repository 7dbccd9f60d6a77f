-- Laws of an evening's key maturities by place: those from a place on, and the key maturity of a number.
use Rattle.std.specs.Prelude.{◌≡◌, true, false, List, map, ℕ, zero, suc, ◌+◌, ◌*◌, ◌/◌, ◌%◌, ◌≤◌, ◌<◌, ℤ, length, get_or}
use Rattle.std.proofs.Common.{ap, sym, ◌∙◌, arith}
use Rattle.std.proofs.lemmas.Simd.{map-map}
use Rattle.std.proofs.lemmas.List.{length-map}
use Rattle.std.proofs.Math.ListN.{get_or-eq_default}
use Rattle.paper.specs.declared.Maturity.{Maturity}
use Rattle.paper.specs.Lists.{every}
use Rattle.paper.specs.Numbers.{key_numbers}
use Rattle.paper.specs.Ranges.{parts_from}
use Rattle.paper_interest.specs.Interest.{LentKey, key_at, keys_of, valid_key, valid_keys, maturity_of, maturities_of}
use Rattle.paper.proofs.Logic.{and_left, and_right}
use Rattle.exact.specs.EveryLaws.{every_at}
use Rattle.exact.specs.LentLaws.{Place, parts_left, left_first}
use Rattle.interest_maturities.specs.KeyLaws.{keys_count, count_is}

-- the key maturity that begins at a place
abbrev pub maturity_at : (numbers : List ℤ) → (at : ℕ) → Maturity
maturity_at numbers at = maturity_of (key_at numbers at)

-- ---- the key maturities from a place on

abbrev pub rest_of : (numbers : List ℤ) → (at : ℕ) → List LentKey
rest_of numbers at = parts_left key_at key_numbers numbers at

pub rest_first : (numbers : List ℤ) → rest_of numbers 0 ≡ keys_of numbers
unfolding keys_of
rest_first numbers = left_first key_at key_numbers numbers

-- a place is a whole number of key maturities on
pub place_in_eights : (numbers : List ℤ) (at : ℕ) → Place key_numbers numbers at → at % key_numbers ≡ 0
place_in_eights numbers at p = omega (arith, p.is)

-- ---- the key maturity of a number

-- of so many keys from a place on, what is read off the one of number i is read where it begins
key_here : {A : Type 0} (g : LentKey → A) (d : A) (numbers : List ℤ) (from count i at : ℕ) → i < count
    → from + key_numbers * i ≡ at
    → get_or (map g (parts_from key_at key_numbers numbers from count)) i d ≡ g (key_at numbers at)
unfolding parts_from
key_here g d numbers from zero i at h e = absurd (omega arith)
key_here g d numbers from (suc count) zero at h e = ap (λ (n : ℕ). g (key_at numbers n)) (omega arith)
key_here g d numbers from (suc count) (suc i) at h e =
    key_here g d numbers (from + key_numbers) count i at (omega arith) (omega arith)

-- what is read off the key maturity of number n is read where it begins
pub figure_here : {A : Type 0} (f : Maturity → A) (d : A) (numbers : List ℤ) (n : ℕ)
    → key_numbers * n + key_numbers ≤ length numbers
    → get_or (map f (maturities_of numbers)) n d ≡ f (maturity_at numbers (key_numbers * n))
unfolding maturities_of keys_of
figure_here f d numbers n h =
    ap (λ (xs : List _). get_or xs n d) (map-map f maturity_of (keys_of numbers))
    ∙ key_here (λ k. f (maturity_of k)) d numbers 0 (length numbers / key_numbers) n (key_numbers * n) (omega arith)
    (omega arith)

-- and past the last there is none
pub figure_past : {A : Type 0} (f : Maturity → A) (d : A) (numbers : List ℤ) (n : ℕ) → length numbers % key_numbers ≡ 0
    → length numbers ≤ key_numbers * n
    → get_or (map f (maturities_of numbers)) n d ≡ d
figure_past f d numbers n e h =
    get_or-eq_default (map f (maturities_of numbers)) d
    (omega (arith, length-map (maturities_of numbers) f, count_is numbers))

-- that of a place is in range where all are
pub valid_key_lem : (numbers : List ℤ) (at : ℕ) → valid_keys numbers ≡ true → at % key_numbers ≡ 0
    → at + key_numbers ≤ length numbers
    → valid_key (key_at numbers at) ≡ true
unfolding valid_keys keys_of
valid_key_lem numbers at v e h =
    let count : ℕ = length numbers / key_numbers in
    let n : ℕ = at / key_numbers in
    let all : every valid_key (parts_from key_at key_numbers numbers 0 count) ≡ true = search (v, and_left, and_right) in
    sym (key_here valid_key false numbers 0 count n at (omega arith) (omega arith))
    ∙ every_at valid_key (parts_from key_at key_numbers numbers 0 count) n all (omega (arith, keys_count numbers 0 count))
