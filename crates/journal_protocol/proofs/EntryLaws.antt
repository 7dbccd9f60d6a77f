-- An entry: what is written is read back, what is read as an entry was written so, and no entry has a line feed.
use mathlib.Core.Path.{◌≡◌, refl, sym, ap, ◌∙◌}
use mathlib.Core.Bool.{Bool, true, false}
use mathlib.Core.List.{List, [], ◌∷◌, ◌++◌}
use Prim.Native.Nat.{ℕ, zero, suc, ◌+◌, ◌-◌, ◌*◌, ◌/◌, ◌%◌, ◌≤◌, ◌<◌}
use native.Mathlib.Omega.{arith}
use lib.Dec.{leb, ltb, eqb}
use lib.ListN.{length, drop, length-append}
use lib.Seq.{take-append_seam}
use borrow.Author.Tests.{le-leb, leb-true, eq-eqb, ne_eqb, eqb-true}
use Rattle.paper.specs.Lists.{pick, every}
use Rattle.paper.proofs.Logic.{and_left, and_right, and_both}
use Rattle.sums.specs.Sums.{sum_of}
use Rattle.text_bytes.specs.Bytes.{space, line_feed, digit_zero, is_line_feed, is_not, run, same}
use Rattle.text_bytes.specs.Numbers.{Decimal, one, more, decimal}
use Rattle.text_bytes.specs.Spells.{value}
use Rattle.text_bytes.specs.Split.{Free, free_none, free}
use Rattle.text_bytes.proofs.Decimals.{decimal_is}
use Rattle.text_bytes.proofs.Pieces.{free_append}
use Rattle.text_bytes.proofs.Spelling.{impossible}
use Rattle.text_protocol.specs.Line.{longest}
use Rattle.journal_protocol.specs.Entries.{Entry, digit_ten, hex_digit, hex, sum_digits, behind_sum, written}
use Rattle.journal_protocol.specs.Entries.{from_number, number_end, read_as, is_entry}

-- ---- words that are the same, byte by byte

pub same_self : (w : List ℕ) → same w w ≡ true
unfolding same
same_self [] = refl
same_self (b ∷ w) = rw (eq-eqb b b refl) (same_self w)

pub same_is : (w v : List ℕ) → same w v ≡ true → w ≡ v
unfolding same
same_is [] [] e = refl
same_is [] (c ∷ v) e = impossible cc
same_is (b ∷ w) [] e = impossible cc
same_is (b ∷ w) (c ∷ v) e = go (eqb b c) refl e (λ f. same_is w v f)
  where
    go : (x : Bool) → eqb b c ≡ x → pick x (same w v) false ≡ true → (same w v ≡ true → w ≡ v)
        → ◌≡◌ {A = List ℕ} (b ∷ w) (c ∷ v)
    go true h f k =
        let i : b ≡ c = eqb-true b c h in
        let j : w ≡ v = k f in
        cc
    go false h f k = impossible cc

-- ---- the bytes of the sum and of the number

hex_length : (count n : ℕ) → length (hex count n) ≡ count
unfolding hex
hex_length zero n = refl
hex_length (suc count) n =
    length-append (hex count (n / 16)) (hex_digit (n % 16) ∷ []) ∙ rw (hex_length count (n / 16)) (omega arith)

hex_digit_high : (d : ℕ) → digit_zero ≤ hex_digit d
unfolding hex_digit
hex_digit_high d = go (ltb d 10)
  where
    go : (x : Bool) → digit_zero ≤ pick x (digit_zero + d) (digit_ten + (d - 10))
    go true = omega arith
    go false = omega arith

-- no digit is a line feed or a space
above : (b c : ℕ) → digit_zero ≤ b → c < digit_zero → b ≡ c → ⊥
above b c h k e = omega arith

high_no_feed : (b : ℕ) → digit_zero ≤ b → is_line_feed b ≡ false
unfolding is_line_feed
high_no_feed b h = ne_eqb b line_feed (above b line_feed h (omega arith))

high_no_space : (b : ℕ) → digit_zero ≤ b → is_not space b ≡ true
unfolding is_not
high_no_space b h = rw (ne_eqb b space (above b space h (omega arith)))

space_no_feed : is_line_feed space ≡ false
unfolding is_line_feed
space_no_feed = refl

hex_free : (count n : ℕ) → Free is_line_feed (hex count n)
unfolding hex
hex_free zero n = free_none
hex_free (suc count) n =
    free_append (hex_free count (n / 16))
    (free (high_no_feed (hex_digit (n % 16)) (hex_digit_high (n % 16))) free_none)

decimal_free : {n : ℕ} {t : List ℕ} → Decimal n t → Free is_line_feed t
decimal_free (one {d} h) = free (high_no_feed (digit_zero + d) (omega arith)) free_none
decimal_free (more {d = d} h k p) =
    free_append (decimal_free p) (free (high_no_feed (digit_zero + d) (omega arith)) free_none)

every_append : (p : ℕ → Bool) (s t : List ℕ) → every p s ≡ true → every p t ≡ true → every p (s ++ t) ≡ true
unfolding every
every_append p [] t h k = k
every_append p (b ∷ s) t h k =
    and_both (p b) (every p (s ++ t)) (and_left (p b) (every p s) h)
    (every_append p s t (and_right (p b) (every p s) h) k)

decimal_solid : {n : ℕ} {t : List ℕ} → Decimal n t → every (is_not space) t ≡ true
unfolding every
decimal_solid (one {d} h) =
    and_both (is_not space (digit_zero + d)) true (high_no_space (digit_zero + d) (omega arith)) refl
decimal_solid (more {d = d} {t = t} h k p) =
    every_append (is_not space) t ((digit_zero + d) ∷ []) (decimal_solid p)
    (and_both (is_not space (digit_zero + d)) true (high_no_space (digit_zero + d) (omega arith)) refl)

-- the digits of a number spell it
value_more : (n : ℕ) (t : List ℕ) (b : ℕ) → value n (t ++ b ∷ []) ≡ 10 * value n t + (b - digit_zero)
unfolding value
value_more n [] b = refl
value_more n (c ∷ t) b = value_more (10 * n + (c - digit_zero)) t b

decimal_value : {n : ℕ} {t : List ℕ} → Decimal n t → value 0 t ≡ n
unfolding value
decimal_value (one {d} h) = omega arith
decimal_value (more {n} {d} {t} h k p) = value_more 0 t (digit_zero + d) ∙ rw (decimal_value p) (omega arith)

-- ---- what is written is read back

not_self : (c : ℕ) → is_not c c ≡ false
unfolding is_not
not_self c = rw (eq-eqb c c refl)

run_to : (c : ℕ) (w rest : List ℕ) → every (is_not c) w ≡ true → run (is_not c) (w ++ c ∷ rest) ≡ length w
unfolding every run
run_to c [] rest h = rw (not_self c)
run_to c (b ∷ w) rest h =
    rw (and_left (is_not c b) (every (is_not c) w) h)
    (ap suc (run_to c w rest (and_right (is_not c b) (every (is_not c) w) h)))

drop_past : (p : List ℕ) (c : ℕ) (q : List ℕ) → drop (suc (length p)) (p ++ c ∷ q) ≡ q
drop_past [] c q = refl
drop_past (b ∷ p) c q = drop_past p c q

number_behind : (e : Entry) → from_number (written e) ≡ decimal e.batch ++ space ∷ e.line
unfolding from_number written behind_sum
number_behind e =
    ap (λ (n : ℕ). drop (suc n) (hex sum_digits (sum_of (behind_sum e)) ++ behind_sum e))
    (sym (hex_length sum_digits (sum_of (behind_sum e))))
    ∙ drop_past (hex sum_digits (sum_of (behind_sum e))) space (decimal e.batch ++ space ∷ e.line)

number_ends : (e : Entry) → number_end (written e) ≡ length (decimal e.batch)
unfolding number_end
number_ends e =
    ap (run (is_not space)) (number_behind e)
    ∙ run_to space (decimal e.batch) e.line (decimal_solid (decimal_is e.batch))

-- WHAT IS WRITTEN IS READ BACK
pub entry_back : (e : Entry) → read_as (written e) ≡ e
unfolding read_as
entry_back e =
    rw (
      number_ends e,
      number_behind e,
      take-append_seam (decimal e.batch) (space ∷ e.line),
      drop_past (decimal e.batch) space e.line,
      decimal_value (decimal_is e.batch),
    )

pub entry_is_one : (e : Entry) → length e.line ≤ longest → is_entry (written e) ≡ true
unfolding is_entry
entry_is_one e h =
    rw (entry_back e)
    (and_both (same (written e) (written e)) (leb (length e.line) longest) (same_self (written e))
    (le-leb (length e.line) longest h))

-- WHAT IS READ AS AN ENTRY WAS WRITTEN SO
pub entry_was_written : (l : List ℕ) → is_entry l ≡ true → l ≡ written (read_as l)
unfolding is_entry
entry_was_written l h =
    same_is l (written (read_as l)) (and_left (same l (written (read_as l))) (leb (length (read_as l).line) longest) h)

pub entry_is_short : (l : List ℕ) → is_entry l ≡ true → length (read_as l).line ≤ longest
unfolding is_entry
entry_is_short l h =
    leb-true (length (read_as l).line) longest
    (and_right (same l (written (read_as l))) (leb (length (read_as l).line) longest) h)

-- NO ENTRY HAS A LINE FEED
pub entry_free : (e : Entry) → Free is_line_feed e.line → Free is_line_feed (written e)
unfolding written behind_sum
entry_free e f =
    free_append (hex_free sum_digits (sum_of (behind_sum e)))
    (free space_no_feed (free_append (decimal_free (decimal_is e.batch)) (free space_no_feed f)))
