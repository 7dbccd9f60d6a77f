-- WHAT IS PRINTED READS BACK: by the evening's own reading (`meaning` of text_protocol) each line is an evaluation of
-- the security on that day, with those rows.
use mathlib.Core.Path.{◌≡◌, refl, ap, ◌∙◌}
use mathlib.Core.Bool.{Bool, true, false}
use mathlib.Core.List.{List, [], ◌∷◌, ◌++◌, append_assoc, append-nil}
use Prim.Native.Nat.{ℕ, zero, suc, ◌+◌, ◌*◌, ◌/◌, ◌%◌, ◌^◌, ◌≤◌, ◌<◌}
use native.Mathlib.Nat.{pow-suc, div-lt_iff_lt-mul}
use native.Mathlib.Omega.{arith}
use lib.Dec.{ltb}
use lib.IntN.{ℤ, pos, negsuc}
use lib.Signed.{mag}
use lib.ListN.{length, length-append}
use lib.Seq.{take_all, drop_at}
use borrow.Author.Tests.{lt-ltb, le-leb}
use Rattle.paper.specs.Lists.{pick}
use Rattle.paper.specs.Numbers.{all_numbers_most}
use Rattle.text_bytes.specs.Bytes.{space, slash, is_blank}
use Rattle.text_bytes.specs.Numbers.{Fitting, none_fits, also_fits, least, spelt, decimal, signed, next, spaced}
use Rattle.text_bytes.specs.Spells.{no_blank}
use Rattle.text_bytes.proofs.RoundTrip.{signed_spells}
use Rattle.text_protocol.specs.declared.Pairs.{Pairs}
use Rattle.text_protocol.specs.Names.{forms, evaluate_kind, evaluate_word, evaluate_names, bond_names, place_of, code, takes}
use Rattle.text_protocol.specs.Names.{takes_in, count_fits}
use Rattle.text_protocol.specs.Line.{Call, no_pairs, has_terms, place_in, pair_fits, with_pair, more, kept_most, longest}
use Rattle.text_protocol.specs.Line.{meaning}
use Rattle.text_protocol.specs.Written.{CallWord, here, behind, Numbers, done, one, two, says}
use Rattle.text_protocol.proofs.Reading.{says_reads}
use Rattle.text_protocol.specs.declared.Kept.{Kept}
use Rattle.text_protocol.specs.Names.{the}
use Rattle.text_protocol.specs.Calls.{call, deed_of, call_of, desk_call, figures_behind, asked_of}
use Rattle.paper_desk.specs.Desk.{evaluate}
use Rattle.paper.specs.Terms.{day_of}
use Rattle.paper.specs.Ranges.{unsigned}
use Rattle.night_protocol.specs.Sheet.{term_text, day_text, head_text}

evaluate_called : CallWord evaluate_word evaluate_kind
unfolding forms
evaluate_called = behind here

space_is_blank : is_blank space ≡ true
unfolding is_blank
space_is_blank = refl

-- ---- numbers, a blank before each

kept : (ys : List ℤ) (z : ℤ) → length ys < kept_most → more ys z ≡ ys ++ z ∷ []
unfolding more
kept ys z h = take_all kept_most (ys ++ z ∷ []) (rw (length-append ys (z ∷ [])) (omega arith))

one_number : (ys : List ℤ) (q : Pairs) (z : ℤ) {rest : List ℕ} {out : List ℤ} {p : Pairs} → mag z < least
    → length ys < kept_most → Numbers evaluate_kind (ys ++ z ∷ []) q rest out p
    → Numbers evaluate_kind ys q (next z ++ rest) out p
unfolding next
one_number ys q z {rest} {out} {p} f h n =
    let m : Numbers evaluate_kind (more ys z) q rest out p = rw (kept ys z h) n in
    one space_is_blank no_blank (signed_spells z f) m

spaced_numbers : (ys zs : List ℤ) (q : Pairs) → Fitting zs → length ys + length zs ≤ kept_most
    → Numbers evaluate_kind ys q (spaced zs) (ys ++ zs) q
unfolding spaced
spaced_numbers ys [] q f h = rw (append-nil ys) (done no_blank)
spaced_numbers ys (z ∷ zs) q (also_fits i f) h =
    one_number ys q z i (omega arith)
    (rw (append_assoc ys (z ∷ []) zs) at
    (spaced_numbers (ys ++ z ∷ []) zs q f (rw (length-append ys (z ∷ [])) (omega arith))))

-- ---- a term

-- the pairs behind a term whose K has the place n of the line
abbrev pairs_behind : (pair : Bool) → (n : ℕ) → Pairs → Pairs
pairs_behind pair n q = pick pair (with_pair evaluate_kind (n + 1) q) q

term_numbers_lem : (ys : List ℤ) (q : Pairs) (pair : Bool) (a b c : ℤ) {rest : List ℕ} {out : List ℤ} {p : Pairs}
    → mag a < least → mag b < least → mag c < least → length ys + 3 ≤ kept_most
    → pair_fits evaluate_kind (length ys + 1) ≡ true
    → Numbers evaluate_kind (ys ++ a ∷ b ∷ c ∷ []) (pairs_behind pair (length ys) q) rest out p
    → Numbers evaluate_kind ys q (next a ++ (next b ++ ((pick pair slash space ∷ signed c) ++ rest))) out p
unfolding next
term_numbers_lem ys q false a b c {rest} {out} {p} fa fb fc h k n =
    one_number ys q a fa (omega arith)
    (one_number (ys ++ a ∷ []) q b fb (rw (length-append ys (a ∷ [])) (omega arith))
    (one_number ((ys ++ a ∷ []) ++ b ∷ []) q c fc
    (rw (length-append (ys ++ a ∷ []) (b ∷ []), length-append ys (a ∷ [])) (omega arith))
    (rw (← regrouped ys a b c) at n)))
  where
    regrouped : (ys : List ℤ) (a b c : ℤ) → ((ys ++ a ∷ []) ++ b ∷ []) ++ c ∷ [] ≡ ys ++ a ∷ b ∷ c ∷ []
    regrouped ys a b c = simp append_assoc
term_numbers_lem ys q true a b c {rest} {out} {p} fa fb fc h k n =
    let l : length (ys ++ a ∷ []) ≡ length ys + 1 = length-append ys (a ∷ []) in
    let m : more (more (ys ++ a ∷ []) b) c ≡ ys ++ a ∷ b ∷ c ∷ [] =
    ap (λ (x : List ℤ). more x c) (kept (ys ++ a ∷ []) b (omega arith))
    ∙ kept ((ys ++ a ∷ []) ++ b ∷ []) c (rw (length-append (ys ++ a ∷ []) (b ∷ [])) (omega arith))
    ∙ regrouped ys a b c in
    let k' : pair_fits evaluate_kind (length (ys ++ a ∷ [])) ≡ true = rw l k in
    let n' : Numbers evaluate_kind (more (more (ys ++ a ∷ []) b) c) (with_pair evaluate_kind (length (ys ++ a ∷ [])) q)
    rest
    out p = rw (m, l) n in
    let t : Numbers evaluate_kind (ys ++ a ∷ []) q (space ∷ ((signed b ++ slash ∷ signed c) ++ rest)) out p =
    two space_is_blank no_blank (signed_spells b fb) (signed_spells c fc) k' n' in
    one_number ys q a fa (omega arith) (rw (append_assoc (signed b) (slash ∷ signed c) rest) at t)
  where
    regrouped : (ys : List ℤ) (a b c : ℤ) → ((ys ++ a ∷ []) ++ b ∷ []) ++ c ∷ [] ≡ ys ++ a ∷ b ∷ c ∷ []
    regrouped ys a b c = simp append_assoc

-- ---- how long a line is

spelt_short : (f k n : ℕ) → n < 10 ^ suc k → length (spelt f n) ≤ suc k
unfolding spelt
spelt_short zero k n h = omega arith
spelt_short (suc f) zero n h =
    let s : n < 10 = omega arith in
    rw (lt-ltb n 10 s) (omega arith)
spelt_short (suc f) (suc k) n h = go (ltb n 10) (spelt_short f k (n / 10) tenth)
  where
    tenth : n / 10 < 10 ^ suc k
    tenth = (div-lt_iff_lt-mul {k = 10} {x = n} {y = 10 ^ suc k} (omega arith)).1 (rw (pow-suc 10 (suc k)) at h)

    go : (b : Bool) → length (spelt f (n / 10)) ≤ suc k
        → length (pick b ((48 + n) ∷ []) (spelt f (n / 10) ++ ((48 + n % 10) ∷ []))) ≤ suc (suc k)
    go true i = omega arith
    go false i = rw (length-append (spelt f (n / 10)) ((48 + n % 10) ∷ [])) (omega arith)

next_short : (z : ℤ) → mag z < least → length (next z) ≤ 21
unfolding next signed decimal
next_short (pos n) f = omega (arith, spelt_short (suc n) 18 n (omega arith))
next_short (negsuc n) f = omega (arith, spelt_short (suc (suc n)) 18 (suc n) (omega arith))

spaced_short : (zs : List ℤ) → Fitting zs → length (spaced zs) ≤ 21 * length zs
unfolding spaced
spaced_short [] f = omega arith
spaced_short (z ∷ zs) (also_fits i f) =
    rw (length-append (next z) (spaced zs)) (omega (arith, next_short z i, spaced_short zs f))

-- a byte and a number
behind_short : (x : ℕ) (z : ℤ) → mag z < least → length (x ∷ signed z) ≤ 21
unfolding next
behind_short x z f = omega (arith, next_short z f)

-- ---- an evaluation

-- the pairs of the three terms
pairs_are : (p : Pairs)
    → pairs_behind p.third 10 (pairs_behind p.second 7 (pairs_behind p.first 4 no_pairs)) ≡ p
unfolding with_pair place_in place_of evaluate_names bond_names code
pairs_are p = go p.first p.second p.third
  where
    go : (x y z : Bool)
        → pairs_behind z 10 (pairs_behind y 7 (pairs_behind x 4 no_pairs)) ≡ record { first = x; second = y; third = z }
    go true true true = refl
    go true true false = refl
    go true false true = refl
    go true false false = refl
    go false true true = refl
    go false true false = refl
    go false false true = refl
    go false false false = refl

pairs_fit : (pair_fits evaluate_kind 5 ≡ true) × (pair_fits evaluate_kind 8 ≡ true) × (pair_fits evaluate_kind 11 ≡ true)
unfolding pair_fits has_terms place_in place_of evaluate_names bond_names code
pairs_fit = (refl, refl, refl)

enough : (n : ℕ) → 13 ≤ n → takes evaluate_kind n ≡ true
unfolding takes takes_in count_fits forms
enough n h = le-leb 13 n h

regrouped_line : (w a b c d e f g h i j k l m t : List ℕ)
    → ((w ++ a) ++ (((((b ++ c) ++ d) ++ ((e ++ f) ++ g)) ++ ((h ++ i) ++ j)) ++ ((k ++ l) ++ m))) ++ t
    ≡ w ++ (a ++ (b ++ (c ++ (d ++ (e ++ (f ++ (g ++ (h ++ (i ++ (j ++ (k ++ (l ++ (m ++ t)))))))))))))
regrouped_line w a b c d e f g h i j k l m t = simp append_assoc

module _ (p : Pairs) (id : ℕ) (day b m k0 l0 h0 k1 l1 h1 k2 l2 h2 : ℤ) (ids figures : List ℤ) where
  abbrev numbers : List ℤ
  numbers = day ∷ b ∷ m ∷ k0 ∷ l0 ∷ h0 ∷ k1 ∷ l1 ∷ h1 ∷ k2 ∷ l2 ∷ h2 ∷ ids

  -- behind the word
  abbrev rest : List ℕ
  rest = next (pos id) ++ (next day ++ (next b ++ (next m ++ (next k0 ++ (next l0 ++ ((pick p.first slash space ∷
      signed h0) ++ (next k1 ++ (next l1 ++ ((pick p.second slash space ∷ signed h1) ++ (next k2 ++ (next l2 ++
      ((pick p.third slash space ∷ signed h2) ++ spaced figures))))))))))))

  grouped : head_text numbers p id ++ spaced figures ≡ evaluate_word ++ rest
  unfolding head_text day_text term_text
  grouped =
      regrouped_line evaluate_word (next (pos id)) (next day) (next b) (next m) (next k0) (next l0)
      (pick p.first slash space ∷ signed h0) (next k1) (next l1) (pick p.second slash space ∷ signed h1) (next k2)
      (next l2) (pick p.third slash space ∷ signed h2) (spaced figures)

  -- EACH LINE IS AN EVALUATION of the security, with the day's numbers and pairs, and with those rows
  pub reads_back : Fitting (pos id ∷ day ∷ b ∷ m ∷ k0 ∷ l0 ∷ h0 ∷ k1 ∷ l1 ∷ h1 ∷ k2 ∷ l2 ∷ h2 ∷ []) → Fitting
      figures → length figures ≤ all_numbers_most
      → meaning (head_text numbers p id ++ spaced figures)
      ≡ Call evaluate_kind (pos id ∷ day ∷ b ∷ m ∷ k0 ∷ l0 ∷ h0 ∷ k1 ∷ l1 ∷ h1 ∷ k2 ∷ l2 ∷ h2 ∷ figures) p
  reads_back (also_fits fi (also_fits fday (also_fits fb (also_fits fm (also_fits fk0 (also_fits fl0 (also_fits fh0
      (also_fits fk1 (also_fits fl1 (also_fits fh1 (also_fits fk2 (also_fits fl2 (also_fits fh2
      none_fits))))))))))))) ff few =
      rw grouped
      (says_reads (says no_blank evaluate_called all (enough (length (pos id ∷ day ∷ b ∷ m ∷ k0 ∷ l0 ∷ h0 ∷ k1 ∷ l1
      ∷ h1 ∷ k2 ∷ l2 ∷ h2 ∷ figures)) (omega arith)) short))
    where
      all : Numbers evaluate_kind [] no_pairs rest (pos id ∷ day ∷ b ∷ m ∷ k0 ∷ l0 ∷ h0 ∷ k1 ∷ l1 ∷ h1 ∷ k2 ∷ l2 ∷ h2
          ∷ figures) p
      all =
          one_number [] no_pairs (pos id) fi (omega arith)
          (one_number (pos id ∷ []) no_pairs day fday (omega arith)
          (one_number (pos id ∷ day ∷ []) no_pairs b fb (omega arith)
          (one_number (pos id ∷ day ∷ b ∷ []) no_pairs m fm (omega arith)
          (term_numbers_lem (pos id ∷ day ∷ b ∷ m ∷ []) no_pairs p.first k0 l0 h0 fk0 fl0 fh0 (omega arith) pairs_fit.0
          (term_numbers_lem (pos id ∷ day ∷ b ∷ m ∷ k0 ∷ l0 ∷ h0 ∷ []) (pairs_behind p.first 4 no_pairs) p.second k1
          l1 h1
          fk1 fl1 fh1 (omega arith) pairs_fit.1
          (term_numbers_lem (pos id ∷ day ∷ b ∷ m ∷ k0 ∷ l0 ∷ h0 ∷ k1 ∷ l1 ∷ h1 ∷ [])
          (pairs_behind p.second 7 (pairs_behind p.first 4 no_pairs)) p.third k2 l2 h2
          fk2 fl2 fh2 (omega arith) pairs_fit.2
          (rw (pairs_are p)
          (spaced_numbers (pos id ∷ day ∷ b ∷ m ∷ k0 ∷ l0 ∷ h0 ∷ k1 ∷ l1 ∷ h1 ∷ k2 ∷ l2 ∷ h2 ∷ []) figures p ff
          (omega arith)))))))))

      short : length (evaluate_word ++ rest) ≤ longest
      short =
          simp length-append
          (omega (
            arith,
            next_short (pos id) fi,
            next_short day fday,
            next_short b fb,
            next_short m fm,
            next_short k0 fk0,
            next_short l0 fl0,
            behind_short (pick p.first slash space) h0 fh0,
            next_short k1 fk1,
            next_short l1 fl1,
            behind_short (pick p.second slash space) h1 fh1,
            next_short k2 fk2,
            next_short l2 fl2,
            behind_short (pick p.third slash space) h2 fh2,
            spaced_short figures ff,
          ))

-- the same as a call of the desk, whatever is kept of interest lines: the evaluation of the security on that day, with
-- those rows
pub evaluation_of_that_day : (k : Kept) (p : Pairs) (id : ℕ) (figures zs : List ℤ) → length zs ≡ 12
    → deed_of k (Call evaluate_kind (pos id ∷ (zs ++ figures)) p)
    ≡ call (evaluate id (day_of (asked_of k (pos id ∷ (zs ++ figures)) p)) figures)
unfolding deed_of call_of desk_call figures_behind evaluate_names place_of code the unsigned
evaluation_of_that_day k p id figures zs l =
    ap (λ (x : List ℤ). call (evaluate id (day_of (asked_of k (pos id ∷ (zs ++ figures)) p)) x)) (drop_at zs figures 12 l)
