-- The words on the command line, one after the other, as laws over lists and numbers.
use mathlib.Core.Path.{◌≡◌, refl, sym, ap, ◌∙◌}
use mathlib.Core.Bool.{Bool, true, false, ◌||◌, ◌&&◌, not}
use mathlib.Core.List.{List, [], ◌∷◌, ◌++◌, append_assoc, append-nil}
use Prim.Native.Nat.{ℕ, suc, ◌+◌, ◌≤◌, ◌<◌}
use native.Mathlib.Omega.{arith}
use lib.Dec.{ltb, eqb}
use lib.IntN.{ℤ, pos}
use lib.Signed.{lt_z}
use lib.ListN.{length, take, set, length-set}
use lib.Seq.{take-suc-set, length-take-le}
use borrow.Author.Tests.{le-leb, lt-leb, lt-ltb, le-ltb, ltb-true, ltb-false, eqb-true}
use Rattle.paper.specs.Lists.{pick}
use Rattle.text_protocol.specs.declared.Item.{Item}
use Rattle.text_protocol.specs.declared.Item.TheVariants as item
use Rattle.text_protocol.specs.declared.Pairs.{Pairs}
use Rattle.text_bytes.proofs.Spelling.{impossible}
use Rattle.text_protocol.specs.Names.{evaluate_kind, evaluate_names, bond_names, place_of, code}
use Rattle.text_protocol.specs.Line.{Reading, read, spoilt, item_of, has_terms, place_in, pair_fits, with_pair}
use Rattle.night_serve.specs.declared.Taken.{Taken}
use Rattle.night_protocol.specs.Sheet.{day_numbers, words_most, may_stand, asking, asked_on, asked_from, asked_by}
use Rattle.night_serve.specs.Serving.{start_taken, reading_of, TakesWord, asked_taken, Asks}

-- ---- tests

pub not_false : (b : Bool) → not b ≡ false → b ≡ true
not_false true e = refl
not_false false e = impossible cc

pub not_true : (b : Bool) → not b ≡ true → b ≡ false
not_true true e = impossible cc
not_true false e = refl

-- ---- whether a number may stand

module _ (n : ℕ) (z : ℤ) where
  pub may_day : n < day_numbers → true ≡ may_stand n z
  unfolding may_stand
  may_day h = sym (rw (lt-ltb n day_numbers h))

  pub may_not : day_numbers ≤ n → words_most ≤ n → false ≡ may_stand n z
  unfolding may_stand
  may_not h k = sym (rw (le-ltb n day_numbers h, le-ltb n words_most k))

  pub may_by_sign : day_numbers ≤ n → n < words_most → (b : Bool) → lt_z z (pos 0) ≡ b → not b ≡ may_stand n z
  unfolding may_stand
  may_by_sign h k b e = sym (rw (le-ltb n day_numbers h, lt-ltb n words_most k, e))

pub may_have_room : (n : ℕ) (z : ℤ) → may_stand n z ≡ true → n < words_most
unfolding may_stand
may_have_room n z f = go (ltb n day_numbers) refl (ltb n words_most) refl (not (lt_z z (pos 0))) f
  where
    go : (x : Bool) → ltb n day_numbers ≡ x → (y : Bool) → ltb n words_most ≡ y → (v : Bool) → (x || (y && v)) ≡ true
        → n < words_most
    go true i y j v e = let h : n < day_numbers = ltb-true n day_numbers i in omega arith
    go false i true j v e = ltb-true n words_most j
    go false i false j v e = impossible cc

module _ (xs : List ℤ) (a : Taken) (long : length xs ≡ words_most) (most : a.count ≤ words_most) where
  abbrev n : ℕ
  n = a.count

  front : length (take n xs) ≡ n
  front = length-take-le n xs (omega arith)

  -- a word behind one that is in no call
  pub takes_behind : (w : Item) → a.ok ≡ false → TakesWord xs a w xs a
  unfolding reading_of asked_on
  takes_behind w e = record { are = rw e; long = long; most = most }

  module _ (w : Item) (well : a.ok ≡ true) where
    -- nothing that a night may be asked by
    pub takes_spoilt : (r : Taken) → r ≡ record { ok = false; count = n; pairs = a.pairs }
        → asking (take n xs) a.pairs w ≡ spoilt → TakesWord xs a w xs r
    unfolding reading_of asked_on
    takes_spoilt r e f =
        let g : asked_on (reading_of a xs) (λ zs p. asking zs p w) ≡ spoilt = rw well f in
        let h : reading_of r xs ≡ spoilt = rw e in
        let k : r.count ≡ n = rw e in
        record { are = h ∙ sym g; long = long; most = omega arith }

    pub takes_neither : (r : Taken) → r ≡ record { ok = false; count = n; pairs = a.pairs } → w ≡ item.Neither
        → TakesWord xs a w xs r
    unfolding asking
    takes_neither r e f = takes_spoilt r e (rw f)

    module _ (z : ℤ) (is : w ≡ item.One z) where
      pub takes_no_place : (r : Taken) → r ≡ record { ok = false; count = n; pairs = a.pairs } → may_stand n z ≡ false
          → TakesWord xs a w xs r
      unfolding asking
      takes_no_place r e f = takes_spoilt r e (rw (is, front, f))

      pub takes_one : (xs' : List ℤ) → xs' ≡ set xs n z → may_stand n z ≡ true
          → TakesWord xs a w xs' (record { ok = true; count = n + 1; pairs = a.pairs })
      unfolding reading_of asked_on asking
      takes_one xs' e f =
          let h : n < words_most = may_have_room n z f in
          let g : n + 1 ≡ suc n = omega arith in
          record {
            are = rw (well, is, front, f, e, g, take-suc-set xs n z (omega arith));
            long = ap length e ∙ length-set xs n z ∙ long;
            most = omega arith;
          }

    module _ (ym yn : ℤ) (is : w ≡ item.Two ym yn) where
      pub takes_unfit : (r : Taken) → r ≡ record { ok = false; count = n; pairs = a.pairs }
          → pair_fits evaluate_kind (n + 1) ≡ false → TakesWord xs a w xs r
      unfolding asking
      takes_unfit r e f =
          let g : n + 1 ≡ suc n = omega arith in
          takes_spoilt r e (rw (is, front, rw g at f))

      pub takes_two : (xs₁ xs' : List ℤ) (p : Pairs) → xs₁ ≡ set xs n ym → xs' ≡ set xs₁ (n + 1) yn → n + 1 < words_most
          → pair_fits evaluate_kind (n + 1) ≡ true → p ≡ with_pair evaluate_kind (n + 1) a.pairs
          → TakesWord xs a w xs' (record { ok = true; count = n + 2; pairs = p })
      unfolding reading_of asked_on asking
      takes_two xs₁ xs' p e₁ e h f q =
          let g : n + 1 ≡ suc n = omega arith in
          let g₂ : n + 2 ≡ suc (suc n) = omega arith in
          let l₁ : length xs₁ ≡ words_most = ap length e₁ ∙ length-set xs n ym ∙ long in
          let t₁ : take (suc n) xs₁ ≡ take n xs ++ ym ∷ [] = ap (take (suc n)) e₁ ∙ take-suc-set xs n ym (omega
          arith) in
          let t₂ : take (suc (suc n)) (set xs₁ (suc n) yn) ≡ take (suc n) xs₁ ++ yn ∷ [] =
          take-suc-set xs₁ (suc n) yn (omega arith) in
          let t : take (n + 2) xs' ≡ take n xs ++ ym ∷ yn ∷ [] =
          rw (g₂, e, g, t₂, t₁) (append_assoc (take n xs) (ym ∷ []) (yn ∷ [])) in
          record {
            are = rw (well, is, front, rw g at f, t, q, g);
            long = ap length e ∙ length-set xs₁ (n + 1) yn ∙ l₁;
            most = omega arith;
          }

-- a pair stands where its second number has a place too
pub pair_has_room : (n : ℕ) → pair_fits evaluate_kind (n + 1) ≡ true → n + 1 < words_most
unfolding pair_fits has_terms place_in place_of evaluate_names bond_names code
pair_has_room n f = go (eqb (n + 1) 5) refl (eqb (n + 1) 8) refl (eqb (n + 1) 11) refl f
  where
    go : (x : Bool) → eqb (n + 1) 5 ≡ x → (y : Bool) → eqb (n + 1) 8 ≡ y → (z : Bool) → eqb (n + 1) 11 ≡ z
        → (x || (y || z)) ≡ true → n + 1 < words_most
    go true i y j z k e = let h : n + 1 ≡ 5 = eqb-true (n + 1) 5 i in omega arith
    go false i true j z k e = let h : n + 1 ≡ 8 = eqb-true (n + 1) 8 j in omega arith
    go false i false j true k e = let h : n + 1 ≡ 11 = eqb-true (n + 1) 11 k in omega arith
    go false i false j false k e = impossible cc

-- ---- the words, one after the other

pub record Words (xs : List ℤ) (a : Taken) : Type 0 where
  pub words : List (List ℕ)
  pub are : (rest : List (List ℕ)) → asked_by (words ++ rest) ≡ asked_on (reading_of a xs) (λ zs p. asked_from zs p rest)
  pub long : length xs ≡ words_most
  pub most : a.count ≤ words_most

pub words_none : (xs : List ℤ) → length xs ≡ words_most → Words xs start_taken
unfolding asked_by asked_on reading_of
words_none xs l = record { words = []; are = λ rest. refl; long = l; most = omega arith }

one_word : (x : Reading) (w : List ℕ) (rest : List (List ℕ))
    → asked_on x (λ zs p. asked_from zs p (w ∷ rest))
    ≡ asked_on (asked_on x (λ zs p. asking zs p (item_of w))) (λ zs p. asked_from zs p rest)
unfolding asked_on asked_from
one_word (read zs p) w rest = refl
one_word spoilt w rest = refl

pub words_more : (xs : List ℤ) (a : Taken) (w : List ℕ) (i : Item) (xs' : List ℤ) (r : Taken) → Words xs a
    → i ≡ item_of w → TakesWord xs a i xs' r → Words xs' r
words_more xs a w i xs' r s e t =
    record {
      words = s.words ++ w ∷ [];
      are = λ rest. on rest;
      long = t.long;
      most = t.most;
    }
  where
    on : (rest : List (List ℕ))
        → asked_by ((s.words ++ w ∷ []) ++ rest) ≡ asked_on (reading_of r xs') (λ zs p. asked_from zs p rest)
    on rest =
        ap asked_by (append_assoc s.words (w ∷ []) rest) ∙ s.are (w ∷ rest) ∙ one_word (reading_of a xs) w rest
        ∙ ap (λ (x : Reading). asked_on x (λ zs p. asked_from zs p rest)) (sym (t.are ∙ rw e))

pub words_all : (xs : List ℤ) (a r : Taken) → Words xs a → r ≡ asked_taken a → Asks xs r
unfolding reading_of asked_on asked_from
words_all xs a r s e = rw e (go (ltb a.count day_numbers) refl a.ok refl)
  where
    l : length (take a.count xs) ≡ a.count
    l = length-take-le a.count xs (omega (arith, s.long, s.most))

    whole : asked_by s.words ≡ asked_on (reading_of a xs) (λ zs p. asked_from zs p [])
    whole = ap asked_by (sym (append-nil s.words)) ∙ s.are []

    go : (x : Bool) → ltb a.count day_numbers ≡ x → (y : Bool) → a.ok ≡ y
        → Asks xs (pick x (record { ok = false; count = a.count; pairs = a.pairs }) a)
    go true i true j =
        let h : a.count < day_numbers = ltb-true a.count day_numbers i in
        let w : asked_by s.words ≡ spoilt = rw (j, l, lt-leb day_numbers a.count h) at whole in
        record { words = s.words; is = sym w; long = s.long; most = s.most; day = λ e. impossible cc }
    go true i false j =
        let w : asked_by s.words ≡ spoilt = rw j at whole in
        record { words = s.words; is = sym w; long = s.long; most = s.most; day = λ e. impossible cc }
    go false i true j =
        let h : day_numbers ≤ a.count = ltb-false a.count day_numbers i in
        let w : asked_by s.words ≡ read (take a.count xs) a.pairs =
        rw (j, l, le-leb day_numbers a.count h) at whole in
        record { words = s.words; is = rw j (sym w); long = s.long; most = s.most; day = λ e. h }
    go false i false j =
        let w : asked_by s.words ≡ spoilt = rw j at whole in
        let h : day_numbers ≤ a.count = ltb-false a.count day_numbers i in
        record { words = s.words; is = rw j (sym w); long = s.long; most = s.most; day = λ e. h }
