-- What is written is read, what is read is written, and THE READING OF A LINE IS UNIQUE.
use mathlib.Core.Path.{◌≡◌, refl, sym, ap, ◌∙◌}
use mathlib.Core.Bool.{Bool, true, false, not, ◌&&◌}
use mathlib.Core.List.{List, [], ◌∷◌, ◌++◌}
use Prim.Native.Nat.{ℕ, suc, ◌≤◌, ◌<◌}
use native.Mathlib.Omega.{arith}
use lib.Dec.{leb, ltb, eqb}
use lib.IntN.{ℤ}
use lib.ListN.{length, take, drop, length-append}
use lib.Seq.{take-append_seam}
use borrow.Author.Tests.{le-leb, leb-true, ne_eqb, eqb-true, lt-ltb, le-ltb, ltb-true}
use Rattle.paper.specs.Lists.{pick}
use Rattle.paper.proofs.Logic.{and_left, and_right}
use Rattle.std.specs.declared.option.Option.{Option}
use Rattle.std.specs.declared.option.Option.TheVariants.{None, Some}
use Rattle.text_protocol.specs.declared.Item.{Item}
use Rattle.text_protocol.specs.declared.Item.TheVariants as item
use Rattle.text_protocol.specs.declared.Pairs.{Pairs}
use Rattle.text_bytes.specs.Bytes.{is_blank, minus_sign, slash, digit_zero, is_not, run, words, same}
use Rattle.text_bytes.specs.Numbers.{number_of, slash_at}
use Rattle.text_protocol.specs.Names.{Form, kind_from, kind_of, forms, takes}
use Rattle.text_protocol.specs.Line.{Nothing, NoCall, Call, one_of, two_of, item_of, no_pairs, pair_fits}
use Rattle.text_protocol.specs.Line.{with_pair, more, finished, fill, heading_sign, is_heading, called, longest}
use Rattle.text_protocol.specs.Line.{meaning}
use Rattle.text_bytes.specs.Spells.{Blanks, no_blank, blank, Digits, no_digit, digit, Spells, plain, minus}
use Rattle.text_protocol.specs.Written.{WordFrom, here, behind, CallWord, Numbers, done, one, two, Says, says}
use Rattle.text_bytes.proofs.Words.{solid, Ends, end, parted, solid_append, words_blanks, words_solid}
use Rattle.text_bytes.proofs.Words.{words_none, high_solid, all_high, letters_are_solid, Split, last, word}
use Rattle.text_bytes.proofs.Words.{SplitOf, split_words, split, word_not_here}
use Rattle.text_bytes.proofs.Spelling.{impossible, spells_reads, spells_solid, spells_some, reads_spells}
use Rattle.text_protocol.proofs.Filling.{fill_none, fill_one, fill_two, fill_no_pair, fill_neither}

-- ---- a number, or a pair with a slash

data NoSlash : List ℕ → Type 0 where
  nil : NoSlash []
  other : {b : ℕ} {t : List ℕ} → is_not slash b ≡ true → NoSlash t → NoSlash (b ∷ t)

digits_no_slash : {t : List ℕ} → Digits t → NoSlash t
unfolding is_not
digits_no_slash no_digit = nil
digits_no_slash (digit {b} h k d) = other (ap not (ne_eqb b slash (λ e. apart b h e))) (digits_no_slash d)
  where
    apart : (b : ℕ) → digit_zero ≤ b → b ≡ slash → ⊥
    apart b h e = omega arith

spells_no_slash : {w : List ℕ} {z : ℤ} → Spells w z → NoSlash w
unfolding is_not
spells_no_slash (plain d h k) = digits_no_slash d
spells_no_slash (minus d h k) = other refl (digits_no_slash d)

slash_none : {t : List ℕ} → NoSlash t → slash_at t ≡ length t
unfolding slash_at run
slash_none nil = refl
slash_none (other e p) = rw (e, slash_none p)

slash_behind : {v : List ℕ} (w : List ℕ) → NoSlash v → slash_at (v ++ slash ∷ w) ≡ length v
unfolding slash_at run is_not
slash_behind w nil = refl
slash_behind w (other e p) = rw (e, slash_behind w p)

item_one : {w : List ℕ} {z : ℤ} → Spells w z → item_of w ≡ item.One z
unfolding item_of one_of
item_one {w} s = rw (slash_none (spells_no_slash s), le-ltb (length w) (length w) (omega arith), spells_reads s)

drop_behind : (v w : List ℕ) → drop (suc (length v)) (v ++ slash ∷ w) ≡ w
drop_behind [] w = refl
drop_behind (b ∷ v) w = drop_behind v w

item_two : {v w : List ℕ} {m n : ℤ} → Spells v m → Spells w n → item_of (v ++ slash ∷ w) ≡ item.Two m n
unfolding item_of two_of
item_two {v} {w} s u =
    let h : length v < length (v ++ slash ∷ w) = rw (length-append v (slash ∷ w)) (omega arith) in
    rw (
      slash_behind w (spells_no_slash s),
      lt-ltb (length v) (length (v ++ slash ∷ w)) h,
      take-append_seam v (slash ∷ w),
      drop_behind v w,
      spells_reads s,
      spells_reads u,
    )

-- ---- a line is read

numbers_ends : {k : ℕ} {ys : List ℤ} {q : Pairs} {t : List ℕ} {zs : List ℤ} {p : Pairs} → Numbers k ys q t zs p → Ends t
numbers_ends (done no_blank) = end
numbers_ends (done (blank h b)) = parted h
numbers_ends (one h b s n) = parted h
numbers_ends (two h b s u f n) = parted h

numbers_fill : {k : ℕ} {ys : List ℤ} {q : Pairs} {t : List ℕ} {zs : List ℤ} {p : Pairs} → Numbers k ys q t zs p
    → fill k ys q (words t) ≡ finished k zs p
numbers_fill {k} {ys} {q} (done b) = ap (fill k ys q) (words_none b) ∙ fill_none k ys q
numbers_fill {k} {ys} {q} (one {b = b} {t} {w} {rest} h bs s n) =
    ap (fill k ys q)
    (words_blanks {t = b ∷ t} (w ++ rest) (blank h bs)
    ∙ words_solid w (spells_solid s) (spells_some s) (numbers_ends n))
    ∙ fill_one k ys q w (words rest) (item_one s)
    ∙ numbers_fill n
numbers_fill {k} {ys} {q} (two {b = b} {t} {v} {w} {rest} h bs s u f n) =
    let some : 0 < length (v ++ slash ∷ w) = rw (length-append v (slash ∷ w)) (omega arith) in
    ap (fill k ys q)
    (words_blanks {t = b ∷ t} ((v ++ slash ∷ w) ++ rest) (blank h bs)
    ∙ words_solid (v ++ slash ∷ w)
    (solid_append (spells_solid s) (solid (high_solid slash (omega arith)) (spells_solid u)))
    some (numbers_ends n))
    ∙ fill_two k ys q (v ++ slash ∷ w) (words rest) (item_two s u) f
    ∙ numbers_fill n

-- the word of a row is letters, not empty, and found at the row's place k
is_found : (k : ℕ) → Form → Bool
unfolding kind_of kind_from forms same all_high
is_found k f = all_high f.word && (ltb 0 (length f.word) && eqb (kind_of f.word) k)

-- each row of a table, the first of which has the place k
all_found : (k : ℕ) → List Form → Bool
all_found k [] = true
all_found k (f ∷ fs) = is_found k f && all_found (suc k) fs

every_word_is_found : all_found 1 forms ≡ true
unfolding is_found all_found
every_word_is_found = refl

record Found (w : List ℕ) (k : ℕ) : Type 0 where
  letters : all_high w ≡ true
  some : 0 < length w
  at : kind_of w ≡ k

found_word : {n : ℕ} (fs : List Form) {w : List ℕ} {k : ℕ} → all_found n fs ≡ true → WordFrom n fs w k → Found w k
unfolding is_found all_found
found_word {n} (f ∷ fs) e here =
    let row = and_left (is_found n f) (all_found (suc n) fs) e in
    let rest = and_right (all_high f.word) (ltb 0 (length f.word) && eqb (kind_of f.word) n) row in
    record {
      letters = and_left (all_high f.word) (ltb 0 (length f.word) && eqb (kind_of f.word) n) row;
      some = ltb-true 0 (length f.word) (and_left (ltb 0 (length f.word)) (eqb (kind_of f.word) n) rest);
      at = eqb-true (kind_of f.word) n (and_right (ltb 0 (length f.word)) (eqb (kind_of f.word) n) rest);
    }
found_word {n} (f ∷ fs) e (behind x) = found_word fs (and_right (is_found n f) (all_found (suc n) fs) e) x
found_word {n = n} [] {w = w} {k = k} e x'' = elim x'' [ ]

call_found : {w : List ℕ} {k : ℕ} → CallWord w k → Found w k
call_found x = found_word forms every_word_is_found x

-- no call is of kind 0
call_some : {n : ℕ} (fs : List Form) {w : List ℕ} {k : ℕ} → WordFrom n fs w k → n ≤ k
call_some (f ∷ fs) here = omega arith
call_some (f ∷ fs) (behind x) = omega (arith, call_some fs x)
call_some {n = n} [] {w = w} {k = k} x' = elim x' [ ]

-- a word of letters is no heading's
letters_are_no_heading : (w : List ℕ) → all_high w ≡ true → is_heading w ≡ false
unfolding is_heading all_high
letters_are_no_heading [] e = refl
letters_are_no_heading (b ∷ t) e =
    let h : minus_sign ≤ b = leb-true minus_sign b (and_left (leb minus_sign b) (all_high t) e) in
    ne_eqb b heading_sign (λ i. low b h i)
  where
    low : (b : ℕ) → minus_sign ≤ b → b ≡ heading_sign → ⊥
    low b h i = omega arith

word_called : {w : List ℕ} {k : ℕ} (ws : List (List ℕ)) → CallWord w k → called (w ∷ ws) ≡ fill k [] no_pairs ws
unfolding called
word_called {w} {k} ws x =
    rw (
      letters_are_no_heading w (call_found x).letters,
      (call_found x).at,
      ne_eqb k 0 (λ e. omega (arith, call_some forms x)),
    )

finished_right : (k : ℕ) (zs : List ℤ) (p : Pairs) → takes k (length zs) ≡ true → finished k zs p ≡ Call k zs p
unfolding finished
finished_right k zs p h = rw h

-- a line that is not too long means what its words do
pub short_line_is_called : (l : List ℕ) → length l ≤ longest → meaning l ≡ called (words l)
unfolding meaning
short_line_is_called l h = rw (le-leb (length l) longest h)

-- WHAT IS WRITTEN IS READ
pub says_reads : {l : List ℕ} {k : ℕ} {zs : List ℤ} {p : Pairs} → Says l k zs p → meaning l ≡ Call k zs p
says_reads (says {t} {w} {rest} {k} {zs} {p} bs x n h o) =
    short_line_is_called (t ++ (w ++ rest)) o
    ∙ ap called (words_blanks (w ++ rest) bs
    ∙ words_solid w (letters_are_solid w (call_found x).letters) (call_found x).some (numbers_ends n))
    ∙ word_called (words rest) x
    ∙ numbers_fill n
    ∙ finished_right k zs p h

-- THE READING OF A LINE IS UNIQUE
pub reading_unique : {l : List ℕ} {j k : ℕ} {ys zs : List ℤ} {p q : Pairs} → Says l j ys p → Says l k zs q
    → (j ≡ k) × (ys ≡ zs) × (p ≡ q)
reading_unique {l} {j} {k} {ys} {zs} {p} {q} a b =
    let c : meaning l ≡ Call j ys p = says_reads a in
    let d : meaning l ≡ Call k zs q = says_reads b in
    (cc, cc, cc)

-- ---- what is read is written: a word behind the call's

one_of_back : (x : Option ℤ) (z : ℤ) → one_of x ≡ item.One z → x ≡ Some z
unfolding one_of
one_of_back (Some y) z e = cc
one_of_back None z e = impossible cc

one_not_two : {A : Type 0} (x : Option ℤ) (m n : ℤ) → one_of x ≡ item.Two m n → A
unfolding one_of
one_not_two (Some y) m n e = impossible cc
one_not_two None m n e = impossible cc

two_not_one : {A : Type 0} (x y : Option ℤ) (z : ℤ) → two_of x y ≡ item.One z → A
unfolding two_of
two_not_one (Some a) (Some b) z e = impossible cc
two_not_one (Some a) None z e = impossible cc
two_not_one None y z e = impossible cc

two_of_back : (x y : Option ℤ) (m n : ℤ) → two_of x y ≡ item.Two m n → (x ≡ Some m) × (y ≡ Some n)
unfolding two_of
two_of_back (Some a) (Some b) m n e = (cc, cc)
two_of_back (Some a) None m n e = impossible cc
two_of_back None y m n e = impossible cc

item_one_back : (w : List ℕ) (z : ℤ) → item_of w ≡ item.One z → Spells w z
unfolding item_of
item_one_back w z e = go (ltb (slash_at w) (length w)) e
  where
    go : (x : Bool)
        → pick x (two_of (number_of (take (slash_at w) w)) (number_of (drop (suc (slash_at w)) w))) (one_of (number_of w))
        ≡ item.One z
        → Spells w z
    go true f = two_not_one (number_of (take (slash_at w) w)) (number_of (drop (suc (slash_at w)) w)) z f
    go false f = reads_spells w z (one_of_back (number_of w) z f)

slash_split : (w : List ℕ) → slash_at w < length w → take (slash_at w) w ++ slash ∷ drop (suc (slash_at w)) w ≡ w
unfolding slash_at run is_not
slash_split [] h = let z : ⊥ = omega arith in absurd z
slash_split (b ∷ t) h = go (eqb b slash) refl h (λ k. slash_split t k)
  where
    go : (x : Bool) → eqb b slash ≡ x → pick (not x) (suc (slash_at t)) 0 < suc (length t)
        → (slash_at t < length t → take (slash_at t) t ++ slash ∷ drop (suc (slash_at t)) t ≡ t)
        → take (pick (not x) (suc (slash_at t)) 0) (b ∷ t)
        ++ slash ∷ drop (suc (pick (not x) (suc (slash_at t)) 0)) (b ∷ t) ≡ b ∷ t
    go true e k f = let i : b ≡ slash = eqb-true b slash e in rw i
    go false e k f = ap (λ (u : List ℕ). b ∷ u) (f (omega arith))

record PairBack (w : List ℕ) (m n : ℤ) : Type 0 where
  before : List ℕ
  behind : List ℕ
  is : before ++ slash ∷ behind ≡ w
  first : Spells before m
  second : Spells behind n

item_two_back : (w : List ℕ) (m n : ℤ) → item_of w ≡ item.Two m n → PairBack w m n
unfolding item_of
item_two_back w m n e = go (ltb (slash_at w) (length w)) refl e
  where
    go : (x : Bool) → ltb (slash_at w) (length w) ≡ x
        → pick x (two_of (number_of (take (slash_at w) w)) (number_of (drop (suc (slash_at w)) w))) (one_of (number_of w))
        ≡ item.Two m n → PairBack w m n
    go true h f =
        let v : List ℕ = take (slash_at w) w in
        let u : List ℕ = drop (suc (slash_at w)) w in
        let r : (number_of v ≡ Some m) × (number_of u ≡ Some n) = two_of_back (number_of v) (number_of u) m n f in
        record {
          before = v;
          behind = u;
          is = slash_split w (ltb-true (slash_at w) (length w) h);
          first = reads_spells v m r.0;
          second = reads_spells u n r.1;
        }
    go false h f = one_not_two (number_of w) m n f

-- ---- what is read is written: a line

record FillBack (k : ℕ) (ys : List ℤ) (q : Pairs) (l : List ℕ) (j : ℕ) (zs : List ℤ) (p : Pairs) : Type 0 where
  kind : k ≡ j
  numbers : Numbers k ys q l zs p
  count : takes k (length zs) ≡ true

finished_back : (k : ℕ) (ys : List ℤ) (q : Pairs) {t : List ℕ} (j : ℕ) (zs : List ℤ) (p : Pairs) → Blanks t
    → finished k ys q ≡ Call j zs p → FillBack k ys q t j zs p
unfolding finished
finished_back k ys q {t} j zs p b e = go (takes k (length ys)) refl e
  where
    go : (x : Bool) → takes k (length ys) ≡ x → pick x (Call k ys q) NoCall ≡ Call j zs p → FillBack k ys q t j zs p
    go false h f = impossible cc
    go true h f =
        let i : k ≡ j = cc in
        let y : ys ≡ zs = cc in
        let r : q ≡ p = cc in
        record { kind = i; numbers = rw (← y, ← r) (done b); count = rw (← y) h }

item_back : (k : ℕ) (ys : List ℤ) (q : Pairs) {b : ℕ} {t : List ℕ} (w rest : List ℕ) (ws : List (List ℕ)) (j : ℕ)
    → (zs : List ℤ) (p : Pairs) → is_blank b ≡ true → Blanks t
    → ((ys : List ℤ) (q : Pairs) → fill k ys q ws ≡ Call j zs p → FillBack k ys q rest j zs p)
    → fill k ys q (w ∷ ws) ≡ Call j zs p → FillBack k ys q (b ∷ (t ++ (w ++ rest))) j zs p
item_back k ys q {b} {t} w rest ws j zs p g bs on e = go (item_of w) refl
  where
    pair : (m n : ℤ) → item_of w ≡ item.Two m n → (x : Bool) → pair_fits k (length ys) ≡ x
        → FillBack k ys q (b ∷ (t ++ (w ++ rest))) j zs p
    pair m n i false f =
        let z : NoCall ≡ Call j zs p = sym (fill_no_pair k ys q w ws i f) ∙ e in
        impossible cc
    pair m n i true f =
        let r : FillBack k (more (more ys m) n) (with_pair k (length ys) q) rest j zs p =
        on (more (more ys m) n) (with_pair k (length ys) q) (sym (fill_two k ys q w ws i f) ∙ e) in
        let d : PairBack w m n = item_two_back w m n i in
        record {
          kind = r.kind;
          numbers = rw (← d.is) (two g bs d.first d.second f r.numbers);
          count = r.count;
        }

    go : (x : Item) → item_of w ≡ x → FillBack k ys q (b ∷ (t ++ (w ++ rest))) j zs p
    go item.Neither i =
        let z : NoCall ≡ Call j zs p = sym (fill_neither k ys q w ws i) ∙ e in
        impossible cc
    go (item.One z) i =
        let r : FillBack k (more ys z) q rest j zs p =
        on (more ys z) q (sym (fill_one k ys q w ws i) ∙ e) in
        record { kind = r.kind; numbers = one g bs (item_one_back w z i) r.numbers; count = r.count }
    go (item.Two m n) i = pair m n i (pair_fits k (length ys)) refl

fill_back : (k : ℕ) (ys : List ℤ) (q : Pairs) {l : List ℕ} {ws : List (List ℕ)} (j : ℕ) (zs : List ℤ) (p : Pairs)
    → Ends l
    → Split l ws → fill k ys q ws ≡ Call j zs p → FillBack k ys q l j zs p
fill_back k ys q j zs p o (last b) e = finished_back k ys q j zs p b (sym (fill_none k ys q) ∙ e)
fill_back k ys q j zs p o (word {w = w} {rest} no_blank s h en r) e = word_not_here rest s h o
fill_back k ys q j zs p o (word {w = w} {rest} {ws} (blank g bs) s h en r) e =
    item_back k ys q w rest ws j zs p g bs (λ ys q f. fill_back k ys q j zs p en r f) e

-- two words that are the same, byte by byte
same_is : (w v : List ℕ) → same w v ≡ true → w ≡ v
unfolding same
same_is [] [] e = refl
same_is [] (c ∷ v) e = impossible cc
same_is (b ∷ w) [] e = impossible cc
same_is (b ∷ w) (c ∷ v) e = go (eqb b c) refl e (λ f. same_is w v f)
  where
    go : (x : Bool) → eqb b c ≡ x → pick x (same w v) false ≡ true → (same w v ≡ true → w ≡ v)
        → ◌≡◌ {A = List ℕ} (b ∷ w) (c ∷ v)
    go true h f k =
        let i : b ≡ c = eqb-true b c h in
        let j : w ≡ v = k f in
        cc
    go false h f k = impossible cc

-- a word that has a kind is a call's
word_back : (k : ℕ) (fs : List Form) (w : List ℕ) → eqb (kind_from k fs w) 0 ≡ false → WordFrom k fs w (kind_from k fs w)
unfolding kind_from
word_back k [] w e = impossible cc
word_back k (f ∷ fs) w e = go (same w f.word) refl (λ h. word_back (suc k) fs w h) e
  where
    go : (x : Bool) → same w f.word ≡ x
        → (eqb (kind_from (suc k) fs w) 0 ≡ false → WordFrom (suc k) fs w (kind_from (suc k) fs w))
        → eqb (pick x k (kind_from (suc k) fs w)) 0 ≡ false
        → WordFrom k (f ∷ fs) w (pick x k (kind_from (suc k) fs w))
    go true h on e = rw (same_is w f.word h) here
    go false h on e = behind (on e)

call_back : (w : List ℕ) → eqb (kind_of w) 0 ≡ false → CallWord w (kind_of w)
unfolding kind_of
call_back w e = word_back 1 forms w e

line_back : {l : List ℕ} {ws : List (List ℕ)} (k : ℕ) (zs : List ℤ) (p : Pairs) → Split l ws → length l ≤ longest
    → called ws ≡ Call k zs p → Says l k zs p
unfolding called
line_back k zs p (last b) o e = impossible cc
line_back k zs p (word {t} {w} {rest} {ws} bs s h en r) o e = go (is_heading w) (eqb (kind_of w) 0) refl e
  where
    go : (x y : Bool) → eqb (kind_of w) 0 ≡ y
        → pick x Nothing (pick y NoCall (fill (kind_of w) [] no_pairs ws)) ≡ Call k zs p
        → Says (t ++ (w ++ rest)) k zs p
    go true y i f = impossible cc
    go false true i f = impossible cc
    go false false i f =
        let b : FillBack (kind_of w) [] no_pairs rest k zs p = fill_back (kind_of w) [] no_pairs k zs p en r f in
        rw b.kind at (says bs (call_back w i) b.numbers b.count o)

-- WHAT IS READ IS WRITTEN: a line that means a call is one that says it
pub reads_says : (l : List ℕ) (k : ℕ) (zs : List ℤ) (p : Pairs) → meaning l ≡ Call k zs p → Says l k zs p
unfolding meaning
reads_says l k zs p e = go (leb (length l) longest) refl e
  where
    go : (x : Bool) → leb (length l) longest ≡ x → pick x (called (words l)) NoCall ≡ Call k zs p → Says l k zs p
    go false h f = impossible cc
    go true h f =
        let s : SplitOf l = split l in
        line_back k zs p s.is (leb-true (length l) longest h) (rw (split_words s.is) at f)
