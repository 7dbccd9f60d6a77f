-- A line that is written is read, what is read is written, and THE READING OF A LINE IS UNIQUE.
use mathlib.Core.Path.{◌≡◌, refl, sym, ap, ◌∙◌}
use mathlib.Core.Bool.{Bool, true, false, ◌&&◌}
use mathlib.Core.List.{List, [], ◌∷◌, ◌++◌, append_assoc}
use Prim.Native.Nat.{ℕ, ◌≤◌}
use native.Mathlib.Omega.{arith}
use lib.Dec.{leb, eqb}
use lib.IntN.{ℤ, pos, negsuc, nat_abs}
use lib.ListN.{length, drop}
use borrow.Author.Tests.{leb-true, eqb-true, ne_eqb}
use Rattle.paper.specs.Lists.{pick}
use Rattle.paper.specs.Numbers.{id_most, row_numbers, repo_least, repo_most, row_term_most, central_most, price_most}
use Rattle.paper.specs.Numbers.{volume_most}
use Rattle.paper.specs.Ranges.{within, within_z, LentRow, row_at, valid_row}
use Rattle.paper.proofs.Logic.{not_true_and_false, and_left, and_right, and_both}
use Rattle.text_bytes.specs.Bytes.{line_feed, carriage_return, minus_sign, digit_nine, is_line_feed, pieces}
use Rattle.text_bytes.specs.Numbers.{is_digit}
use Rattle.text_bytes.proofs.Spelling.{impossible}
use Rattle.text_bytes.specs.Split.{Free, free_none, free}
use Rattle.text_bytes.proofs.Pieces.{free_append, pieces_none, pieces_more, Parted, all, more, parted, pieces_some}
use Rattle.exchange_protocol.specs.declared.Column.{Column}
use Rattle.exchange_protocol.specs.Exchange.{point, semicolon, is_semicolon, Field, missing, plain}
use Rattle.exchange_protocol.specs.Exchange.{negative}
use Rattle.exchange_protocol.specs.Exchange.{columns, whole_number, Fields, no_field, field, Line, Ended, by_lf}
use Rattle.exchange_protocol.specs.Exchange.{by_cr_lf}
use Rattle.exchange_protocol.specs.Scan.{Front, front, none, then, starts, NumberEnds, number_most, cell, Passed}
use Rattle.exchange_protocol.specs.Scan.{passed}
use Rattle.exchange_protocol.specs.Scan.{pass, line_end, field_end, cells, in_range, line, WrittenField, WrittenLine}
use Rattle.exchange_protocol.proofs.Decimals.{starts_back}
use Rattle.exchange_protocol.proofs.Cells.{field_free, field_reads, field_back}

-- ---- what ends a field and a line

-- what ends a line, and what stands behind it
pub data Ending : List ℕ → List ℕ → Type 0 where
  lf : {rest : List ℕ} → Ending (line_feed ∷ rest) rest
  cr_lf : {rest : List ℕ} → Ending (carriage_return ∷ line_feed ∷ rest) rest

stops : (b : ℕ) (rest : List ℕ) → is_digit b ≡ false → eqb b point ≡ false → eqb b minus_sign ≡ false
    → NumberEnds (b ∷ rest)
unfolding starts
stops b rest d p m = record { digit = d; point = p; minus = m }

ending_stops : {e rest : List ℕ} → Ending e rest → NumberEnds e
unfolding is_digit
ending_stops (lf {rest}) = stops line_feed rest refl refl refl
ending_stops (cr_lf {rest}) = stops carriage_return (line_feed ∷ rest) refl refl refl

ending_reads : {e rest : List ℕ} → Ending e rest → line_end e ≡ front passed rest
unfolding line_end pass starts
ending_reads lf = refl
ending_reads cr_lf = refl

pass_back : (b : ℕ) (u rest : List ℕ) → pass b u ≡ front passed rest → u ≡ b ∷ rest
unfolding pass
pass_back b u rest e = go (starts (λ x. eqb x b) u) refl e
  where
    go : (x : Bool) → starts (λ x. eqb x b) u ≡ x → pick x (front passed (drop 1 u)) none ≡ front passed rest
        → u ≡ b ∷ rest
    go true h f = let i : drop 1 u ≡ rest = cc in starts_back b u h ∙ ap (λ (t : List ℕ). b ∷ t) i
    go false h f = impossible cc

ending_back : (u rest : List ℕ) → line_end u ≡ front passed rest → Ending u rest
unfolding line_end
ending_back u rest e = go (starts (λ x. eqb x carriage_return) u) refl e
  where
    go : (x : Bool) → starts (λ x. eqb x carriage_return) u ≡ x
        → pick x (pass line_feed (drop 1 u)) (pass line_feed u) ≡ front passed rest → Ending u rest
    go true h f = rw (starts_back carriage_return u h, pass_back line_feed (drop 1 u) rest f) cr_lf
    go false h f = rw (pass_back line_feed u rest f) lf

-- ---- the pieces between semicolons

semicolon_only : (b : ℕ) → is_semicolon b ≡ true → b ≡ semicolon
unfolding is_semicolon
semicolon_only b e = eqb-true b semicolon e

-- a piece and others behind it
record First (l p : List ℕ) (ps : List (List ℕ)) : Type 0 where
  behind : List ℕ
  is : l ≡ p ++ semicolon ∷ behind
  others : pieces is_semicolon behind ≡ ps

first_piece : (l p q : List ℕ) (ps : List (List ℕ)) → pieces is_semicolon l ≡ p ∷ q ∷ ps → First l p (q ∷ ps)
first_piece l p q ps e = go l (parted is_semicolon l) e
  where
    go : (l : List ℕ) → Parted is_semicolon l → pieces is_semicolon l ≡ p ∷ q ∷ ps → First l p (q ∷ ps)
    go l (all f) e = let z : l ∷ [] ≡ p ∷ q ∷ ps = sym (pieces_none is_semicolon f) ∙ e in impossible cc
    go _ (more {p = p'} {b} t f h) e =
        let z : p' ∷ pieces is_semicolon t ≡ p ∷ q ∷ ps = sym (pieces_more is_semicolon t f h) ∙ e in
        let i : p' ≡ p = cc in
        let j : pieces is_semicolon t ≡ q ∷ ps = cc in
        record { behind = t; is = rw (i, semicolon_only b h); others = j }

last_piece : (l p : List ℕ) → pieces is_semicolon l ≡ p ∷ [] → l ≡ p
last_piece l p e = go l (parted is_semicolon l) e
  where
    go : (l : List ℕ) → Parted is_semicolon l → pieces is_semicolon l ≡ p ∷ [] → l ≡ p
    go l (all f) e = let z : l ∷ [] ≡ p ∷ [] = sym (pieces_none is_semicolon f) ∙ e in cc
    go _ (more {p = p'} t f h) e =
        let z : p' ∷ pieces is_semicolon t ≡ p ∷ [] = sym (pieces_more is_semicolon t f h) ∙ e in
        let y : pieces is_semicolon t ≡ [] = cc in
        pieces_some is_semicolon t y

-- ---- fields that are written are read

pub data Small : List ℤ → Type 0 where
  none_small : Small []
  small : {z : ℤ} {zs : List ℤ} → nat_abs z ≤ number_most → Small zs → Small (z ∷ zs)

semicolon_stops : (rest : List ℕ) → NumberEnds (semicolon ∷ rest)
unfolding is_digit
semicolon_stops rest = stops semicolon rest refl refl refl

cells_last : (c : Column) (acc : List ℤ) {p : List ℕ} {z : ℤ} {e rest : List ℕ} → Field c p z → nat_abs z ≤ number_most
    → Ending e rest → cells (c ∷ []) acc (p ++ e) ≡ front (acc ++ z ∷ []) rest
unfolding cells field_end
cells_last c acc {p} {z} {e} f o g = rw (field_reads c e f o (ending_stops g), ending_reads g)

cells_more : (c d : Column) (cs : List Column) (acc : List ℤ) {p : List ℕ} {z : ℤ} (t : List ℕ) → Field c p z
    → nat_abs z ≤ number_most → cells (c ∷ d ∷ cs) acc (p ++ semicolon ∷ t) ≡ cells (d ∷ cs) (acc ++ z ∷ []) t
unfolding cells field_end pass starts
cells_more c d cs acc t f o = rw (field_reads c (semicolon ∷ t) f o (semicolon_stops t))

cells_reads : {c : Column} {cs : List Column} (acc : List ℤ) (l : List ℕ) {p : List ℕ} {ps : List (List ℕ)}
    → {zs : List ℤ} {e rest : List ℕ} → Fields (c ∷ cs) (p ∷ ps) zs → pieces is_semicolon l ≡ p ∷ ps → Small zs
    → Ending e rest
    → cells (c ∷ cs) acc (l ++ e) ≡ front (acc ++ zs) rest
cells_reads {c} acc l {p} {e = e} (field f no_field) i (small o s) g =
    ap (λ (x : List ℕ). cells (c ∷ []) acc (x ++ e)) (last_piece l p i) ∙ cells_last c acc f o g
cells_reads {c} acc l {p} {e = e} {rest} (field {z = z} f (field {c = d} {cs} {p = q} {ps} {z = y} {zs} g r)) i
    (small o s) h =
    let a : First l p (q ∷ ps) = first_piece l p q ps i in
    ap (λ (x : List ℕ). cells (c ∷ d ∷ cs) acc (x ++ e)) a.is
    ∙ ap (cells (c ∷ d ∷ cs) acc) (append_assoc p (semicolon ∷ a.behind) e)
    ∙ cells_more c d cs acc (a.behind ++ e) f o
    ∙ cells_reads (acc ++ z ∷ []) a.behind (field g r) a.others s h
    ∙ ap (λ (x : List ℤ). front x rest) (append_assoc acc (z ∷ []) (y ∷ zs))

-- ---- fields that are read are written

pub record Lined (cs : List Column) (acc : List ℤ) (u : List ℕ) (zs : List ℤ) (rest : List ℕ) : Type 0 where
  pub l : List ℕ
  pub e : List ℕ
  pub xs : List ℤ
  pub is : u ≡ l ++ e
  pub ending : Ending e rest
  pub fields : Fields cs (pieces is_semicolon l) xs
  pub numbers : acc ++ xs ≡ zs
  pub unbroken : Free is_line_feed l

number_feed : (b : ℕ) → minus_sign ≤ b → b ≤ digit_nine → is_line_feed b ≡ false
unfolding is_line_feed
number_feed b h k = ne_eqb b line_feed (apart b h)
  where
    apart : (b : ℕ) → minus_sign ≤ b → b ≡ line_feed → ⊥
    apart b h e = omega arith

number_semicolon : (b : ℕ) → minus_sign ≤ b → b ≤ digit_nine → is_semicolon b ≡ false
unfolding is_semicolon
number_semicolon b h k = ne_eqb b semicolon (apart b k)
  where
    apart : (b : ℕ) → b ≤ digit_nine → b ≡ semicolon → ⊥
    apart b h e = omega arith

semicolon_feed : is_line_feed semicolon ≡ false
unfolding is_line_feed
semicolon_feed = refl

semicolon_is : is_semicolon semicolon ≡ true
unfolding is_semicolon
semicolon_is = refl

last_lined : (c : Column) (acc : List ℤ) (u : List ℕ) (z : ℤ) (r rest : List ℕ) → WrittenField c u z r → Ending r rest
    → Lined (c ∷ []) acc u (acc ++ z ∷ []) rest
last_lined c acc u z r rest a g =
    record {
      l = a.p;
      e = r;
      xs = z ∷ [];
      is = a.is;
      ending = g;
      fields =
          rw (pieces_none is_semicolon (field_free is_semicolon number_semicolon a.field)) (field a.field no_field);
      numbers = refl;
      unbroken = field_free is_line_feed number_feed a.field;
    }

more_lined : (c : Column) (cs : List Column) (acc : List ℤ) (u : List ℕ) (z : ℤ) (r : List ℕ) (zs : List ℤ)
    → (rest : List ℕ) → WrittenField c u z (semicolon ∷ r) → Lined cs (acc ++ z ∷ []) r zs rest
    → Lined (c ∷ cs) acc u zs rest
more_lined c cs acc u z r zs rest a b =
    record {
      l = a.p ++ semicolon ∷ b.l;
      e = b.e;
      xs = z ∷ b.xs;
      is =
          a.is ∙ ap (λ (x : List ℕ). a.p ++ semicolon ∷ x) b.is
          ∙ sym (append_assoc a.p (semicolon ∷ b.l) b.e);
      ending = b.ending;
      fields =
          rw (pieces_more is_semicolon b.l (field_free is_semicolon number_semicolon a.field) semicolon_is)
          (field a.field b.fields);
      numbers = sym (append_assoc acc (z ∷ []) b.xs) ∙ b.numbers;
      unbroken =
          free_append (field_free is_line_feed number_feed a.field) (free semicolon_feed b.unbroken);
    }

cells_back : (c : Column) (cs : List Column) (acc : List ℤ) (u : List ℕ) (zs : List ℤ) (rest : List ℕ)
    → cells (c ∷ cs) acc u ≡ front zs rest → Lined (c ∷ cs) acc u zs rest
unfolding cells field_end
cells_back c [] acc u zs rest e = go (cell c u) refl e
  where
    ended : (z : ℤ) (r : List ℕ) → WrittenField c u z r → (x : Front Passed) → line_end r ≡ x
        → then x (λ y behind. front (acc ++ z ∷ []) behind) ≡ front zs rest → Lined (c ∷ []) acc u zs rest
    ended z r a none i f = impossible cc
    ended z r a (front passed t) i f =
        let j : acc ++ z ∷ [] ≡ zs = cc in
        let k : t ≡ rest = cc in
        rw (← j, ← k) (last_lined c acc u z r t a (ending_back r t i))

    go : (x : Front ℤ) → cell c u ≡ x
        → then x (λ z rest. then (line_end rest) (λ y behind. front (acc ++ z ∷ []) behind)) ≡ front zs rest
        → Lined (c ∷ []) acc u zs rest
    go none i f = impossible cc
    go (front z r) i f = ended z r (field_back c u z r i) (line_end r) refl f
cells_back c (d ∷ cs) acc u zs rest e =
    go (cell c u) refl e (λ z t f. cells_back d cs (acc ++ z ∷ []) t zs rest f)
  where
    ended : (z : ℤ) (r : List ℕ) → WrittenField c u z r → (x : Front Passed) → pass semicolon r ≡ x
        → then x (λ y behind. cells (d ∷ cs) (acc ++ z ∷ []) behind) ≡ front zs rest
        → ((z : ℤ) (t : List ℕ) → cells (d ∷ cs) (acc ++ z ∷ []) t ≡ front zs rest
        → Lined (d ∷ cs) (acc ++ z ∷ []) t zs rest)
        → Lined (c ∷ d ∷ cs) acc u zs rest
    ended z r a none i f back = impossible cc
    ended z r a (front passed t) i f back =
        more_lined c (d ∷ cs) acc u z t zs rest (rw (pass_back semicolon r t i) at a) (back z t f)

    go : (x : Front ℤ) → cell c u ≡ x
        → then x (λ z rest. then (pass semicolon rest) (λ y behind. cells (d ∷ cs) (acc ++ z ∷ []) behind))
        ≡ front zs rest
        → ((z : ℤ) (t : List ℕ) → cells (d ∷ cs) (acc ++ z ∷ []) t ≡ front zs rest
        → Lined (d ∷ cs) (acc ++ z ∷ []) t zs rest)
        → Lined (c ∷ d ∷ cs) acc u zs rest
    go none i f back = impossible cc
    go (front z r) i f back = ended z r (field_back c u z r i) (pass semicolon r) refl f back

-- ---- document 01's ranges hold no number that is not read

within_small : (low most : ℕ) (z : ℤ) → within_z (pos low) (pos most) z ≡ true → nat_abs z ≤ most
within_small low most (pos n) e = leb-true n most (and_right (leb low n) (leb n most) e)
within_small low most (negsuc n) e = absurd (not_true_and_false false e refl)

repo_small : (z : ℤ) → within_z repo_least repo_most z ≡ true → nat_abs z ≤ 9999
repo_small (pos n) e = leb-true n 9999 e
repo_small (negsuc n) e = let h : n ≤ 9998 = leb-true n 9998 (and_left (leb n 9998) true e) in omega arith

up : (low most : ℕ) (z : ℤ) → most ≤ number_most → within_z (pos low) (pos most) z ≡ true → nat_abs z ≤ number_most
up low most z h e = omega (arith, within_small low most z e)

valid_small : (w : LentRow) → valid_row w ≡ true
    → Small (w.t ∷ w.central ∷ w.repo ∷ w.close ∷ w.bid ∷ w.ask ∷ w.volume ∷ [])
unfolding valid_row
valid_small w e =
    let t : nat_abs w.t ≤ number_most =
    up 0 row_term_most w.t (omega arith) (search (e, and_left, and_right) depth 40) in
    let central : nat_abs w.central ≤ number_most =
    up 1 central_most w.central (omega arith) (search (e, and_left, and_right) depth 40) in
    let repo : nat_abs w.repo ≤ number_most =
    omega (arith, repo_small w.repo (search (e, and_left, and_right) depth 40)) in
    let close : nat_abs w.close ≤ number_most =
    up 0 price_most w.close (omega arith) (search (e, and_left, and_right) depth 40) in
    let bid : nat_abs w.bid ≤ number_most =
    up 0 price_most w.bid (omega arith) (search (e, and_left, and_right) depth 40) in
    let ask : nat_abs w.ask ≤ number_most =
    up 0 price_most w.ask (omega arith) (search (e, and_left, and_right) depth 40) in
    let volume : nat_abs w.volume ≤ number_most =
    up 0 volume_most w.volume (omega arith) (search (e, and_left, and_right) depth 40) in
    small t (small central (small repo (small close (small bid (small ask (small volume none_small))))))

-- ---- a line

-- eight fields are eight numbers, of which the first is the id
pub record Eight (zs : List ℤ) : Type 0 where
  pub id : ℕ
  pub t : ℤ
  pub central : ℤ
  pub repo : ℤ
  pub close : ℤ
  pub bid : ℤ
  pub ask : ℤ
  pub volume : ℤ
  pub are : zs ≡ pos id ∷ t ∷ central ∷ repo ∷ close ∷ bid ∷ ask ∷ volume ∷ []

record Whole (z : ℤ) : Type 0 where
  n : ℕ
  is : z ≡ pos n

whole_pos : {p : List ℕ} {z : ℤ} → Field whole_number p z → Whole z
whole_pos (missing e) = record { n = 0; is = refl }
whole_pos (plain {v = v} d) = record { n = v; is = refl }
whole_pos (negative e d) = absurd (not_true_and_false false e refl)

pub fields_are_eight : {ps : List (List ℕ)} {zs : List ℤ} → Fields columns ps zs → Eight zs
unfolding columns
fields_are_eight (field {z = z₀} f (field {z = z₁} f₁
    (field {z = z₂} f₂ (field {z = z₃} f₃ (field {z = z₄} f₄ (field {z = z₅} f₅
    (field {z = z₆} f₆ (field {z = z₇} f₇ no_field)))))))) =
    let w : Whole z₀ = whole_pos f in
    record {
      id = w.n;
      t = z₁;
      central = z₂;
      repo = z₃;
      close = z₄;
      bid = z₅;
      ask = z₆;
      volume = z₇;
      are = ap (λ (z : ℤ). z ∷ z₁ ∷ z₂ ∷ z₃ ∷ z₄ ∷ z₅ ∷ z₆ ∷ z₇ ∷ []) w.is;
    }

range_small : (zs : List ℤ) → Eight zs → in_range zs ≡ true → Small zs
unfolding in_range row_at
range_small zs s e =
    rw s.are
    (go (rw s.are at e))
  where
    row : LentRow
    row = record {
      t = s.t;
      central = s.central;
      repo = s.repo;
      close = s.close;
      bid = s.bid;
      ask = s.ask;
      volume = s.volume;
    }

    go : (within_z (pos 1) (pos id_most) (pos s.id) && valid_row row) ≡ true
        → Small (pos s.id ∷ s.t ∷ s.central ∷ s.repo ∷ s.close ∷ s.bid ∷ s.ask ∷ s.volume ∷ [])
    go f =
        let o : nat_abs (pos s.id) ≤ number_most =
        up 1 id_most (pos s.id) (omega arith)
        (and_left (within_z (pos 1) (pos id_most) (pos s.id)) (valid_row row) f) in
        small o (valid_small row (and_right (within_z (pos 1) (pos id_most) (pos s.id)) (valid_row row) f))

-- the ranges of a line, and of its row
range_is : (id : ℕ) (row : List ℤ) → in_range (pos id ∷ row) ≡ (within 1 id_most id && valid_row (row_at row 0))
unfolding in_range row_at
range_is id row = refl

columns_read : (l : List ℕ) (ps : List (List ℕ)) {zs : List ℤ} {e rest : List ℕ} → pieces is_semicolon l ≡ ps
    → Fields columns ps zs → Small zs → Ending e rest → cells columns [] (l ++ e) ≡ front zs rest
unfolding columns
columns_read l _ i (field f r) s g = cells_reads [] l (field f r) i s g

-- A LINE THAT IS WRITTEN IS READ
line_reads : {l : List ℕ} {id : ℕ} {row : List ℤ} {e rest : List ℕ} → Line l id row → Ending e rest
    → line (l ++ e) ≡ front (pos id ∷ row) rest
unfolding line
line_reads {l} {id} {row} {e} {rest} a g =
    let r : in_range (pos id ∷ row) ≡ true =
    range_is id row ∙ and_both (within 1 id_most id) (valid_row (row_at row 0)) a.known a.valid in
    let s : Small (pos id ∷ row) = range_small (pos id ∷ row) (fields_are_eight a.fields) r in
    rw (columns_read l (pieces is_semicolon l) refl a.fields s g, r)

pub ended_reads : {p : List ℕ} {id : ℕ} {row : List ℤ} (rest : List ℕ) → Ended p id row
    → line (p ++ line_feed ∷ rest) ≡ front (pos id ∷ row) rest
ended_reads rest (by_lf a) = line_reads a lf
ended_reads rest (by_cr_lf {l} a) =
    ap line (append_assoc l (carriage_return ∷ []) (line_feed ∷ rest)) ∙ line_reads a cr_lf

-- THE READING OF A LINE IS UNIQUE
pub reading_unique : {p : List ℕ} {i j : ℕ} {ys zs : List ℤ} → Ended p i ys → Ended p j zs → (i ≡ j) × (ys ≡ zs)
reading_unique {p} {i} {j} {ys} {zs} a b =
    let e : line (p ++ line_feed ∷ []) ≡ front (pos i ∷ ys) [] = ended_reads [] a in
    let f : line (p ++ line_feed ∷ []) ≡ front (pos j ∷ zs) [] = ended_reads [] b in
    (cc, cc)

line_of : (l : List ℕ) (zs : List ℤ) (s : Eight zs) → Fields columns (pieces is_semicolon l) zs → in_range zs ≡ true
    → Line l s.id (drop 1 zs)
line_of l zs s f r =
    let i : zs ≡ pos s.id ∷ drop 1 zs = s.are ∙ ap (λ (x : List ℤ). pos s.id ∷ drop 1 x) (sym s.are) in
    let e : (within 1 id_most s.id && valid_row (row_at (drop 1 zs) 0)) ≡ true =
    sym (range_is s.id (drop 1 zs)) ∙ ap in_range (sym i) ∙ r in
    record {
      fields = rw i at f;
      known = and_left (within 1 id_most s.id) (valid_row (row_at (drop 1 zs) 0)) e;
      valid = and_right (within 1 id_most s.id) (valid_row (row_at (drop 1 zs) 0)) e;
    }

return_feed : is_line_feed carriage_return ≡ false
unfolding is_line_feed
return_feed = refl

rowed : (u : List ℕ) (l e : List ℕ) (zs : List ℤ) (rest : List ℕ) → u ≡ l ++ e → Ending e rest → Free is_line_feed l
    → (s : Eight zs) → Line l s.id (drop 1 zs) → WrittenLine u zs rest
rowed u l e zs rest is lf f s a =
    record {
      p = l;
      id = s.id;
      row = drop 1 zs;
      is = is;
      unbroken = f;
      ended = by_lf a;
      numbers = s.are ∙ ap (λ (x : List ℤ). pos s.id ∷ drop 1 x) (sym s.are);
    }
rowed u l e zs rest is cr_lf f s a =
    record {
      p = l ++ carriage_return ∷ [];
      id = s.id;
      row = drop 1 zs;
      is = is ∙ sym (append_assoc l (carriage_return ∷ []) (line_feed ∷ rest));
      unbroken = free_append f (free return_feed free_none);
      ended = by_cr_lf a;
      numbers = s.are ∙ ap (λ (x : List ℤ). pos s.id ∷ drop 1 x) (sym s.are);
    }

-- A LINE THAT IS READ IS WRITTEN
pub line_back : (u : List ℕ) (zs : List ℤ) (rest : List ℕ) → line u ≡ front zs rest → WrittenLine u zs rest
unfolding line columns
line_back u zs rest e = go (cells columns [] u) refl e
  where
    judged : (ys : List ℤ) (r : List ℕ) → Lined columns [] u ys r → (x : Bool) → in_range ys ≡ x
        → pick x (front ys r) none ≡ front zs rest → WrittenLine u zs rest
    judged ys r b false h f = impossible cc
    judged ys r b true h f =
        let j : ys ≡ zs = cc in
        let k : r ≡ rest = cc in
        let i : b.xs ≡ zs = b.numbers ∙ j in
        let g : Fields columns (pieces is_semicolon b.l) zs = rw i at b.fields in
        rowed u b.l b.e zs rest b.is (rw k at b.ending) b.unbroken (fields_are_eight g)
        (line_of b.l zs (fields_are_eight g) g (rw j at h))

    go : (x : Front (List ℤ)) → cells columns [] u ≡ x
        → then x (λ zs rest. pick (in_range zs) (front zs rest) none) ≡ front zs rest → WrittenLine u zs rest
    go none i f = impossible cc
    go (front ys r) i f =
        judged ys r
        (cells_back whole_number (drop 1 columns) [] u ys r i) (in_range ys) refl f

-- seven numbers stand behind the id
line_long : {l : List ℕ} {id : ℕ} {row : List ℤ} → Line l id row → length row ≡ row_numbers
line_long a = let e = ap length (fields_are_eight a.fields).are in omega arith

pub row_has_seven : {p : List ℕ} {id : ℕ} {row : List ℤ} → Ended p id row → length row ≡ row_numbers
row_has_seven (by_lf a) = line_long a
row_has_seven (by_cr_lf a) = line_long a
