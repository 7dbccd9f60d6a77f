-- EVERY TEXT SAYS EXACTLY ONE THING OF A SECURITY: `reading` is what it says, and nothing else is.
use mathlib.Core.Path.{◌≡◌, refl, sym, ap, ap₂, ◌∙◌}
use mathlib.Core.Bool.{Bool, true, false}
use mathlib.Core.Logic.{◌⊎◌, inl, inr}
use mathlib.Core.List.{List, [], ◌∷◌, ◌++◌}
use Prim.Native.Nat.{ℕ, suc, ◌-◌, ◌*◌, ◌≤◌, ◌<◌}
use native.Mathlib.Nat.{pos_of_ne-zero}
use native.Mathlib.Omega.{arith}
use lib.Dec.{leb, ltb, eqb}
use lib.IntN.{ℤ, pos}
use lib.ListN.{length, drop, replicate, length-append, length-replicate}
use borrow.Author.Tests.{leb-true, leb-false, ltb-true, ltb-false, eqb-true, eqb-false}
use Rattle.paper.specs.Lists.{pick}
use Rattle.paper.specs.declared.Verdict.TheVariants.{BadLine}
use Rattle.paper.specs.Numbers.{id_most, row_numbers, all_numbers_most}
use Rattle.paper.specs.Ranges.{within, unsigned}
use Rattle.paper.specs.Verdicts.{Exactly}
use Rattle.paper.proofs.Logic.{not_true_and_false, le_or_lt}
use Rattle.text_bytes.specs.Bytes.{line_feed, is_line_feed, pieces}
use Rattle.text_bytes.proofs.Spelling.{impossible}
use Rattle.text_bytes.specs.Split.{Free, AllFree, piece}
use Rattle.text_bytes.proofs.Pieces.{pieces_more, pieces_free, pieces_some}
use Rattle.exchange_protocol.specs.declared.Reading.{Reading}
use Rattle.exchange_protocol.specs.Exchange.{Ended, by_lf, by_cr_lf, rows_most, text_most, Bad, unended, no_row}
use Rattle.exchange_protocol.specs.Exchange.{seventeenth, RowsOf, no_line, its_own, another's, in_one, accepted}
use Rattle.exchange_protocol.specs.Exchange.{refused}
use Rattle.exchange_protocol.specs.Exchange.{Says, too_long, bad_at_lem, good}
use Rattle.exchange_protocol.specs.Scan.{Front, front, none, line, is_of, or_bad, collect, reading, WrittenLine}
use Rattle.exchange_protocol.proofs.Lines.{ended_reads, reading_unique, line_back, row_has_seven}
use Rattle.exchange_protocol.proofs.Walk.{Sofar, none_yet, own_row, other_row, ends_no_row, ends_seventeenth}
use Rattle.exchange_protocol.proofs.Walk.{ends_unended, ends_good}

-- ---- one thing at most

rows_unique : {id : ℕ} {ls : List (List ℕ)} {rows rows' : List (List ℤ)} → RowsOf id ls rows → RowsOf id ls rows'
    → rows ≡ rows'
rows_unique no_line no_line = refl
rows_unique (its_own e r) (its_own f s) =
    ap₂ (λ (x : List ℤ) (y : List (List ℤ)). x ∷ y) (reading_unique e f).1 (rows_unique r s)
rows_unique (its_own e r) (another's f n s) = absurd (n (reading_unique f e).0)
rows_unique (another's e n r) (its_own f s) = absurd (n (reading_unique e f).0)
rows_unique (another's e n r) (another's f m s) = rows_unique r s

first_unique : (id : ℕ) (ls : List (List ℕ)) (m n : ℕ) → Bad id ls m → ((k : ℕ) → k < m → Bad id ls k → ⊥) → Bad id ls n
    → ((k : ℕ) → k < n → Bad id ls k → ⊥) → m ≡ n
first_unique id ls m n b f c g = go (le_or_lt m n) (le_or_lt n m)
  where
    go : (m ≤ n) ⊎ (n < m) → (n ≤ m) ⊎ (m < n) → m ≡ n
    go (inr h) y = absurd (f n h c)
    go (inl h) (inr k) = absurd (g m k b)
    go (inl h) (inl k) = omega arith

-- A TEXT SAYS NO TWO THINGS
pub says_unique : {id : ℕ} {t : List ℕ} {r s : Reading} → Says id t r → Says id t s → r ≡ s
says_unique (too_long h) (too_long k) = refl
says_unique (too_long h) (bad_at_lem k b f) = let z : ⊥ = omega arith in absurd z
says_unique (too_long h) (good k f r) = let z : ⊥ = omega arith in absurd z
says_unique (bad_at_lem h b f) (too_long k) = let z : ⊥ = omega arith in absurd z
says_unique {id} {t} (bad_at_lem {n = m} h b f) (bad_at_lem {n = n} k c g) =
    ap refused (first_unique id (pieces is_line_feed t) m n b f c g)
says_unique (bad_at_lem {n = m} h b f) (good k g r) = absurd (g m b)
says_unique (good h f r) (too_long k) = let z : ⊥ = omega arith in absurd z
says_unique (good h f r) (bad_at_lem {n = n} k b g) = absurd (f n b)
says_unique (good h f r) (good k g s) = ap accepted (rows_unique r s)

-- ---- one thing at least

is_of_lem : (id i : ℕ) (row : List ℤ) → is_of id (pos i ∷ row) ≡ eqb i id
unfolding is_of unsigned
is_of_lem id i row = refl

feed_is : is_line_feed line_feed ≡ true
unfolding is_line_feed
feed_is = refl

-- a piece that is read as a line is one
record Read (p : List ℕ) (zs : List ℤ) : Type 0 where
  id : ℕ
  row : List ℤ
  ended : Ended p id row
  numbers : zs ≡ pos id ∷ row

piece_read : (p : List ℕ) (zs : List ℤ) (rest : List ℕ) → Free is_line_feed p
    → line (p ++ line_feed ∷ []) ≡ front zs rest → Read p zs
piece_read p zs rest f e =
    let r : WrittenLine (p ++ line_feed ∷ []) zs rest = line_back (p ++ line_feed ∷ []) zs rest e in
    let a : p ∷ pieces is_line_feed [] ≡ r.p ∷ pieces is_line_feed rest =
    sym (pieces_more is_line_feed [] f feed_is) ∙ ap (pieces is_line_feed) r.is
    ∙ pieces_more is_line_feed rest r.unbroken feed_is in
    let i : r.p ≡ p = cc in
    record { id = r.id; row = r.row; ended = rw i at r.ended; numbers = r.numbers }

no_reading : (p : List ℕ) → line (p ++ line_feed ∷ []) ≡ none → (i : ℕ) (row : List ℤ) → Ended p i row → ⊥
no_reading p e i row a =
    let z : line (p ++ line_feed ∷ []) ≡ front (pos i ∷ row) [] = ended_reads [] a in
    impossible cc

module _ (id : ℕ) (t : List ℕ) (fits : length t ≤ text_most) where
  abbrev ls : List (List ℕ)
  ls = pieces is_line_feed t

  last_says : (k : ℕ) (rows : List (List ℤ)) (p : List ℕ) → Sofar id ls (p ∷ []) k rows
      → Says id t (collect id (suc k) rows (p ∷ []))
  unfolding collect
  last_says k rows p s = go (eqb (length p) 0) refl
    where
      go : (x : Bool) → eqb (length p) 0 ≡ x → Says id t (pick x (accepted rows) (refused (suc k)))
      go true h = ends_good id t fits k rows p s (eqb-true (length p) 0 h)
      go false h = ends_unended id t fits k rows p s (pos_of_ne-zero (eqb-false (length p) 0 h))

  module _ (k : ℕ) (rows : List (List ℤ)) (p q : List ℕ) (ps : List (List ℕ)) (s : Sofar id ls (p ∷ q ∷ ps) k rows)
      (on : (k : ℕ) (rows : List (List ℤ)) → Sofar id ls (q ∷ ps) k rows → Says id t (collect id (suc k) rows (q ∷ ps)))
    where
      own_says : (row : List ℤ) → Ended p id row
          → Says id t (pick (ltb (length rows) rows_most) (collect id (suc (suc k)) (rows ++ row ∷ []) (q ∷ ps))
          (refused (suc k)))
      own_says row e = go (ltb (length rows) rows_most) refl
        where
          go : (x : Bool) → ltb (length rows) rows_most ≡ x
              → Says id t (pick x (collect id (suc (suc k)) (rows ++ row ∷ []) (q ∷ ps)) (refused (suc k)))
          go true h =
              on (suc k) (rows ++ row ∷ []) (own_row id ls p q ps k rows s e (ltb-true (length rows) rows_most h))
          go false h = ends_seventeenth id t fits k rows p q ps s e (ltb-false (length rows) rows_most h)

      abbrev on_with : List ℤ → Reading
      on_with zs =
          pick (is_of id zs)
          (pick (ltb (length rows) rows_most) (collect id (suc (suc k)) (rows ++ drop 1 zs ∷ []) (q ∷ ps))
          (refused (suc k)))
          (collect id (suc (suc k)) rows (q ∷ ps))

      read_says : (i : ℕ) (row : List ℤ) → Ended p i row → Says id t (on_with (pos i ∷ row))
      read_says i row e = rw (is_of_lem id i row) (go (eqb i id) refl)
        where
          go : (x : Bool) → eqb i id ≡ x
              → Says id t (pick x (pick (ltb (length rows) rows_most)
              (collect id (suc (suc k)) (rows ++ row ∷ []) (q ∷ ps))
              (refused (suc k))) (collect id (suc (suc k)) rows (q ∷ ps)))
          go true h = let z : i ≡ id = eqb-true i id h in own_says row (rw z at e)
          go false h = on (suc k) rows (other_row id ls p q ps k rows s e (eqb-false i id h))

      more_says : Free is_line_feed p → Says id t (collect id (suc k) rows (p ∷ q ∷ ps))
      unfolding collect or_bad
      more_says f = go (line (p ++ line_feed ∷ [])) refl
        where
          go : (x : Front (List ℤ)) → line (p ++ line_feed ∷ []) ≡ x → Says id t (or_bad x (suc k) on_with)
          go none e = ends_no_row id t fits k rows p q ps s (no_reading p e)
          go (front zs rest) e =
              let r : Read p zs = piece_read p zs rest f e in
              rw r.numbers (read_says r.id r.row r.ended)

  collects : (k : ℕ) (rows : List (List ℤ)) (p : List ℕ) (ps : List (List ℕ)) → AllFree is_line_feed (p ∷ ps)
      → Sofar id ls (p ∷ ps) k rows → Says id t (collect id (suc k) rows (p ∷ ps))
  collects k rows p [] a s = last_says k rows p s
  collects k rows p (q ∷ ps) (piece f a) s = more_says k rows p q ps s (λ k rows s. collects k rows q ps a s) f

  all_says : (ps : List (List ℕ)) → ls ≡ ps → Says id t (collect id 1 [] ps)
  all_says [] e = pieces_some is_line_feed t e
  all_says (p ∷ ps) e = collects 0 [] p ps (rw e at (pieces_free is_line_feed t)) (none_yet id ls (p ∷ ps) e)

-- A TEXT SAYS WHAT IS READ
pub says_reading : (id : ℕ) (t : List ℕ) → Says id t (reading id t)
unfolding reading
says_reading id t = go (leb (length t) text_most) refl
  where
    go : (x : Bool) → leb (length t) text_most ≡ x
        → Says id t (pick x (collect id 1 [] (pieces is_line_feed t)) (refused 0))
    go true h = all_says id t (leb-true (length t) text_most h) (pieces is_line_feed t) refl
    go false h = too_long (leb-false (length t) text_most h)

-- AND NOTHING ELSE
pub says_is : {id : ℕ} {t : List ℕ} {r : Reading} → Says id t r → r ≡ reading id t
says_is {id} {t} s = says_unique s (says_reading id t)

-- ---- what is said of a security

refused_few : (n : ℕ) → (refused n).count ≤ rows_most
unfolding refused
refused_few n = omega arith

accepted_few : (rows : List (List ℤ)) → length rows ≤ rows_most → (accepted rows).count ≤ rows_most
unfolding accepted
accepted_few rows h = h

collect_few : (id n : ℕ) (rows : List (List ℤ)) (ps : List (List ℕ)) → length rows ≤ rows_most
    → (collect id n rows ps).count ≤ rows_most
unfolding collect or_bad
collect_few id n rows [] h = refused_few n
collect_few id n rows (p ∷ []) h = go (eqb (length p) 0)
  where
    go : (x : Bool) → (pick x (accepted rows) (refused n)).count ≤ rows_most
    go true = accepted_few rows h
    go false = refused_few n
collect_few id n rows (p ∷ q ∷ ps) h =
    go (line (p ++ line_feed ∷ [])) (λ rows k. collect_few id (suc n) rows (q ∷ ps) k)
  where
    go : (x : Front (List ℤ))
        → ((rows : List (List ℤ)) → length rows ≤ rows_most → (collect id (suc n) rows (q ∷ ps)).count ≤ rows_most)
        → (or_bad x n (λ zs. pick (is_of id zs)
        (pick (ltb (length rows) rows_most) (collect id (suc n) (rows ++ drop 1 zs ∷ []) (q ∷ ps)) (refused n))
        (collect id (suc n) rows (q ∷ ps)))).count ≤ rows_most
    go none on = refused_few n
    go (front zs rest) on = told (is_of id zs) (ltb (length rows) rows_most) refl
      where
        told : (x y : Bool) → ltb (length rows) rows_most ≡ y
            → (pick x (pick y (collect id (suc n) (rows ++ drop 1 zs ∷ []) (q ∷ ps)) (refused n))
            (collect id (suc n) rows (q ∷ ps))).count ≤ rows_most
        told false y e = on rows h
        told true false e = refused_few n
        told true true e =
            on (rows ++ drop 1 zs ∷ [])
            (rw (length-append rows (drop 1 zs ∷ [])) (omega (arith, ltb-true (length rows) rows_most e)))

-- SIXTEEN ROWS AT MOST
pub reading_few : (id : ℕ) (t : List ℕ) → (reading id t).count ≤ rows_most
unfolding reading
reading_few id t = go (leb (length t) text_most)
  where
    go : (x : Bool) → (pick x (collect id 1 [] (pieces is_line_feed t)) (refused 0)).count ≤ rows_most
    go true = collect_few id 1 [] (pieces is_line_feed t) (omega arith)
    go false = refused_few 0

pub says_few : {id : ℕ} {t : List ℕ} {r : Reading} → Says id t r → r.count ≤ rows_most
says_few {id} {t} s = rw (says_is s) (reading_few id t)

-- a row that is read is of an id in range
ended_known : {p : List ℕ} {i : ℕ} {row : List ℤ} → Ended p i row → within 1 id_most i ≡ true
ended_known (by_lf a) = a.known
ended_known (by_cr_lf a) = a.known

-- AN ID OUT OF RANGE HAS NO ROWS, and all such ids are alike
module _ (id j : ℕ) (out : within 1 id_most id ≡ false) (out' : within 1 id_most j ≡ false) where
  bad_outside : (ls : List (List ℕ)) (n : ℕ) → Bad id ls n → Bad j ls n
  bad_outside ls n (unended h g) = unended h g
  bad_outside ls n (no_row h g) = no_row h g
  bad_outside ls n (seventeenth h e g) = absurd (not_true_and_false (within 1 id_most id) (ended_known e) out)

  rows_outside : {ls : List (List ℕ)} {rows : List (List ℤ)} → RowsOf id ls rows → RowsOf j ls rows
  rows_outside no_line = no_line
  rows_outside (its_own e r) = absurd (not_true_and_false (within 1 id_most id) (ended_known e) out)
  rows_outside (another's {i = i} e n r) =
      another's e (λ q. not_true_and_false (within 1 id_most i) (ended_known e) (ap (within 1 id_most) q ∙ out'))
      (rows_outside r)

pub none_outside : {id : ℕ} {ls : List (List ℕ)} {rows : List (List ℤ)} → within 1 id_most id ≡ false → RowsOf id ls rows
    → rows ≡ []
none_outside out no_line = refl
none_outside {id} out (its_own e r) = absurd (not_true_and_false (within 1 id_most id) (ended_known e) out)
none_outside out (another's e n r) = none_outside out r

pub says_outside : (id j : ℕ) {t : List ℕ} {r : Reading} → within 1 id_most id ≡ false → within 1 id_most j ≡ false
    → Says id t r → Says j t r
says_outside id j out out' (too_long h) = too_long h
says_outside id j {t} out out' (bad_at_lem {n = n} h b f) =
    bad_at_lem h (bad_outside id j out out' (pieces is_line_feed t) n b)
    (λ m k c. f m k (bad_outside j id out' out (pieces is_line_feed t) m c))
says_outside id j {t} out out' (good h f r) =
    good h (λ m c. f m (bad_outside j id out' out (pieces is_line_feed t) m c)) (rows_outside id j out out' r)

-- seven numbers to a row
pub rows_sevens : {id : ℕ} {ls : List (List ℕ)} {rows : List (List ℤ)} → RowsOf id ls rows
    → length (in_one rows) ≡ row_numbers * length rows
unfolding in_one
rows_sevens no_line = refl
rows_sevens (its_own {row = row} {rows} e r) =
    length-append row (in_one rows) ∙ omega (arith, row_has_seven e, rows_sevens r)
rows_sevens (another's e n r) = rows_sevens r

-- 112 NUMBERS, zeros past the last row
pub says_long : {id : ℕ} {t : List ℕ} {r : Reading} → Says id t r → length r.rows ≡ all_numbers_most
unfolding accepted refused
says_long (too_long h) = length-replicate all_numbers_most (pos 0)
says_long (bad_at_lem h b f) = length-replicate all_numbers_most (pos 0)
says_long {id} {t} (good {rows = rows} h f r) =
    length-append (in_one rows) (replicate (all_numbers_most - row_numbers * length rows) (pos 0))
    ∙ omega (arith, rows_sevens r, length-replicate (all_numbers_most - row_numbers * length rows) (pos 0), few)
  where
    few : length rows ≤ rows_most
    few = says_few {id = id} {t = t} (good h f r)

pub no_line_zero : {id : ℕ} {ls : List (List ℕ)} {n : ℕ} → Bad id ls n → n ≡ 0 → ⊥
no_line_zero (unended h g) e = omega arith
no_line_zero (no_row h g) e = omega arith
no_line_zero (seventeenth h f g) e = omega arith

-- 15 AT LINE 0 exactly where the text is too long
pub line_zero : (id : ℕ) (t : List ℕ)
    → Exactly (((reading id t).verdict ≡ BadLine) × ((reading id t).line ≡ 0)) (text_most < length t)
unfolding refused accepted
line_zero id t = (λ e. go (says_reading id t) e.0 e.1, λ h. told (says_is {id = id} {t = t} (too_long h)))
  where
    go : {r : Reading} → Says id t r → r.verdict ≡ BadLine → r.line ≡ 0 → text_most < length t
    go (too_long h) v l = h
    go (bad_at_lem h b f) v l = absurd (no_line_zero b l)
    go (good h f r) v l = impossible cc

    told : refused 0 ≡ reading id t → ((reading id t).verdict ≡ BadLine) × ((reading id t).line ≡ 0)
    told e = (rw (← e), rw (← e))
