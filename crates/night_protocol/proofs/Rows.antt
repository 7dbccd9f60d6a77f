-- THE ROWS OF AN ID ARE WHAT THE READING OF `exchange` SAYS OF IT, and each id stands once. What a line more makes of
-- the ids and of the rows.
use mathlib.Core.Path.{◌≡◌, refl, ap, ◌∙◌}
use mathlib.Core.Bool.{Bool, true, false, ◌&&◌, ◌||◌}
use mathlib.Core.List.{List, [], ◌∷◌, ◌++◌}
use Prim.Native.Nat.{ℕ, zero, suc, ◌≤◌, ◌<◌}
use native.Mathlib.Omega.{arith}
use lib.Dec.{leb, ltb, eqb}
use lib.IntN.{ℤ}
use lib.ListN.{length, drop, get_or}
use borrow.Author.Tests.{eqb-true, eqb-false, eq-eqb, ne_eqb, le-leb}
use Rattle.paper.specs.Lists.{pick, some}
use Rattle.text_bytes.specs.Bytes.{line_feed, is_line_feed, pieces}
use Rattle.text_bytes.proofs.Spelling.{impossible}
use Rattle.exchange_protocol.specs.declared.Reading.{Reading}
use Rattle.exchange_protocol.specs.Exchange.{rows_most, text_most, accepted, refused}
use Rattle.exchange_protocol.specs.Scan.{Front, front, none, line, is_of, collect, reading}
use Rattle.exchange_protocol.specs.Scan.{or_bad as readOrBad}
use Rattle.night_protocol.specs.Night.{good, bad, night_most, securities_most, is_among, joined, firsts_behind}
use Rattle.night_protocol.specs.Night.{firsts, id_of, ids_of, rows_in, has_room, or_bad, gather, night_of}

-- ---- among the ids

pub among_at : (ids : List ℕ) (i id : ℕ) → i < length ids → get_or ids i 0 ≡ id → is_among id ids ≡ true
unfolding is_among some
among_at [] i id h e = let z : ⊥ = omega arith in absurd z
among_at (x ∷ ids) zero id h e = let f : x ≡ id = e in rw (f, eq-eqb id id refl)
among_at (x ∷ ids) (suc i) id h e = rw (among_at ids i id (omega arith) e) (or_true (eqb x id))
  where
    or_true : (b : Bool) → (b || true) ≡ true
    or_true true = refl
    or_true false = refl

pub among_none : (ids : List ℕ) (id : ℕ) → ((i : ℕ) → i < length ids → get_or ids i 0 ≡ id → ⊥)
    → is_among id ids ≡ false
unfolding is_among some
among_none [] id n = refl
among_none (x ∷ ids) id n =
    rw (ne_eqb x id (λ e. n 0 (omega arith) e), among_none ids id (λ i h e. n (suc i) (omega arith) e))

-- ---- a line more

firsts_behind_lem : (ids xs : List ℕ) (x : ℕ) → firsts_behind ids (xs ++ x ∷ []) ≡ joined (firsts_behind ids xs) x
unfolding firsts_behind
firsts_behind_lem ids [] x = refl
firsts_behind_lem ids (y ∷ xs) x = firsts_behind_lem (joined ids y) xs x

pub firsts_both : (ids xs ys : List ℕ) → firsts_behind ids (xs ++ ys) ≡ firsts_behind (firsts_behind ids xs) ys
unfolding firsts_behind
firsts_both ids [] ys = refl
firsts_both ids (x ∷ xs) ys = firsts_both (joined ids x) xs ys

pub firsts_more : (xs : List ℕ) (x : ℕ) → firsts (xs ++ x ∷ []) ≡ joined (firsts xs) x
unfolding firsts
firsts_more xs x = firsts_behind_lem [] xs x

ids_more : (lines : List (List ℤ)) (zs : List ℤ) → ids_of (lines ++ zs ∷ []) ≡ ids_of lines ++ id_of zs ∷ []
unfolding ids_of
ids_more [] zs = refl
ids_more (ys ∷ lines) zs = ap (λ (x : List ℕ). id_of ys ∷ x) (ids_more lines zs)

pub line_joins : (lines : List (List ℤ)) (zs : List ℤ)
    → firsts (ids_of (lines ++ zs ∷ [])) ≡ joined (firsts (ids_of lines)) (id_of zs)
line_joins lines zs = ap firsts (ids_more lines zs) ∙ firsts_more (ids_of lines) (id_of zs)

pub rows_own : (id : ℕ) (lines : List (List ℤ)) (zs : List ℤ) → id_of zs ≡ id
    → rows_in id (lines ++ zs ∷ []) ≡ rows_in id lines ++ drop 1 zs ∷ []
unfolding rows_in
rows_own id [] zs e = rw (e, eq-eqb id id refl)
rows_own id (ys ∷ lines) zs e = go (eqb (id_of ys) id) (rows_own id lines zs e)
  where
    go : (b : Bool) → rows_in id (lines ++ zs ∷ []) ≡ rows_in id lines ++ drop 1 zs ∷ []
        → pick b (drop 1 ys ∷ rows_in id (lines ++ zs ∷ [])) (rows_in id (lines ++ zs ∷ []))
        ≡ pick b (drop 1 ys ∷ rows_in id lines) (rows_in id lines) ++ drop 1 zs ∷ []
    go true f = ap (λ (x : List (List ℤ)). drop 1 ys ∷ x) f
    go false f = f

pub rows_other : (id : ℕ) (lines : List (List ℤ)) (zs : List ℤ) → (id_of zs ≡ id → ⊥)
    → rows_in id (lines ++ zs ∷ []) ≡ rows_in id lines
unfolding rows_in
rows_other id [] zs n = rw (ne_eqb (id_of zs) id n)
rows_other id (ys ∷ lines) zs n = go (eqb (id_of ys) id) (rows_other id lines zs n)
  where
    go : (b : Bool) → rows_in id (lines ++ zs ∷ []) ≡ rows_in id lines
        → pick b (drop 1 ys ∷ rows_in id (lines ++ zs ∷ [])) (rows_in id (lines ++ zs ∷ []))
        ≡ pick b (drop 1 ys ∷ rows_in id lines) (rows_in id lines)
    go true f = ap (λ (x : List (List ℤ)). drop 1 ys ∷ x) f
    go false f = f

-- ---- each id once

-- no id stands twice
pub data Once : List ℕ → Type 0 where
  no_id : Once []
  one_more : {ids : List ℕ} (id : ℕ) → Once ids → is_among id ids ≡ false → Once (ids ++ id ∷ [])

joined_once : (ids : List ℕ) (id : ℕ) → Once ids → Once (joined ids id)
unfolding joined
joined_once ids id o = go (is_among id ids) refl
  where
    go : (b : Bool) → is_among id ids ≡ b → Once (pick b ids (ids ++ id ∷ []))
    go true e = o
    go false e = one_more id o e

behind_once : (ids is : List ℕ) → Once ids → Once (firsts_behind ids is)
unfolding firsts_behind
behind_once ids [] o = o
behind_once ids (i ∷ is) o = behind_once (joined ids i) is (joined_once ids i o)

-- EACH ID STANDS ONCE
pub firsts_once : (is : List ℕ) → Once (firsts is)
unfolding firsts
firsts_once is = behind_once [] is no_id

-- ---- the rows

room_rows : (lines : List (List ℤ)) (zs : List ℤ) → has_room lines zs ≡ true
    → ltb (length (rows_in (id_of zs) lines)) rows_most ≡ true
unfolding has_room
room_rows lines zs e =
    first (ltb (length (rows_in (id_of zs) lines)) rows_most)
    (is_among (id_of zs) (firsts (ids_of lines)) || ltb (length (firsts (ids_of lines))) securities_most) e
  where
    first : (a b : Bool) → (a && b) ≡ true → a ≡ true
    first true b h = refl
    first false b h = h

pub is_of_lem : (id : ℕ) (zs : List ℤ) → is_of id zs ≡ eqb (id_of zs) id
unfolding is_of id_of
is_of_lem id zs = refl

-- what the reading makes of a line behind which others stand
abbrev pub on_with : (id n : ℕ) → List (List ℤ) → List ℕ → List (List ℕ) → List ℤ → Reading
on_with id n lines q ps zs =
    pick (is_of id zs)
    (pick (ltb (length (rows_in id lines)) rows_most) (collect id (suc n) (rows_in id lines ++ drop 1 zs ∷ []) (q ∷ ps))
    (refused n))
    (collect id (suc n) (rows_in id lines) (q ∷ ps))

-- a line that has room is read as the reading reads it, whichever the id
pub line_collects : (id n : ℕ) (lines : List (List ℤ)) (q : List ℕ) (ps : List (List ℕ)) (zs : List ℤ)
    → has_room lines zs ≡ true
    → on_with id n lines q ps zs ≡ collect id (suc n) (rows_in id (lines ++ zs ∷ [])) (q ∷ ps)
line_collects id n lines q ps zs r = rw (is_of_lem id zs) (go (eqb (id_of zs) id) refl)
  where
    go : (b : Bool) → eqb (id_of zs) id ≡ b
        → pick b
        (pick (ltb (length (rows_in id lines)) rows_most)
        (collect id (suc n) (rows_in id lines ++ drop 1 zs ∷ []) (q ∷ ps))
        (refused n))
        (collect id (suc n) (rows_in id lines) (q ∷ ps))
        ≡ collect id (suc n) (rows_in id (lines ++ zs ∷ [])) (q ∷ ps)
    go true f =
        let g : id_of zs ≡ id = eqb-true (id_of zs) id f in
        rw (rw g at (room_rows lines zs r), rows_own id lines zs g)
    go false f = rw (rows_other id lines zs (eqb-false (id_of zs) id f))

collects : (id n : ℕ) (lines : List (List ℤ)) (ps : List (List ℕ)) (all : List (List ℤ))
    → gather n lines ps ≡ good all → collect id n (rows_in id lines) ps ≡ accepted (rows_in id all)
unfolding gather collect or_bad readOrBad
collects id n lines [] all e = impossible cc
collects id n lines (p ∷ []) all e = go (eqb (length p) 0) e
  where
    go : (b : Bool) → pick b (good lines) (bad n) ≡ good all
        → pick b (accepted (rows_in id lines)) (refused n) ≡ accepted (rows_in id all)
    go true f = let g : lines ≡ all = cc in rw g
    go false f = impossible cc
collects id n lines (p ∷ q ∷ ps) all e =
    at_line (line (p ++ line_feed ∷ [])) e (λ zs h. collects id (suc n) (lines ++ zs ∷ []) (q ∷ ps) all h)
  where
    at_line : (x : Front (List ℤ))
        → or_bad x n (λ zs. pick (has_room lines zs) (gather (suc n) (lines ++ zs ∷ []) (q ∷ ps)) (bad n)) ≡ good all
        → ((zs : List ℤ) → gather (suc n) (lines ++ zs ∷ []) (q ∷ ps) ≡ good all
        → collect id (suc n) (rows_in id (lines ++ zs ∷ [])) (q ∷ ps) ≡ accepted (rows_in id all))
        → readOrBad x n (on_with id n lines q ps) ≡ accepted (rows_in id all)
    at_line none f on = impossible cc
    at_line (front zs rest) f on = go (has_room lines zs) refl f
      where
        go : (b : Bool) → has_room lines zs ≡ b → pick b (gather (suc n) (lines ++ zs ∷ []) (q ∷ ps)) (bad n) ≡ good all
            → on_with id n lines q ps zs ≡ accepted (rows_in id all)
        go true r g = line_collects id n lines q ps zs r ∙ on zs g
        go false r g = impossible cc

-- THE READING OF `exchange`, which takes shorter texts, SAYS THE SAME ROWS of every id
pub good_is_reading : (t : List ℕ) (all : List (List ℤ)) → length t ≤ text_most → night_of t ≡ good all → (id : ℕ)
    → reading id t ≡ accepted (rows_in id all)
unfolding reading night_of rows_in
good_is_reading t all h e id =
    let k : length t ≤ night_most = omega arith in
    rw (le-leb (length t) text_most h)
    (collects id 1 [] (pieces is_line_feed t) all (rw (le-leb (length t) night_most k) at e))

-- and of a longer text, line after line
pub good_is_collected : (t : List ℕ) (all : List (List ℤ)) → night_of t ≡ good all → (id : ℕ)
    → collect id 1 [] (pieces is_line_feed t) ≡ accepted (rows_in id all)
unfolding night_of rows_in
good_is_collected t all e id = go (leb (length t) night_most) e
  where
    go : (b : Bool) → pick b (gather 1 [] (pieces is_line_feed t)) (bad 0) ≡ good all
        → collect id 1 [] (pieces is_line_feed t) ≡ accepted (rows_in id all)
    go true f = collects id 1 [] (pieces is_line_feed t) all f
    go false f = impossible cc
