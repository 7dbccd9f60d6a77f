-- A line more in the tables, as laws over lists and numbers: where its id stands, what is stored there, and that the
-- places of the other securities stay as they are.
use mathlib.Core.Path.{◌≡◌, refl, sym, ap, ◌∙◌}
use mathlib.Core.Bool.{Bool, true, false, not, cond}
use mathlib.Core.Logic.{◌⊎◌, inl, inr}
use mathlib.Core.List.{List, [], ◌∷◌, ◌++◌, append_assoc, append-nil}
use Prim.Native.Nat.{ℕ, zero, suc, ◌+◌, ◌-◌, ◌*◌, ◌≤◌, ◌<◌}
use native.Mathlib.Omega.{arith}
use lib.Dec.{ltb, eqb}
use lib.IntN.{ℤ, pos}
use lib.ListN.{length, take, drop, get_or, set, length-append, length-take, length-drop, length-set, take-append-drop}
use lib.Seq.{sets, sets-eq, length-sets, take-suc-set, length-take-le, get_or-set_same, get_or-set_other}
use lib.Seq.{get_or-take, get_or-drop, take_at, drop-append-le, take-append-le, drop-append-add, take-append-add, drop-drop}
use lib.Seq.{take-nil}
use borrow.Author.Tests.{eqb-true, eqb-false, lt-ltb, le-ltb, ltb-true, ltb-false}
use Rattle.std.specs.Prelude.{Option, Some, None}
use Rattle.std.specs.List.{position, position_or_len}
use Rattle.std.proofs.lemmas.List.Sums.{prefix_len_passes, prefix_len_stops}
use Rattle.text_bytes.proofs.Spelling.{impossible}
use Rattle.paper.specs.Numbers.{row_numbers, all_numbers_most}
use Rattle.paper.specs.Ranges.{unsigned}
use Rattle.paper.proofs.Logic.{le_or_lt}
use Rattle.exchange_protocol.specs.Exchange.{rows_most, in_one, line_numbers}
use Rattle.night_protocol.specs.Night.{securities_most, is_among, joined, firsts, id_of, ids_of, rows_in}
use Rattle.night_protocol.specs.Night.{has_room}
use Rattle.night_protocol.proofs.Rows.{among_at, among_none, line_joins, rows_own, rows_other}
use Rattle.night_serve.specs.declared.reading.Securities.{Securities}
use Rattle.night_serve.specs.Tables.{id_at, ids_room, figures_room, Finds, Held, EntersAs, Enters}

-- ---- the numbers of rows

in_one_more : (rows : List (List ℤ)) (row : List ℤ) → in_one (rows ++ row ∷ []) ≡ in_one rows ++ row
unfolding in_one
in_one_more [] row = append-nil row
in_one_more (r ∷ rows) row = ap (λ (x : List ℤ). r ++ x) (in_one_more rows row) ∙ sym (append_assoc r (in_one rows) row)

-- ---- a part of a list, and a run of stores

-- stores before or behind the part leave it
part_before : (l : List ℤ) (m n i : ℕ) (vs : List ℤ) → i + length vs ≤ length l → m + n ≤ i
    → take n (drop m (sets l i vs)) ≡ take n (drop m l)
part_before l m n i vs h k =
    let a : List ℤ = take i l in
    let b : List ℤ = vs ++ drop (i + length vs) l in
    let la : length a ≡ i = length-take-le i l (omega arith) in
    let e : sets l i vs ≡ a ++ b = sets-eq vs l i h ∙ append_assoc a vs (drop (i + length vs) l) in
    let o : m ≤ length a = omega arith in
    let s : n ≤ length (drop m a) = rw (length-drop m a) (omega arith) in
    let f : take n (drop m (a ++ b)) ≡ take n (drop m a) =
    ap (take n) (drop-append-le m a b o) ∙ take-append-le n (drop m a) b s in
    let g : l ≡ a ++ drop i l = sym (take-append-drop i l) in
    let r : take n (drop m (a ++ drop i l)) ≡ take n (drop m a) =
    ap (take n) (drop-append-le m a (drop i l) o) ∙ take-append-le n (drop m a) (drop i l) s in
    ap (λ (x : List ℤ). take n (drop m x)) e ∙ f ∙ sym r ∙ sym (ap (λ (x : List ℤ). take n (drop m x)) g)

part_behind : (l : List ℤ) (m n i : ℕ) (vs : List ℤ) → i + length vs ≤ length l → i + length vs ≤ m
    → take n (drop m (sets l i vs)) ≡ take n (drop m l)
part_behind l m n i vs h k =
    let a : List ℤ = take i l ++ vs in
    let b : List ℤ = drop (i + length vs) l in
    let la : length a ≡ i + length vs =
    length-append (take i l) vs ∙ ap (λ (x : ℕ). x + length vs) (length-take-le i l (omega arith)) in
    let e : sets l i vs ≡ a ++ b = sets-eq vs l i h in
    let j : m ≡ length a + (m - length a) = omega arith in
    let d : drop m (a ++ b) ≡ drop (m - length a) b =
    ap (λ (x : ℕ). drop x (a ++ b)) j ∙ drop-append-add a b (m - length a) in
    let z : i + length vs + (m - length a) ≡ m = omega arith in
    let f : drop (m - length a) b ≡ drop m l =
    drop-drop (m - length a) (i + length vs) l ∙ ap (λ (x : ℕ). drop x l) z in
    ap (λ (x : List ℤ). take n (drop m x)) e ∙ ap (take n) (d ∙ f)

-- stores right behind the part lengthen it
part_longer : (l : List ℤ) (m n : ℕ) (vs : List ℤ) → m + n + length vs ≤ length l
    → take (n + length vs) (drop m (sets l (m + n) vs)) ≡ take n (drop m l) ++ vs
part_longer l m n vs h =
    let b : List ℤ = vs ++ drop (m + n + length vs) l in
    let a : List ℤ = take (m + n) l in
    let la : length a ≡ m + n = length-take-le (m + n) l (omega arith) in
    let e : sets l (m + n) vs ≡ a ++ b =
    sets-eq vs l (m + n) h ∙ append_assoc a vs (drop (m + n + length vs) l) in
    let o : m ≤ length a = omega arith in
    let da : drop m a ≡ take n (drop m l) = drop_take m n l in
    let ld : length (drop m a) ≡ n = length-drop m a ∙ omega arith in
    let f : take (n + length vs) (drop m a ++ b) ≡ drop m a ++ vs =
    ap (λ (x : ℕ). take (x + length vs) (drop m a ++ b)) (sym ld)
    ∙ take-append-add (drop m a) b (length vs)
    ∙ ap (λ (x : List ℤ). drop m a ++ x) (take_at vs (drop (m + n + length vs) l) (length vs) refl) in
    ap (λ (x : List ℤ). take (n + length vs) (drop m x)) e
    ∙ ap (take (n + length vs)) (drop-append-le m a b o)
    ∙ f ∙ ap (λ (x : List ℤ). x ++ vs) da
  where
    drop_take : (m n : ℕ) (l : List ℤ) → drop m (take (m + n) l) ≡ take n (drop m l)
    drop_take zero n l = let z : 0 + n ≡ n = omega arith in rw z
    drop_take (suc m) n [] = let z : suc m + n ≡ suc (m + n) = omega arith in rw z (sym (take-nil n))
    drop_take (suc m) n (x ∷ l) = let z : suc m + n ≡ suc (m + n) = omega arith in rw z (drop_take m n l)

-- ---- the tables with a line more

at_or_not : (i r : ℕ) → (i ≡ r) ⊎ (i ≡ r → ⊥)
at_or_not i r = go (eqb i r) refl
  where
    go : (b : Bool) → eqb i r ≡ b → (i ≡ r) ⊎ (i ≡ r → ⊥)
    go true e = inl (eqb-true i r e)
    go false e = inr (eqb-false i r e)

behind_of : (r i : ℕ) → r ≤ i → (i ≡ r → ⊥) → r < i
behind_of r i k d = go (le_or_lt i r)
  where
    go : (i ≤ r) ⊎ (r < i) → r < i
    go (inl j) = absurd (d (omega arith))
    go (inr j) = j

row_long : (zs : List ℤ) → length zs ≡ line_numbers → length (drop 1 zs) ≡ row_numbers
row_long zs l = length-drop 1 zs ∙ omega arith

module _ (lines : List (List ℤ)) (ids counts : List ℕ) (figures : List ℤ) (n : ℕ) (zs : List ℤ)
    (s : Held lines ids counts figures n) (long : length zs ≡ line_numbers) (ids_long : length ids ≡ ids_room)
    (counts_long : length counts ≡ securities_most) (figures_long : length figures ≡ figures_room) where
  abbrev id : ℕ
  id = id_of zs

  abbrev row : List ℤ
  row = drop 1 zs

  firsts_long : length (firsts (ids_of lines)) ≡ n
  firsts_long = ap length (sym s.are) ∙ length-take-le n ids (omega (arith, s.few))

  id_among : (r : ℕ) → r < n → id_at ids r ≡ id → is_among id (firsts (ids_of lines)) ≡ true
  id_among r h e =
      rw (← s.are)
      (among_at (take n ids) r id (rw (length-take-le n ids (omega (arith, s.few))) (omega arith))
      (get_or-take n ids r 0 h ∙ e))

  id_new : ((i : ℕ) → i < n → id_at ids i ≡ id → ⊥) → is_among id (firsts (ids_of lines)) ≡ false
  id_new none =
      let l : length (take n ids) ≡ n = length-take-le n ids (omega (arith, s.few)) in
      rw (← s.are)
      (among_none (take n ids) id (λ i h e. none i (omega arith) (sym (get_or-take n ids i 0 (omega arith)) ∙ e)))

  -- ---- of a security that is there, at r

  module _ (r : ℕ) (in_n : r < n) (here : id_at ids r ≡ id) where
    abbrev c : ℕ
    c = get_or counts r 0

    its_rows : length (rows_in id lines) ≡ c
    its_rows = ap (λ (x : ℕ). length (rows_in x lines)) (sym here) ∙ sym (s.count r in_n)

    pub seventeenth : rows_most ≤ c → has_room lines zs ≡ false
    unfolding has_room
    seventeenth h = rw (its_rows, le-ltb c rows_most h)

    module _ (few : c < rows_most) where
      pub room_there : has_room lines zs ≡ true
      unfolding has_room
      room_there = rw (its_rows, lt-ltb c rows_most few, id_among r in_n here)

      abbrev counts' : List ℕ
      counts' = set counts r (c + 1)

      abbrev figures' : List ℤ
      figures' = sets figures (row_numbers * (rows_most * r + c)) row

      apart : (i : ℕ) → i < n → (i ≡ r → ⊥) → id_of zs ≡ id_at ids i → ⊥
      apart i h d e = d (s.once i r h in_n (sym (here ∙ e)))

      count_there : (i : ℕ) → i < n → get_or counts' i 0 ≡ length (rows_in (id_at ids i) (lines ++ zs ∷ []))
      count_there i h = go (at_or_not i r)
        where
          go : (i ≡ r) ⊎ (i ≡ r → ⊥) → get_or counts' i 0 ≡ length (rows_in (id_at ids i) (lines ++ zs ∷ []))
          go (inl e) =
              rw (
                e,
                get_or-set_same counts r (c + 1) 0 (omega (arith, s.few)),
                rows_own (id_at ids r) lines zs (sym
                    here),
              )
              (sym (length-append (rows_in (id_at ids r) lines) (row ∷ []) ∙ ap (λ (x : ℕ). x + 1) (sym (s.count r
              in_n))))
          go (inr d) =
              get_or-set_other counts r i (c + 1) 0 d ∙ s.count i h
              ∙ ap length (sym (rows_other (id_at ids i) lines zs (apart i h d)))

      few_there : (i : ℕ) → i < n → get_or counts' i 0 ≤ rows_most
      few_there i h = go (at_or_not i r)
        where
          go : (i ≡ r) ⊎ (i ≡ r → ⊥) → get_or counts' i 0 ≤ rows_most
          go (inl e) = rw (e, get_or-set_same counts r (c + 1) 0 (omega (arith, s.few))) (omega arith)
          go (inr d) = rw (get_or-set_other counts r i (c + 1) 0 d) (s.few_rows i h)

      own_part : take (row_numbers * (c + 1)) (drop (all_numbers_most * r) figures')
          ≡ in_one (rows_in (id_at ids r) (lines ++ zs ∷ []))
      own_part =
          let l : length row ≡ row_numbers = row_long zs long in
          let p : row_numbers * (rows_most * r + c) ≡ all_numbers_most * r + row_numbers * c = omega arith in
          let q : row_numbers * (c + 1) ≡ row_numbers * c + length row = omega arith in
          let o : all_numbers_most * r + row_numbers * c + length row ≤ length figures = omega (arith, s.few) in
          rw (p, q, rows_own (id_at ids r) lines zs (sym here))
          (part_longer figures (all_numbers_most * r) (row_numbers * c) row o
          ∙ ap (λ (x : List ℤ). x ++ row) (s.rows r in_n)
          ∙ sym (in_one_more (rows_in (id_at ids r) lines) row))

      other_part : (i : ℕ) → i < n → (i ≡ r → ⊥)
          → take (row_numbers * get_or counts i 0) (drop (all_numbers_most * i) figures')
          ≡ take (row_numbers * get_or counts i 0) (drop (all_numbers_most * i) figures)
      other_part i h d = go (le_or_lt r i)
        where
          l : length row ≡ row_numbers
          l = row_long zs long

          o : row_numbers * (rows_most * r + c) + length row ≤ length figures
          o = omega (arith, s.few, l)

          go : (r ≤ i) ⊎ (i < r)
              → take (row_numbers * get_or counts i 0) (drop (all_numbers_most * i) figures')
              ≡ take (row_numbers * get_or counts i 0) (drop (all_numbers_most * i) figures)
          go (inl k) =
              let j : r < i = behind_of r i k d in
              part_behind figures (all_numbers_most * i) (row_numbers * get_or counts i 0)
              (row_numbers * (rows_most * r + c)) row o (omega (arith, l))
          go (inr k) =
              part_before figures (all_numbers_most * i) (row_numbers * get_or counts i 0)
              (row_numbers * (rows_most * r + c)) row o (omega (arith, s.few_rows i h))

      rows_there : (i : ℕ) → i < n
          → take (row_numbers * get_or counts' i 0) (drop (all_numbers_most * i) figures')
          ≡ in_one (rows_in (id_at ids i) (lines ++ zs ∷ []))
      rows_there i h = go (at_or_not i r)
        where
          go : (i ≡ r) ⊎ (i ≡ r → ⊥)
              → take (row_numbers * get_or counts' i 0) (drop (all_numbers_most * i) figures')
              ≡ in_one (rows_in (id_at ids i) (lines ++ zs ∷ []))
          go (inl e) = rw (e, get_or-set_same counts r (c + 1) 0 (omega (arith, s.few))) own_part
          go (inr d) =
              rw (get_or-set_other counts r i (c + 1) 0 d, rows_other (id_at ids i) lines zs (apart i h d))
              (other_part i h d ∙ s.rows i h)

      pub held_there : Held (lines ++ zs ∷ []) ids counts' figures' n
      unfolding joined
      held_there =
          record {
            ids_long = ids_long;
            counts_long = length-set counts r (c + 1) ∙ counts_long;
            figures_long = length-sets figures (row_numbers * (rows_most * r + c)) row ∙ figures_long;
            few = s.few;
            are = s.are ∙ sym (line_joins lines zs ∙ rw (id_among r in_n here));
            once = s.once;
            others = λ z none. rows_other z lines zs (λ e. none r in_n (here ∙ e)) ∙ s.others z none;
            count = count_there;
            few_rows = few_there;
            rows = rows_there;
          }

  -- ---- of a security that is new

  module _ (none : (i : ℕ) → i < n → id_at ids i ≡ id → ⊥) where
    no_rows : rows_in id lines ≡ []
    no_rows = s.others id none

    pub too_many : securities_most ≤ n → has_room lines zs ≡ false
    unfolding has_room
    too_many h = rw (no_rows, id_new none, firsts_long, le-ltb n securities_most h)

    module _ (few : n < securities_most) where
      pub room_new : has_room lines zs ≡ true
      unfolding has_room
      room_new = rw (no_rows, id_new none, firsts_long, lt-ltb n securities_most few)

      abbrev ids' : List ℕ
      ids' = set ids n id

      abbrev counts₁ : List ℕ
      counts₁ = set counts n 1

      abbrev figures₁ : List ℤ
      figures₁ = sets figures (row_numbers * (rows_most * n)) row

      at_last : id_at ids' n ≡ id
      at_last = get_or-set_same ids n id 0 (omega arith)

      before_last : (i : ℕ) → i < n → id_at ids' i ≡ id_at ids i
      before_last i h = get_or-set_other ids n i id 0 (λ e. omega arith)

      last_or_not : (i : ℕ) → i < n + 1 → (i ≡ n) ⊎ (i < n)
      last_or_not i h = go (le_or_lt n i)
        where
          go : (n ≤ i) ⊎ (i < n) → (i ≡ n) ⊎ (i < n)
          go (inl k) = inl (omega arith)
          go (inr k) = inr k

      once_new : (i j : ℕ) → i < n + 1 → j < n + 1 → id_at ids' i ≡ id_at ids' j → i ≡ j
      once_new i j h k e = go (last_or_not i h) (last_or_not j k)
        where
          go : (i ≡ n) ⊎ (i < n) → (j ≡ n) ⊎ (j < n) → i ≡ j
          go (inl a) (inl b) = omega arith
          go (inl a) (inr b) =
              absurd (none j b (sym (before_last j b) ∙ sym e ∙ ap (id_at ids') a ∙ at_last))
          go (inr a) (inl b) = absurd (none i a (sym (before_last i a) ∙ e ∙ ap (id_at ids') b ∙ at_last))
          go (inr a) (inr b) = s.once i j a b (sym (before_last i a) ∙ e ∙ before_last j b)

      others_new : (z : ℕ) → ((i : ℕ) → i < n + 1 → id_at ids' i ≡ z → ⊥) → rows_in z (lines ++ zs ∷ []) ≡ []
      others_new z nowhere =
          rows_other z lines zs (λ e. nowhere n (omega arith) (at_last ∙ e))
          ∙ s.others z (λ i h e. nowhere i (omega arith) (before_last i h ∙ e))

      count_new : (i : ℕ) → i < n + 1 → get_or counts₁ i 0 ≡ length (rows_in (id_at ids' i) (lines ++ zs ∷ []))
      count_new i h = go (last_or_not i h)
        where
          go : (i ≡ n) ⊎ (i < n) → get_or counts₁ i 0 ≡ length (rows_in (id_at ids' i) (lines ++ zs ∷ []))
          go (inl e) =
              rw (e, get_or-set_same counts n 1 0 (omega arith), at_last, rows_own id lines zs refl, no_rows)
          go (inr k) =
              rw (
                get_or-set_other counts n i 1 0 (λ e. omega arith),
                before_last i k,
                rows_other (id_at ids i) lines zs (λ e. none i k (sym e)),
              )
              (s.count i k)

      few_new : (i : ℕ) → i < n + 1 → get_or counts₁ i 0 ≤ rows_most
      few_new i h = go (last_or_not i h)
        where
          go : (i ≡ n) ⊎ (i < n) → get_or counts₁ i 0 ≤ rows_most
          go (inl e) = rw (e, get_or-set_same counts n 1 0 (omega arith)) (omega arith)
          go (inr k) = rw (get_or-set_other counts n i 1 0 (λ e. omega arith)) (s.few_rows i k)

      rows_new : (i : ℕ) → i < n + 1
          → take (row_numbers * get_or counts₁ i 0) (drop (all_numbers_most * i) figures₁)
          ≡ in_one (rows_in (id_at ids' i) (lines ++ zs ∷ []))
      unfolding in_one
      rows_new i h = go (last_or_not i h)
        where
          l : length row ≡ row_numbers
          l = row_long zs long

          o : row_numbers * (rows_most * n) + length row ≤ length figures
          o = omega (arith, l)

          go : (i ≡ n) ⊎ (i < n)
              → take (row_numbers * get_or counts₁ i 0) (drop (all_numbers_most * i) figures₁)
              ≡ in_one (rows_in (id_at ids' i) (lines ++ zs ∷ []))
          go (inl e) =
              let p : row_numbers * (rows_most * n) ≡ all_numbers_most * n + 0 = omega arith in
              let q : row_numbers * 1 ≡ 0 + length row = omega (arith, l) in
              let w : all_numbers_most * n + 0 + length row ≤ length figures = omega (arith, l) in
              rw (e, get_or-set_same counts n 1 0 (omega arith), at_last, rows_own id lines zs refl, no_rows, p, q)
              (part_longer figures (all_numbers_most * n) 0 row w ∙ sym (append-nil row))
          go (inr k) =
              rw (
                get_or-set_other counts n i 1 0 (λ e. omega arith),
                before_last i k,
                rows_other (id_at ids i) lines zs (λ e. none i k (sym e)),
              )
              (part_before figures (all_numbers_most * i) (row_numbers * get_or counts i 0) (row_numbers * (rows_most * n))
              row o
              (omega (arith, s.few_rows i k))
              ∙ s.rows i k)

      pub held_new : Held (lines ++ zs ∷ []) ids' counts₁ figures₁ (n + 1)
      unfolding joined
      held_new =
          let f : n + 1 ≡ suc n = omega arith in
          record {
            ids_long = length-set ids n id ∙ ids_long;
            counts_long = length-set counts n 1 ∙ counts_long;
            figures_long = length-sets figures (row_numbers * (rows_most * n)) row ∙ figures_long;
            few = omega arith;
            are =
                ap (λ (x : ℕ). take x ids') f ∙ take-suc-set ids n id (omega arith)
                ∙ ap (λ (x : List ℕ). x ++ id ∷ []) s.are
                ∙ sym (line_joins lines zs ∙ rw (id_new none));
            once = once_new;
            others = others_new;
            count = count_new;
            few_rows = few_new;
            rows = rows_new;
          }

-- ---- where an id stands

not_false : (b : Bool) → not b ≡ false → b ≡ true
not_false true e = refl
not_false false e = impossible cc

not_true : (b : Bool) → not b ≡ true → b ≡ false
not_true true e = impossible cc
not_true false e = refl

module _ (ids : List ℕ) (id : ℕ) where
  first : ℕ
  first = position_or_len (λ x. eqb x id) ids

  finds_position : Finds ids id (position (λ x. eqb x id) ids)
  unfolding first
  finds_position = go (ltb first (length ids)) refl
    where
      go : (b : Bool) → ltb first (length ids) ≡ b → Finds ids id (cond b (Some first) None)
      go true e =
          let h : first < length ids = ltb-true first (length ids) e in (
            h,
            eqb-true (id_at ids first) id
                (not_false (eqb (id_at ids first) id) (prefix_len_stops (λ x. not (eqb x id)) ids 0 h)),
          )
      go false e = λ i h q.
          let k : length ids ≤ first = ltb-false first (length ids) e in
          eqb-false (id_at ids i) id
          (not_true (eqb (id_at ids i) id) (prefix_len_passes (λ x. not (eqb x id)) ids i 0 (omega arith))) q

  finds : (r : Option ℕ) → r ≡ position (λ x. eqb x id) ids → Finds ids id r
  finds r e = rw e finds_position

-- from the last place on, and then before it
module _ (ids : List ℕ) (id start : ℕ) (h : start ≤ length ids) where
  abbrev behind : List ℕ
  behind = take (length ids - start) (drop start ids)

  behind_long : length behind ≡ length ids - start
  behind_long = omega (arith, length-take (length ids - start) (drop start ids), length-drop start ids)

  behind_at : (i : ℕ) → i < length ids - start → id_at behind i ≡ id_at ids (start + i)
  behind_at i l = get_or-take (length ids - start) (drop start ids) i 0 l ∙ get_or-drop start ids i 0

  pub found_behind : (i : ℕ) → Some i ≡ position (λ x. eqb x id) behind → Finds ids id (Some (start + i))
  found_behind i e =
      let f : (i < length behind) × (id_at behind i ≡ id) = finds behind id (Some i) e in
      let l : i < length ids - start = omega (arith, behind_long, f.0) in
      (omega arith, sym (behind_at i l) ∙ f.1)

  pub found_before : (r : Option ℕ) → None ≡ position (λ x. eqb x id) behind
      → r ≡ position (λ x. eqb x id) (take start ids) → Finds ids id r
  found_before r e q = go r (finds (take start ids) id r q)
    where
      none_behind : (i : ℕ) → i < length behind → id_at behind i ≡ id → ⊥
      none_behind = finds behind id None e

      go : (r : Option ℕ) → Finds (take start ids) id r → Finds ids id r
      go (Some i) f =
          let l : i < start = omega (arith, length-take start ids, f.0) in
          (omega arith, sym (get_or-take start ids i 0 l) ∙ f.1)
      go None f = λ i k w. neither f i k w (le_or_lt start i)
        where
          neither : Finds (take start ids) id None → (i : ℕ) → i < length ids → id_at ids i ≡ id
              → (start ≤ i) ⊎ (i < start) → ⊥
          neither f i k w (inl a) =
              let j : start + (i - start) ≡ i = omega arith in
              none_behind (i - start) (omega (arith, behind_long))
              (behind_at (i - start) (omega arith) ∙ ap (id_at ids) j ∙ w)
          neither f i k w (inr b) =
              f i (omega (arith, length-take start ids)) (get_or-take start ids i 0 b ∙ w)

-- ---- what becomes of the tables

module _ (s : Securities) (zs : List ℤ) (long : length zs ≡ line_numbers) (id : ℕ)
    (is : id ≡ unsigned (get_or zs 0 (pos 0))) where
  it_is : id ≡ id_of zs
  unfolding id_of
  it_is = is

  module _ (r : ℕ) (f : (r < length (take s.count s.ids)) × (id_at (take s.count s.ids) r ≡ id)) where
    before : r < s.count
    before = omega (arith, length-take s.count s.ids, f.0)

    there : id_at s.ids r ≡ id_of zs
    there = sym (get_or-take s.count s.ids r 0 before) ∙ f.1 ∙ it_is

    pub enters_seventeenth : rows_most ≤ get_or s.counts r 0 → Enters s zs s None
    unfolding EntersAs
    enters_seventeenth k =
        record {
          is = λ lines h. seventeenth lines s.ids s.counts s.figures s.count zs h long h.ids_long h.counts_long h.figures_long
              r before there k;
        }

    pub enters_there : get_or s.counts r 0 < rows_most → (figures' : List ℤ)
        → figures' ≡ sets s.figures (row_numbers * (rows_most * r + get_or s.counts r 0)) (drop 1 zs)
        → Enters s zs
        (record { count = s.count; ids = s.ids; counts = set s.counts r (get_or s.counts r 0 + 1); figures = figures' })
        (Some r)
    unfolding EntersAs
    enters_there k figures' e =
        record {
          is = λ lines h. (
            room_there lines s.ids s.counts s.figures s.count zs h long h.ids_long h.counts_long h.figures_long
                r before there k,
            rw e (held_there lines s.ids s.counts s.figures s.count zs h long h.ids_long h.counts_long h.figures_long
                r before there k),
          );
        }

  module _ (nowhere : (i : ℕ) → i < length (take s.count s.ids) → id_at (take s.count s.ids) i ≡ id → ⊥) where
    new : s.count ≤ length s.ids → (i : ℕ) → i < s.count → id_at s.ids i ≡ id_of zs → ⊥
    new h i k e =
        nowhere i (omega (arith, length-take s.count s.ids)) (get_or-take s.count s.ids i 0 k ∙ e ∙ sym it_is)

    pub enters_too_many : securities_most ≤ s.count → Enters s zs s None
    unfolding EntersAs
    enters_too_many k =
        record {
          is = λ lines h. too_many lines s.ids s.counts s.figures s.count zs h long h.ids_long h.counts_long h.figures_long
              (new (omega (arith, h.ids_long, h.few))) k;
        }

    pub enters_new : s.count < securities_most → (figures' : List ℤ)
        → figures' ≡ sets s.figures (row_numbers * (rows_most * s.count)) (drop 1 zs)
        → Enters s zs
        (record {
          count = s.count + 1;
          ids = set s.ids s.count id;
          counts = set s.counts s.count 1;
          figures = figures';
        })
        (Some s.count)
    unfolding EntersAs
    enters_new k figures' e =
        record {
          is = λ lines h. (
            room_new lines s.ids s.counts s.figures s.count zs h long h.ids_long h.counts_long h.figures_long
                (new (omega (arith, h.ids_long, h.few))) k,
            rw (e, it_is) (held_new lines s.ids s.counts s.figures s.count zs h long h.ids_long h.counts_long h.figures_long
                (new (omega (arith, h.ids_long, h.few))) k),
          );
        }
