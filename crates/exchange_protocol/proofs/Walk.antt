-- Line after line: how a text stands when so many of its lines are read, and what each further line makes of it. The
-- code's loop and `reading` both go by these steps.
use mathlib.Core.Path.{◌≡◌, sym, ap, ◌∙◌}
use mathlib.Core.Logic.{◌⊎◌, inl, inr}
use mathlib.Core.List.{List, [], ◌∷◌, ◌++◌}
use Prim.Native.Nat.{ℕ, zero, suc, ◌-◌, ◌≤◌, ◌<◌}
use native.Mathlib.Omega.{arith}
use lib.IntN.{ℤ}
use lib.ListN.{length, take, drop, get_or, length-append, drop_of_length-le, length-drop}
use lib.Seq.{drop-cons, take-suc}
use Rattle.paper.proofs.Logic.{le_or_lt}
use Rattle.text_bytes.specs.Bytes.{is_line_feed, pieces}
use Rattle.text_bytes.proofs.Spelling.{impossible}
use Rattle.exchange_protocol.specs.Exchange.{Ended, rows_most, text_most, AtLeast, enough, one, past, Bad, unended}
use Rattle.exchange_protocol.specs.Exchange.{no_row}
use Rattle.exchange_protocol.specs.Exchange.{seventeenth, RowsOf, no_line, its_own, another's, accepted, refused}
use Rattle.exchange_protocol.specs.Exchange.{Says}
use Rattle.exchange_protocol.specs.Exchange.{bad_at_lem, good}
use Rattle.exchange_protocol.proofs.Lines.{reading_unique}

-- ---- the rows of a security

pub rows_own : {id : ℕ} {ls : List (List ℕ)} {rows : List (List ℤ)} {p : List ℕ} {row : List ℤ} → RowsOf id ls rows
    → Ended p id row → RowsOf id (ls ++ p ∷ []) (rows ++ row ∷ [])
rows_own no_line e = its_own e no_line
rows_own (its_own f r) e = its_own f (rows_own r e)
rows_own (another's f n r) e = another's f n (rows_own r e)

pub rows_other : {id : ℕ} {ls : List (List ℕ)} {rows : List (List ℤ)} {p : List ℕ} {i : ℕ} {row : List ℤ}
    → RowsOf id ls rows → Ended p i row → (i ≡ id → ⊥) → RowsOf id (ls ++ p ∷ []) rows
rows_other no_line e n = another's e n no_line
rows_other (its_own f r) e n = its_own f (rows_other r e n)
rows_other (another's f m r) e n = another's f m (rows_other r e n)

-- the rows are as many as the lines of the security
pub rows_count : {id n : ℕ} {ls : List (List ℕ)} {rows : List (List ℤ)} → AtLeast id n ls → RowsOf id ls rows
    → n ≤ length rows
rows_count enough r = omega arith
rows_count (one e a) (its_own f r) = let h = rows_count a r in omega arith
rows_count (one e a) (another's f n r) = absurd (n (reading_unique f e).0)
rows_count (past a) (its_own f r) = let h = rows_count a r in omega arith
rows_count (past a) (another's f n r) = rows_count a r

pub count_rows : {id : ℕ} (n : ℕ) {ls : List (List ℕ)} {rows : List (List ℤ)} → RowsOf id ls rows → n ≤ length rows
    → AtLeast id n ls
count_rows zero r h = enough
count_rows (suc n) no_line h = let z : ⊥ = omega arith in absurd z
count_rows (suc n) (its_own f r) h = one f (count_rows n r (omega arith))
count_rows (suc n) (another's f m r) h = past (count_rows (suc n) r h)

-- ---- the lines that are left

record Next (ls : List (List ℕ)) (k : ℕ) (p : List ℕ) (ps : List (List ℕ)) : Type 0 where
  in_ls : k < length ls
  here : get_or ls k [] ≡ p
  behind : drop (suc k) ls ≡ ps

next_of : (ls : List (List ℕ)) (k : ℕ) (p : List ℕ) (ps : List (List ℕ)) → drop k ls ≡ p ∷ ps → Next ls k p ps
next_of ls k p ps e = go (le_or_lt (length ls) k)
  where
    go : (length ls ≤ k) ⊎ (k < length ls) → Next ls k p ps
    go (inl h) = let z : [] ≡ p ∷ ps = sym (drop_of_length-le ls h) ∙ e in impossible cc
    go (inr h) =
        let z : get_or ls k [] ∷ drop (suc k) ls ≡ p ∷ ps = sym (drop-cons ls k [] h) ∙ e in
        record { in_ls = h; here = cc; behind = cc }

-- k lines are read, and `left` are left: the rows of the security are read, and no line is bad
pub record Sofar (id : ℕ) (ls left : List (List ℕ)) (k : ℕ) (rows : List (List ℤ)) : Type 0 where
  pub is : drop k ls ≡ left
  pub taken : RowsOf id (take k ls) rows
  pub all_good : (m : ℕ) → m ≤ k → Bad id ls m → ⊥
  pub few : length rows ≤ rows_most

pub none_yet : (id : ℕ) (ls left : List (List ℕ)) → ls ≡ left → Sofar id ls left 0 []
none_yet id ls left e = record { is = e; taken = no_line; all_good = λ m h b. first m h b; few = omega arith }
  where
    first : (m : ℕ) → m ≤ 0 → Bad id ls m → ⊥
    first m h (unended e g) = omega arith
    first m h (no_row e g) = omega arith
    first m h (seventeenth e f g) = omega arith

module _ (id : ℕ) (ls : List (List ℕ)) (p q : List ℕ) (ps : List (List ℕ)) (k : ℕ) (rows : List (List ℤ))
    (s : Sofar id ls (p ∷ q ∷ ps) k rows) where
  at_k : Next ls k p (q ∷ ps)
  at_k = next_of ls k p (q ∷ ps) s.is

  more_lines : suc k < length ls
  more_lines = (next_of ls (suc k) q ps at_k.behind).in_ls

  longer : take (suc k) ls ≡ take k ls ++ p ∷ []
  longer = take-suc ls k [] at_k.in_ls ∙ ap (λ (x : List ℕ). take k ls ++ x ∷ []) at_k.here

  -- a line that is a row of some security is not bad, if the security has room for it
  module _ {i : ℕ} {row : List ℤ} (e : Ended p i row) (room : i ≡ id → length rows < rows_most) where
    not_bad : Bad id ls (suc k) → ⊥
    not_bad (unended h g) = omega (arith, more_lines)
    not_bad (no_row h g) = g i row (rw at_k.here e)
    not_bad (seventeenth h f g) =
        let r : length rows < rows_most = room (reading_unique e (rw at_k.here at f)).0 in
        omega (arith, rows_count g s.taken)

    still_good : (m : ℕ) → m ≤ suc k → Bad id ls m → ⊥
    still_good m h b = go (le_or_lt m k)
      where
        go : (m ≤ k) ⊎ (k < m) → ⊥
        go (inl j) = s.all_good m j b
        go (inr j) = let z : m ≡ suc k = omega arith in not_bad (rw z at b)

  pub own_row : {row : List ℤ} → Ended p id row → length rows < rows_most
      → Sofar id ls (q ∷ ps) (suc k) (rows ++ row ∷ [])
  own_row {row} e h =
      record {
        is = at_k.behind;
        taken = rw longer (rows_own s.taken e);
        all_good = still_good e (λ z. h);
        few = rw (length-append rows (row ∷ [])) (omega arith);
      }

  pub other_row : {i : ℕ} {row : List ℤ} → Ended p i row → (i ≡ id → ⊥) → Sofar id ls (q ∷ ps) (suc k) rows
  other_row e n =
      record {
        is = at_k.behind;
        taken = rw longer (rows_other s.taken e n);
        all_good = still_good e (λ z. absurd (n z));
        few = s.few;
      }

  bad_no_row : ((i : ℕ) (row : List ℤ) → Ended p i row → ⊥) → Bad id ls (suc k)
  bad_no_row n = no_row more_lines (λ i row e. n i row (rw at_k.here at e))

  bad_seventeenth : {row : List ℤ} → Ended p id row → rows_most ≤ length rows → Bad id ls (suc k)
  bad_seventeenth {row} e h = seventeenth {row = row} more_lines (rw at_k.here e) (count_rows rows_most s.taken h)

-- ---- where the reading ends

module _ (id : ℕ) (t : List ℕ) (fits : length t ≤ text_most) (k : ℕ) (rows : List (List ℤ)) where
  abbrev all_lines : List (List ℕ)
  all_lines = pieces is_line_feed t

  first_bad : {left : List (List ℕ)} → Sofar id all_lines left k rows → Bad id all_lines (suc k)
      → Says id t (refused (suc k))
  first_bad s b = bad_at_lem fits b (λ m h c. s.all_good m (omega arith) c)

  module _ (p q : List ℕ) (ps : List (List ℕ)) (s : Sofar id all_lines (p ∷ q ∷ ps) k rows) where
    pub ends_no_row : ((i : ℕ) (row : List ℤ) → Ended p i row → ⊥) → Says id t (refused (suc k))
    ends_no_row n = first_bad s (bad_no_row id all_lines p q ps k rows s n)

    pub ends_seventeenth : {row : List ℤ} → Ended p id row → rows_most ≤ length rows → Says id t (refused (suc k))
    ends_seventeenth e h = first_bad s (bad_seventeenth id all_lines p q ps k rows s e h)

  module _ (p : List ℕ) (s : Sofar id all_lines (p ∷ []) k rows) where
    at_last : Next all_lines k p []
    at_last = next_of all_lines k p [] s.is

    last_number_lem : length all_lines ≡ suc k
    last_number_lem =
        let e : length all_lines - suc k ≡ 0 = sym (length-drop (suc k) all_lines) ∙ ap length at_last.behind in
        omega (arith, at_last.in_ls)

    pub ends_unended : 0 < length p → Says id t (refused (suc k))
    ends_unended h = first_bad s (unended last_number_lem (rw at_last.here h))

    none_bad : length p ≡ 0 → (m : ℕ) → Bad id all_lines m → ⊥
    none_bad h m b = go (le_or_lt m k)
      where
        after : (m : ℕ) → k < m → Bad id all_lines m → ⊥
        after m j (unended {k = n} e g) =
            let z : n ≡ k = omega (arith, last_number_lem) in
            omega (arith, ap length at_last.here, rw z at g)
        after m j (no_row e g) = omega (arith, last_number_lem)
        after m j (seventeenth e f g) = omega (arith, last_number_lem)

        go : (m ≤ k) ⊎ (k < m) → ⊥
        go (inl j) = s.all_good m j b
        go (inr j) = after m j b

    pub ends_good : length p ≡ 0 → Says id t (accepted rows)
    ends_good h =
        let z : length all_lines - 1 ≡ k = omega (arith, last_number_lem) in
        good {rows = rows} fits (none_bad h) (rw z s.taken)
