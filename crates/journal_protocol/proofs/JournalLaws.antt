-- A journal: every journal reads back, what is found in any bytes stands in front of them, and what is found where a
-- batch was cut off.
use mathlib.Core.Path.{◌≡◌, refl, sym, ap, subst, ◌∙◌}
use mathlib.Core.Bool.{Bool, true, false, ◌||◌, not}
use mathlib.Core.Logic.{◌⊎◌, inl, inr}
use mathlib.Core.List.{List, [], ◌∷◌, ◌++◌, map, append-nil, append_assoc}
use Prim.Native.Nat.{ℕ, suc, ◌+◌, ◌≤◌}
use native.Mathlib.Nat.{add-zero}
use native.Mathlib.Omega.{arith}
use lib.Dec.{eqb}
use lib.ListN.{length}
use borrow.Author.Tests.{eq-eqb, eqb-true}
use Rattle.paper.specs.Lists.{pick, every}
use Rattle.paper.proofs.Logic.{and_left, and_right, and_both, not_true_and_false}
use Rattle.text_bytes.specs.Bytes.{line_feed, is_line_feed, grow, pieces}
use Rattle.text_bytes.specs.Split.{Free, free_none}
use Rattle.text_bytes.proofs.Pieces.{pieces_none, pieces_more, pieces_some}
use Rattle.text_protocol.specs.Line.{longest}
use Rattle.journal_protocol.specs.Entries.{Entry, written, read_as, is_entry}
use Rattle.journal_protocol.specs.Journal.{journal_text, batch_at, entries_at, but_last, whole_lines, is_good, Found}
use Rattle.journal_protocol.specs.Journal.{with_entry, found_from, found_in, is_of_the_cut, line_texts}
use Rattle.journal_protocol.specs.Lines.{all_lines}
use Rattle.journal_protocol.specs.Recovery.{lines_of}
use Rattle.journal_protocol.specs.Holds.{Fitting, line, ReadsBack, is_of, leading, Ascending, no_entry}
use Rattle.journal_protocol.specs.Holds.{entry, last_batch}
use Rattle.journal_protocol.proofs.EntryLaws.{entry_back, entry_is_one, entry_was_written, entry_free}

-- ---- tests

pub or_left : (a b : Bool) → a ≡ true → (a || b) ≡ true
or_left a b h = rw h

pub or_right : (a b : Bool) → b ≡ true → (a || b) ≡ true
or_right true b h = refl
or_right false b h = h

pub or_other : (a b : Bool) → (a || b) ≡ true → a ≡ false → b ≡ true
or_other true b h k = absurd (not_true_and_false true refl k)
or_other false b h k = h

pub or_none_left : (a b : Bool) → (a || b) ≡ false → a ≡ false
or_none_left true b h = h
or_none_left false b h = refl

-- ---- lines that fit

pub fitting_free : {l : List ℕ} {ls : List (List ℕ)} → Fitting (l ∷ ls) → Free is_line_feed l
fitting_free (line f h r) = f

pub fitting_short : {l : List ℕ} {ls : List (List ℕ)} → Fitting (l ∷ ls) → length l ≤ longest
fitting_short (line f h r) = h

pub fitting_rest : {l : List ℕ} {ls : List (List ℕ)} → Fitting (l ∷ ls) → Fitting ls
fitting_rest (line f h r) = r

-- ---- the lines of a journal's bytes

pub feed : is_line_feed line_feed ≡ true
unfolding is_line_feed
feed = refl

but_last_more : (p : List ℕ) (ps : List (List ℕ)) → (ps ≡ [] → ⊥) → but_last (p ∷ ps) ≡ p ∷ but_last ps
unfolding but_last
but_last_more p [] h = absurd (h refl)
but_last_more p (q ∷ ps) h = refl

pub whole_more : (l t : List ℕ) → Free is_line_feed l → whole_lines (l ++ line_feed ∷ t) ≡ l ∷ whole_lines t
unfolding whole_lines
whole_more l t f =
    ap but_last (pieces_more is_line_feed t f feed)
    ∙ but_last_more l (pieces is_line_feed t) (λ e. pieces_some is_line_feed {A = ⊥} t e)

pub whole_none : (l : List ℕ) → Free is_line_feed l → whole_lines l ≡ []
unfolding whole_lines but_last
whole_none l f = ap but_last (pieces_none is_line_feed f)

pub journal_lines : (es : List Entry) (x : List ℕ) → Fitting (lines_of es)
    → whole_lines (journal_text es ++ x) ≡ map written es ++ whole_lines x
unfolding journal_text lines_of
journal_lines [] x f = refl
journal_lines (e ∷ es) x f =
    ap whole_lines (append_assoc (written e) (line_feed ∷ journal_text es) x)
    ∙ whole_more (written e) (journal_text es ++ x) (entry_free e (fitting_free f))
    ∙ ap (λ (ls : List (List ℕ)). written e ∷ ls) (journal_lines es x (fitting_rest f))

-- ---- batches ascend

pub ascending_head : {n b : ℕ} {e : Entry} {es : List Entry} → Ascending n b (e ∷ es)
    → (e.batch ≡ b) ⊎ (e.batch ≡ n)
ascending_head (entry h r) = h

pub ascending_rest : {n b : ℕ} {e : Entry} {es : List Entry} → Ascending n b (e ∷ es)
    → Ascending (suc n) e.batch es
ascending_rest (entry h r) = r

own_ascend : (n m : ℕ) (ls : List (List ℕ)) (rest : List Entry) → Ascending (m + length ls) n rest
    → Ascending m n (batch_at n ls ++ rest)
unfolding batch_at
own_ascend n m [] rest a = rw (add-zero m) at a
own_ascend n m (l ∷ ls) rest a =
    let same : m + suc (length ls) ≡ suc m + length ls = omega arith in
    entry (inl refl) (own_ascend n (suc m) ls rest (subst (λ (k : ℕ). Ascending k n rest) same a))

pub batches_ascend : (n b : ℕ) (bs : List (List (List ℕ))) → Ascending n b (entries_at n bs)
unfolding entries_at batch_at
batches_ascend n b [] = no_entry
batches_ascend n b ([] ∷ bs) = rw (add-zero n) (batches_ascend n b bs)
batches_ascend n b ((l ∷ ls) ∷ bs) =
    let same : n + suc (length ls) ≡ suc n + length ls = omega arith in
    entry (inr refl)
    (own_ascend n (suc n) ls (entries_at (n + suc (length ls)) bs)
    (subst (λ (k : ℕ). Ascending k n (entries_at (n + suc (length ls)) bs)) same
    (batches_ascend (n + suc (length ls)) n bs)))

-- no batch has a number above the place behind it
pub last_bound : (es : List Entry) (n b : ℕ) → Ascending n b es → b ≤ n → last_batch b es ≤ n + length es
unfolding last_batch
last_bound [] n b a h = omega arith
last_bound (e ∷ es) n b a h =
    let r : last_batch e.batch es ≤ suc n + length es =
    last_bound es (suc n) e.batch (ascending_rest a) (either (ascending_head a)) in
    omega arith
  where
    either : (e.batch ≡ b) ⊎ (e.batch ≡ n) → e.batch ≤ suc n
    either (inl p) = omega arith
    either (inr p) = omega arith

-- ---- what is found in them

-- entries more in front
abbrev pub on_top : List Entry → Found → Found
on_top es f = record { entries = es ++ f.entries; batch = f.batch; behind = f.behind }

good_there : (n b : ℕ) (e : Entry) → length e.line ≤ longest → (e.batch ≡ b) ⊎ (e.batch ≡ n)
    → is_good n b (written e) ≡ true
unfolding is_good
good_there n b e s h =
    rw (entry_back e)
    (and_both (is_entry (written e)) (eqb e.batch b || eqb e.batch n) (entry_is_one e s) (either h))
  where
    either : (e.batch ≡ b) ⊎ (e.batch ≡ n) → (eqb e.batch b || eqb e.batch n) ≡ true
    either (inl p) = or_left (eqb e.batch b) (eqb e.batch n) (eq-eqb e.batch b p)
    either (inr p) = or_right (eqb e.batch b) (eqb e.batch n) (eq-eqb e.batch n p)

pub found_on : (n b : ℕ) (es : List Entry) (ls : List (List ℕ)) → Ascending n b es → Fitting (lines_of es)
    → found_from n b (map written es ++ ls) ≡ on_top es (found_from (n + length es) (last_batch b es) ls)
unfolding last_batch lines_of found_from
found_on n b [] ls a f = rw (add-zero n)
found_on n b (e ∷ es) ls a f =
    let same : suc n + length es ≡ n + suc (length es) = omega arith in
    rw (good_there n b e (fitting_short f) (ascending_head a), entry_back e)
    (ap (with_entry e) (found_on (suc n) e.batch es ls (ascending_rest a) (fitting_rest f))
    ∙ ap (λ (k : ℕ). on_top (e ∷ es) (found_from k (last_batch e.batch es) ls)) same)

-- WHAT IS FOUND IN A JOURNAL'S BYTES AND ANY BYTES BEHIND THEM
pub found_behind : (es : List Entry) (x : List ℕ) → Ascending 1 1 es → Fitting (lines_of es)
    → found_in (journal_text es ++ x) ≡ on_top es (found_from (1 + length es) (last_batch 1 es) (whole_lines x))
unfolding found_in
found_behind es x a f = ap (found_from 1 1) (journal_lines es x f) ∙ found_on 1 1 es (whole_lines x) a f

-- ---- the lines of entries

pub lines_append : (es fs : List Entry) → lines_of (es ++ fs) ≡ lines_of es ++ lines_of fs
unfolding lines_of
lines_append [] fs = refl
lines_append (e ∷ es) fs = ap (λ (ls : List (List ℕ)). e.line ∷ ls) (lines_append es fs)

pub batch_lines : (n : ℕ) (ls : List (List ℕ)) → lines_of (batch_at n ls) ≡ ls
unfolding lines_of batch_at
batch_lines n [] = refl
batch_lines n (l ∷ ls) = ap (λ (ms : List (List ℕ)). l ∷ ms) (batch_lines n ls)

pub entries_lines : (n : ℕ) (bs : List (List (List ℕ))) → lines_of (entries_at n bs) ≡ all_lines bs
unfolding entries_at all_lines lines_of
entries_lines n [] = refl
entries_lines n (b ∷ bs) =
    lines_append (batch_at n b) (entries_at (n + length b) bs)
    ∙ ap (λ (ls : List (List ℕ)). ls ++ lines_of (entries_at (n + length b) bs)) (batch_lines n b)
    ∙ ap (λ (ls : List (List ℕ)). b ++ ls) (entries_lines (n + length b) bs)

-- ---- EVERY JOURNAL READS BACK

pub reads_back : (batches : List (List (List ℕ))) → Fitting (all_lines batches) → ReadsBack batches
unfolding found_from
reads_back batches f =
    let es : List Entry = entries_at 1 batches in
    let fits : Fitting (lines_of es) = rw (entries_lines 1 batches) f in
    let found : found_in (journal_text es ++ []) ≡ on_top es (found_from (1 + length es) (last_batch 1 es) (whole_lines [])) =
    found_behind es [] (batches_ascend 1 1 batches) fits in
    let none : found_in (journal_text es) ≡ on_top es (found_from (1 + length es) (last_batch 1 es) []) =
    ap found_in (sym (append-nil (journal_text es))) ∙ found
    ∙ ap (λ (ls : List (List ℕ)). on_top es (found_from (1 + length es) (last_batch 1 es) ls)) (whole_none [] free_none) in
    record {
      entries = ap (λ (f : Found). f.entries) none ∙ append-nil es;
      behind = ap (λ (f : Found). f.behind) none;
    }

-- ---- what is found stands in front of the bytes

-- bytes are their whole lines, and what no line feed ends
pub record Ends (ls : List (List ℕ)) (bytes : List ℕ) : Type 0 where
  pub behind : List ℕ
  pub is : bytes ≡ line_texts ls ++ behind

byte_more : (b : ℕ) (ps : List (List ℕ)) (t : List ℕ) → Ends (but_last ps) t → Ends (but_last (grow b ps)) (b ∷ t)
unfolding grow but_last line_texts
byte_more b [] t r = record { behind = b ∷ t; is = refl }
byte_more b (p ∷ []) t r = record { behind = b ∷ t; is = refl }
byte_more b (p ∷ q ∷ ps) t r = record { behind = r.behind; is = ap (λ (u : List ℕ). b ∷ u) r.is }

pub whole_front : (bytes : List ℕ) → Ends (whole_lines bytes) bytes
unfolding whole_lines pieces but_last line_texts is_line_feed
whole_front [] = record { behind = []; is = refl }
whole_front (b ∷ t) = go (is_line_feed b) refl (whole_front t)
  where
    go : (x : Bool) → is_line_feed b ≡ x → Ends (but_last (pieces is_line_feed t)) t
        → Ends (but_last (pick x ([] ∷ pieces is_line_feed t) (grow b (pieces is_line_feed t)))) (b ∷ t)
    go true h r =
        rw (but_last_more [] (pieces is_line_feed t) (λ e. pieces_some is_line_feed {A = ⊥} t e))
        (record { behind = r.behind; is = rw (eqb-true b line_feed h) (ap (λ (u : List ℕ). line_feed ∷ u) r.is) })
    go false h r = byte_more b (pieces is_line_feed t) t r

found_front : (n b : ℕ) (ls : List (List ℕ))
    → line_texts ls ≡ journal_text (found_from n b ls).entries ++ line_texts (found_from n b ls).behind
unfolding line_texts journal_text found_from is_good
found_front n b [] = refl
found_front n b (l ∷ ls) = go (is_good n b l) refl (found_front (suc n) (read_as l).batch ls)
  where
    rest : Found
    rest = found_from (suc n) (read_as l).batch ls

    none : Found
    none = record { entries = []; batch = b; behind = l ∷ ls }

    go : (x : Bool) → is_good n b l ≡ x → line_texts ls ≡ journal_text rest.entries ++ line_texts rest.behind
        → l ++ line_feed ∷ line_texts ls
        ≡ journal_text (pick x (with_entry (read_as l) rest) none).entries
        ++ line_texts (pick x (with_entry (read_as l) rest) none).behind
    go true h r =
        let w : l ≡ written (read_as l) =
        entry_was_written l
        (and_left (is_entry l) (eqb (read_as l).batch b || eqb (read_as l).batch n) h) in
        ap (λ (u : List ℕ). l ++ line_feed ∷ u) r
        ∙ ap (λ (u : List ℕ). u ++ line_feed ∷ (journal_text rest.entries ++ line_texts rest.behind)) w
        ∙ sym (append_assoc (written (read_as l)) (line_feed ∷ journal_text rest.entries) (line_texts rest.behind))
    go false h r = refl

-- WHAT IS FOUND IN ANY BYTES STANDS IN FRONT OF THEM
pub record Front (es : List Entry) (bytes : List ℕ) : Type 0 where
  pub behind : List ℕ
  pub is : bytes ≡ journal_text es ++ behind

pub found_stands : (bytes : List ℕ) → Front (found_in bytes).entries bytes
unfolding found_in
found_stands bytes =
    let r : Ends (whole_lines bytes) bytes = whole_front bytes in
    record {
      behind = line_texts (found_from 1 1 (whole_lines bytes)).behind ++ r.behind;
      is =
          r.is
          ∙ ap (λ (u : List ℕ). u ++ r.behind) (found_front 1 1 (whole_lines bytes))
          ∙ append_assoc (journal_text (found_from 1 1 (whole_lines bytes)).entries)
          (line_texts (found_from 1 1 (whole_lines bytes)).behind) r.behind;
    }

-- ---- what is found where a batch was cut off

own_batch : (n : ℕ) (l : List ℕ) → is_of n l ≡ true → is_entry l ≡ true → (read_as l).batch ≡ n
unfolding is_of
own_batch n l h e =
    eqb-true (read_as l).batch n
    (or_other (not (is_entry l)) (eqb (read_as l).batch n) h (rw e))

module _ (n : ℕ) where
  own_good : (m b : ℕ) (l : List ℕ) → is_of n l ≡ true → (n ≡ b) ⊎ (n ≡ m) → is_entry l ≡ true → is_good m b l ≡ true
  unfolding is_good
  own_good m b l h at e =
      and_both (is_entry l) (eqb (read_as l).batch b || eqb (read_as l).batch m) e (either at)
    where
      is : (read_as l).batch ≡ n
      is = own_batch n l h e

      either : (n ≡ b) ⊎ (n ≡ m) → (eqb (read_as l).batch b || eqb (read_as l).batch m) ≡ true
      either (inl p) =
          or_left (eqb (read_as l).batch b) (eqb (read_as l).batch m) (eq-eqb (read_as l).batch b (is ∙ p))
      either (inr p) =
          or_right (eqb (read_as l).batch b) (eqb (read_as l).batch m) (eq-eqb (read_as l).batch m (is ∙ p))

  none_good : (m b : ℕ) (l : List ℕ) → is_entry l ≡ false → is_good m b l ≡ false
  unfolding is_good
  none_good m b l e = rw e

  -- the entries in front are all of them, of that batch
  pub own_entries : (m b : ℕ) (ls : List (List ℕ)) → every (is_of n) ls ≡ true → (n ≡ b) ⊎ (n ≡ m)
      → (found_from m b ls).entries ≡ leading ls
  unfolding found_from leading every
  own_entries m b [] h at = refl
  own_entries m b (l ∷ ls) h at =
      go (is_entry l) refl
      (λ k. own_entries (suc m) (read_as l).batch ls (and_right (is_of n l) (every (is_of n) ls) h) (inl k))
    where
      own : is_of n l ≡ true
      own = and_left (is_of n l) (every (is_of n) ls) h

      go : (x : Bool) → is_entry l ≡ x
          → (n ≡ (read_as l).batch → (found_from (suc m) (read_as l).batch ls).entries ≡ leading ls)
          → (pick (is_good m b l) (with_entry (read_as l) (found_from (suc m) (read_as l).batch ls))
          (record { entries = []; batch = b; behind = l ∷ ls })).entries
          ≡ pick x (read_as l ∷ leading ls) []
      go true e r =
          rw (own_good m b l own at e) (ap (λ (es : List Entry). read_as l ∷ es) (r (sym (own_batch n l own e))))
      go false e r = rw (none_good m b l e)

  -- the batch stays that batch
  own_stays : (m b : ℕ) (ls : List (List ℕ)) → every (is_of n) ls ≡ true → n ≡ b → n ≡ (found_from m b ls).batch
  unfolding found_from every
  own_stays m b [] h at = at
  own_stays m b (l ∷ ls) h at =
      go (is_entry l) refl
      (λ k. own_stays (suc m) (read_as l).batch ls (and_right (is_of n l) (every (is_of n) ls) h) k)
    where
      own : is_of n l ≡ true
      own = and_left (is_of n l) (every (is_of n) ls) h

      go : (x : Bool) → is_entry l ≡ x → (n ≡ (read_as l).batch → n ≡ (found_from (suc m) (read_as l).batch ls).batch)
          → n
          ≡ (pick (is_good m b l) (with_entry (read_as l) (found_from (suc m) (read_as l).batch ls))
          (record { entries = []; batch = b; behind = l ∷ ls })).batch
      go true e r = rw (own_good m b l own (inl at) e) (r (sym (own_batch n l own e)))
      go false e r = rw (none_good m b l e) at

  -- or no entry is in front
  pub own_or_none : (m b : ℕ) (ls : List (List ℕ)) → every (is_of n) ls ≡ true → (n ≡ b) ⊎ (n ≡ m)
      → (n ≡ (found_from m b ls).batch) ⊎ (leading ls ≡ [])
  unfolding found_from leading every
  own_or_none m b [] h at = inr refl
  own_or_none m b (l ∷ ls) h at = go (is_entry l) refl
    where
      own : is_of n l ≡ true
      own = and_left (is_of n l) (every (is_of n) ls) h

      go : (x : Bool) → is_entry l ≡ x
          → (n
          ≡ (pick (is_good m b l) (with_entry (read_as l) (found_from (suc m) (read_as l).batch ls))
          (record { entries = []; batch = b; behind = l ∷ ls })).batch)
          ⊎ (pick x (read_as l ∷ leading ls) [] ≡ [])
      go true e =
          inl (rw (own_good m b l own at e)
          (own_stays (suc m) (read_as l).batch ls (and_right (is_of n l) (every (is_of n) ls) h)
          (sym (own_batch n l own e))))
      go false e = inr refl

-- what passes of all lines passes of those behind
pub behind_passes : (p : List ℕ → Bool) (n b : ℕ) (ls : List (List ℕ)) → every p ls ≡ true
    → every p (found_from n b ls).behind ≡ true
unfolding found_from every
behind_passes p n b [] h = refl
behind_passes p n b (l ∷ ls) h =
    go (is_good n b l) (behind_passes p (suc n) (read_as l).batch ls (and_right (p l) (every p ls) h))
  where
    go : (x : Bool) → every p (found_from (suc n) (read_as l).batch ls).behind ≡ true
        → every p
        (pick x (with_entry (read_as l) (found_from (suc n) (read_as l).batch ls))
        (record { entries = []; batch = b; behind = l ∷ ls })).behind ≡ true
    go true r = r
    go false r = h

-- lines of the batch of the last entry, or of the one that begins behind it, are of the cut
one_of_the_cut : (f : Found) (n : ℕ) (l : List ℕ) → (n ≡ f.batch) ⊎ (n ≡ suc (length f.entries))
    → is_of n l ≡ true → is_of_the_cut f l ≡ true
unfolding is_of_the_cut is_of
one_of_the_cut f n l at h = go (not (is_entry l)) h
  where
    either : (n ≡ f.batch) ⊎ (n ≡ suc (length f.entries)) → eqb (read_as l).batch n ≡ true
        → (eqb (read_as l).batch f.batch || eqb (read_as l).batch (suc (length f.entries))) ≡ true
    either (inl p) k =
        or_left (eqb (read_as l).batch f.batch) (eqb (read_as l).batch (suc (length f.entries))) (rw (← p) k)
    either (inr p) k =
        or_right (eqb (read_as l).batch f.batch) (eqb (read_as l).batch (suc (length f.entries))) (rw (← p) k)

    go : (x : Bool) → (x || eqb (read_as l).batch n) ≡ true
        → (x || (eqb (read_as l).batch f.batch || eqb (read_as l).batch (suc (length f.entries)))) ≡ true
    go true k = refl
    go false k = either at k

pub all_of_the_cut : (f : Found) (n : ℕ) (ls : List (List ℕ)) → (n ≡ f.batch) ⊎ (n ≡ suc (length f.entries))
    → every (is_of n) ls ≡ true → every (is_of_the_cut f) ls ≡ true
unfolding every
all_of_the_cut f n [] at h = refl
all_of_the_cut f n (l ∷ ls) at h =
    and_both (is_of_the_cut f l) (every (is_of_the_cut f) ls)
    (one_of_the_cut f n l at (and_left (is_of n l) (every (is_of n) ls) h))
    (all_of_the_cut f n ls at (and_right (is_of n l) (every (is_of n) ls) h))
