-- Recovery: whatever stands where the last batch was to be written, the desk is the one after all lines of the batches
-- before it and a front of the last; and damage before that is told, with its place.
use mathlib.Core.Path.{◌≡◌, refl, sym, ap, subst, ◌∙◌}
use mathlib.Core.Bool.{Bool, true, false, ◌&&◌, ◌||◌, not}
use mathlib.Core.Logic.{◌⊎◌, inl, inr}
use mathlib.Core.List.{List, [], ◌∷◌, ◌++◌, append-nil}
use Prim.Native.Nat.{ℕ, zero, suc, ◌+◌, ◌-◌, ◌≤◌, ◌<◌}
use native.Mathlib.Omega.{arith}
use lib.Dec.{ltb}
use lib.ListN.{length, take, length-append}
use lib.Seq.{take-append-le, take-append-add}
use borrow.Author.Tests.{le-ltb, ne_eqb, eq-eqb}
use Rattle.paper.specs.Lists.{every}
use Rattle.paper.proofs.Logic.{and_both, le_or_lt}
use Rattle.text_bytes.specs.Bytes.{line_feed, is_line_feed}
use Rattle.text_bytes.specs.Split.{Free, free_none, free, AllFree}
use Rattle.text_protocol.specs.Line.{longest}
use Rattle.text_evening.specs.Evening.{Evening, after_all}
use Rattle.journal_protocol.specs.Entries.{Entry, written, is_entry}
use Rattle.journal_protocol.specs.Journal.{journal_text, batch_at, whole_lines, Found, found_from}
use Rattle.journal_protocol.specs.Journal.{found_in, is_of_the_cut}
use Rattle.journal_protocol.specs.Lines.{kept_of, kept_batches, all_lines}
use Rattle.journal_protocol.specs.Recovery.{lines_of, kept_again_of, served, damaged_behind, performed}
use Rattle.journal_protocol.specs.Recovery.{recovered}
use Rattle.journal_protocol.specs.Holds.{SameDesk, Fitting, is_of, leading, Torn, entries_of, RecoveredTo}
use Rattle.journal_protocol.specs.Holds.{TornRecovered, Ascending, last_batch, Damage, DamageTold}
use Rattle.journal_protocol.proofs.EntryLaws.{entry_back, entry_is_one, entry_free}
use Rattle.journal_protocol.proofs.JournalLaws.{fitting_free, fitting_short, fitting_rest, whole_more}
use Rattle.journal_protocol.proofs.JournalLaws.{whole_none, batches_ascend, last_bound, on_top, found_behind}
use Rattle.journal_protocol.proofs.JournalLaws.{lines_append, batch_lines, entries_lines, Front, found_stands}
use Rattle.journal_protocol.proofs.JournalLaws.{own_entries, own_or_none, behind_passes, all_of_the_cut}
use Rattle.journal_protocol.proofs.KeptLaws.{same_desk_self, kept_lead, kept_again, kept_append, kept_by_batch}
use Rattle.journal_protocol.proofs.KeptLaws.{FrontOf, kept_front, kept_fit}

-- ---- entries that are performed

lines_length : (es : List Entry) → length (lines_of es) ≡ length es
unfolding lines_of
lines_length [] = refl
lines_length (e ∷ es) = ap suc (lines_length es)

-- where entries have the kept lines of an evening, each would be kept again
all_again : (es : List Entry) (ls : List (List ℕ)) (e : Evening) → lines_of es ≡ kept_of ls e
    → kept_again_of (lines_of es) e ≡ length es
all_again es ls e is =
    ap (λ (ks : List (List ℕ)). kept_again_of ks e) is
    ∙ kept_again ls e e (same_desk_self e)
    ∙ ap length (sym is)
    ∙ lines_length es

not_below : (n : ℕ) → ltb n n ≡ false
not_below n = le-ltb n n (omega arith)

serves_found : (bytes : List ℕ) (f : Found) (e : Evening) → kept_again_of (lines_of f.entries) e ≡ length f.entries
    → every (is_of_the_cut f) f.behind ≡ true
    → performed bytes f e
    ≡ served (after_all (lines_of f.entries) e) f.entries (length bytes - length (journal_text f.entries))
unfolding performed
serves_found bytes f e k h = rw (k, not_below (length f.entries), h)

tells_found : (bytes : List ℕ) (f : Found) (e : Evening) → kept_again_of (lines_of f.entries) e ≡ length f.entries
    → every (is_of_the_cut f) f.behind ≡ false
    → performed bytes f e ≡ damaged_behind f.entries
unfolding performed
tells_found bytes f e k h = rw (k, not_below (length f.entries), h)

-- WHERE WHAT IS FOUND IS THE KEPT LINES OF LINES, and what is behind may be of the cut, the desk is theirs
recovers_to : (bytes : List ℕ) (ls : List (List ℕ)) (start : Evening)
    → lines_of (found_in bytes).entries ≡ kept_of ls start
    → every (is_of_the_cut (found_in bytes)) (found_in bytes).behind ≡ true → RecoveredTo ls start bytes
unfolding recovered
recovers_to bytes ls start is cut =
    let es : List Entry = (found_in bytes).entries in
    let stands : Front es bytes = found_stands bytes in
    record {
      evening = after_all (lines_of es) start;
      entries = es;
      cut = length bytes - length (journal_text es);
      serves = serves_found bytes (found_in bytes) start (all_again es ls start is) cut;
      desk =
          subst (λ (ks : List (List ℕ)). SameDesk (after_all ks start) (after_all ls start)) (sym is)
          (kept_lead ls start start (same_desk_self start));
      stay = is;
      behind = stands.behind;
      front = stands.is;
      cut_is = left_over (length (journal_text es)) stands.behind (journal_text es) bytes refl stands.is;
    }
  where
    left_over : (n : ℕ) (behind front bytes : List ℕ) → length front ≡ n → bytes ≡ front ++ behind
        → length bytes - n ≡ length behind
    left_over n behind front bytes h e =
        let l : length bytes ≡ length front + length behind = ap length e ∙ length-append front behind in
        omega arith

-- ---- a write that was cut off

module _ (heard : List (List (List ℕ))) (last : List (List ℕ)) (start : Evening) (torn : List ℕ)
    (free-heard : AllFree is_line_feed (all_lines heard))
    (t : Torn (suc (length (entries_of heard start))) (kept_of last (after_all (all_lines heard) start)) torn) where
  abbrev before : List Entry
  before = entries_of heard start

  abbrev n : ℕ
  n = suc (length before)

  abbrev batch : List (List ℕ)
  batch = kept_of last (after_all (all_lines heard) start)

  before_lines : lines_of before ≡ kept_of (all_lines heard) start
  before_lines = entries_lines 1 (kept_batches heard start) ∙ kept_by_batch heard start

  before_fit : Fitting (lines_of before)
  before_fit = rw before_lines (kept_fit (all_lines heard) start free-heard)

  abbrev rest : Found
  rest = found_from n (last_batch 1 before) (whole_lines torn)

  found_is : found_in (journal_text before ++ torn) ≡ on_top before rest
  found_is =
      let same : 1 + length before ≡ n = omega arith in
      found_behind before torn (batches_ascend 1 1 (kept_batches heard start)) before_fit
      ∙ ap (λ (k : ℕ). on_top before (found_from k (last_batch 1 before) (whole_lines torn))) same

  rest_entries : rest.entries ≡ batch_at n (take t.count batch)
  rest_entries = own_entries n n (last_batch 1 before) (whole_lines torn) t.own (inr refl) ∙ t.first

  -- the lines that it is recovered to
  front : FrontOf last (after_all (all_lines heard) start) t.count
  front = kept_front last (after_all (all_lines heard) start) t.count

  found_lines : lines_of (before ++ rest.entries) ≡ kept_of (all_lines heard ++ take front.count last) start
  found_lines =
      lines_append before rest.entries
      ∙ ap (λ (ls : List (List ℕ)). ls ++ lines_of rest.entries) before_lines
      ∙ ap (λ (ls : List (List ℕ)). kept_of (all_lines heard) start ++ ls)
      (ap lines_of rest_entries ∙ batch_lines n (take t.count batch) ∙ sym front.is)
      ∙ sym (kept_append (all_lines heard) (take front.count last) start)

  -- the batch is the last one, or the one that begins behind the entries
  of_last : (n ≡ rest.batch) ⊎ (leading (whole_lines torn) ≡ [])
      → (n ≡ (on_top before rest).batch) ⊎ (n ≡ suc (length (on_top before rest).entries))
  of_last (inl p) = inl p
  of_last (inr p) =
      let none : rest.entries ≡ [] =
      own_entries n n (last_batch 1 before) (whole_lines torn) t.own (inr refl) ∙ p in
      inr
      (ap (λ (fs : List Entry). suc (length fs))
      (sym (append-nil before) ∙ ap (λ (fs : List Entry). before ++ fs) (sym none)))

  cut_off : every (is_of_the_cut (on_top before rest)) rest.behind ≡ true
  cut_off =
      all_of_the_cut (on_top before rest) n rest.behind
      (of_last (own_or_none n n (last_batch 1 before) (whole_lines torn) t.own (inr refl)))
      (behind_passes (is_of n) n (last_batch 1 before) (whole_lines torn) t.own)

  -- THE LAST BATCH MAY BE ANY BYTES
  pub torn_recovered : TornRecovered heard last start torn
  torn_recovered =
      record {
        count = front.count;
        recovers =
            recovers_to (journal_text before ++ torn) (all_lines heard ++ take front.count last) start
            (ap (λ (f : Found). lines_of f.entries) found_is ∙ found_lines)
            (subst (λ (f : Found). every (is_of_the_cut f) f.behind ≡ true) (sym found_is) cut_off);
      }

-- ---- a cut is no forged sum

free_take : {l : List ℕ} (m : ℕ) → Free is_line_feed l → Free is_line_feed (take m l)
free_take zero f = free_none
free_take (suc m) free_none = free_none
free_take (suc m) (free h f) = free h (free_take m f)

own_entry : (n : ℕ) (l : List ℕ) → is_of n (written (record { batch = n; line = l })) ≡ true
unfolding is_of
own_entry n l =
    rw (entry_back (record { batch = n; line = l }), eq-eqb n n refl)
    (go (not (is_entry (written (record { batch = n; line = l })))))
  where
    go : (x : Bool) → (x || true) ≡ true
    go true = refl
    go false = refl

none_torn : (n : ℕ) (batch : List (List ℕ)) (torn : List ℕ) → whole_lines torn ≡ [] → Torn n batch torn
unfolding every leading batch_at
none_torn n batch torn h = record { own = rw h; count = 0; first = rw h }

cut_within : (n : ℕ) (l : List ℕ) (ls : List (List ℕ)) (m : ℕ) → Fitting (l ∷ ls)
    → ((k : ℕ) → Torn n ls (take k (journal_text (batch_at n ls))))
    → (m ≤ length (written (record { batch = n; line = l }))) ⊎ (length (written (record { batch = n; line = l })) < m)
    → Torn n (l ∷ ls) (take m (written (record { batch = n; line = l }) ++ line_feed ∷ journal_text (batch_at n ls)))
unfolding every leading batch_at
cut_within n l ls m f rest (inl h) =
    let e : Entry = record { batch = n; line = l } in
    none_torn n (l ∷ ls) _
    (ap whole_lines (take-append-le m (written e) (line_feed ∷ journal_text (batch_at n ls)) h)
    ∙ whole_none (take m (written e)) (free_take m (entry_free e (fitting_free f))))
cut_within n l ls m f rest (inr h) =
    let e : Entry = record { batch = n; line = l } in
    let k : ℕ = m - suc (length (written e)) in
    let sum : m ≡ length (written e) + suc k = omega arith in
    let r : Torn n ls (take k (journal_text (batch_at n ls))) = rest k in
    let whole : whole_lines (take m (written e ++ line_feed ∷ journal_text (batch_at n ls)))
    ≡ written e ∷ whole_lines (take k (journal_text (batch_at n ls))) =
    ap (λ (j : ℕ). whole_lines (take j (written e ++ line_feed ∷ journal_text (batch_at n ls)))) sum
    ∙ ap whole_lines (take-append-add (written e) (line_feed ∷ journal_text (batch_at n ls)) (suc k))
    ∙ whole_more (written e) (take k (journal_text (batch_at n ls))) (entry_free e (fitting_free f)) in
    record {
      own =
          rw whole
          (and_both (is_of n (written e)) (every (is_of n) (whole_lines (take k (journal_text (batch_at n ls)))))
          (own_entry n l) r.own);
      count = suc r.count;
      first =
          rw (whole, entry_is_one e (fitting_short f), entry_back e) (ap (λ (es : List Entry). e ∷ es) r.first);
    }

-- A CUT AT ANY BYTE OF THE LAST BATCH IS SUCH BYTES: no sum need be trusted
pub cut_is_torn : (n : ℕ) (batch : List (List ℕ)) → Fitting batch → (m : ℕ)
    → Torn n batch (take m (journal_text (batch_at n batch)))
unfolding journal_text batch_at
cut_is_torn n [] f m = none_torn n [] (take m []) (nothing_whole m)
  where
    nothing_whole : (m : ℕ) → whole_lines (take m []) ≡ []
    nothing_whole zero = whole_none [] free_none
    nothing_whole (suc m) = whole_none [] free_none
cut_is_torn n (l ∷ ls) f m =
    cut_within n l ls m f (λ k. cut_is_torn n ls (fitting_rest f) k)
    (le_or_lt m (length (written (record { batch = n; line = l }))))

-- ---- damage

fails_at : (p : List ℕ → Bool) (xs : List (List ℕ)) (y : List ℕ) (ys : List (List ℕ)) → p y ≡ false
    → every p (xs ++ y ∷ ys) ≡ false
unfolding every
fails_at p [] y ys h = rw h
fails_at p (x ∷ xs) y ys h = go (p x) (fails_at p xs y ys h)
  where
    go : (b : Bool) → every p (xs ++ y ∷ ys) ≡ false → (b && every p (xs ++ y ∷ ys)) ≡ false
    go true r = r
    go false r = refl

later_fails : (f : Found) (e : Entry) → length e.line ≤ longest → f.batch < e.batch
    → suc (length f.entries) < e.batch → is_of_the_cut f (written e) ≡ false
unfolding is_of_the_cut
later_fails f e s h k =
    rw (
      entry_is_one e s,
      entry_back e,
      ne_eqb e.batch f.batch (λ q. below f.batch e.batch h q),
      ne_eqb e.batch (suc (length f.entries)) (λ q. below (suc (length f.entries)) e.batch k q),
    )
  where
    below : (a b : ℕ) → a < b → b ≡ a → ⊥
    below a b h q = omega arith

-- DAMAGE BEFORE A LATER BATCH IS TOLD, with its place
pub damage_told : (es : List Entry) (ls : List (List ℕ)) (start : Evening) (bytes : List ℕ)
    → Ascending 1 1 es → AllFree is_line_feed ls → lines_of es ≡ kept_of ls start → Damage es bytes
    → DamageTold es start bytes
unfolding recovered found_from
damage_told es ls start bytes up unfed is d =
    let n : ℕ = suc (length es) in
    let same : 1 + length es ≡ n = omega arith in
    let b : ℕ = last_batch 1 es in
    let bound : b ≤ 1 + length es = last_bound es 1 1 up (omega arith) in
    let behind : List (List ℕ) = d.bad ∷ (d.between ++ written d.later ∷ d.behind) in
    let f : Found = record { entries = es; batch = b; behind = behind } in
    let found : found_in (journal_text es ++ bytes) ≡ on_top es (found_from n b (whole_lines bytes)) =
    found_behind es bytes up (rw is (kept_fit ls start unfed))
    ∙ ap (λ (k : ℕ). on_top es (found_from k b (whole_lines bytes))) same in
    let stops : found_from n b (whole_lines bytes)
    ≡ record { entries = []; batch = b; behind = behind } =
    rw (d.stands, d.is_bad_lem) in
    let all : found_in (journal_text es ++ bytes) ≡ f =
    found ∙ ap (on_top es) stops
    ∙ ap (λ (fs : List Entry). record { entries = fs; batch = b; behind = behind }) (append-nil es) in
    ap (λ (g : Found). performed (journal_text es ++ bytes) g start) all
    ∙ tells_found (journal_text es ++ bytes) f start (all_again es ls start is)
    (fails_at (is_of_the_cut f) (d.bad ∷ d.between) (written d.later) d.behind
    (later_fails f d.later d.short (omega (arith, d.is_later)) d.is_later))
