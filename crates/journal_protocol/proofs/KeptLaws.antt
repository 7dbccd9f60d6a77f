-- The kept lines: alone they lead to the same desk as all lines, each of them would be kept again, a front of them is
-- what is kept of a front of the lines, and an entry can have each.
use mathlib.Core.Path.{◌≡◌, refl, sym, ap, ◌∙◌}
use mathlib.Core.Bool.{Bool, true, false, ◌&&◌}
use mathlib.Core.Logic.{◌⊎◌, inl, inr}
use mathlib.Core.List.{List, [], ◌∷◌, ◌++◌}
use Prim.Native.Nat.{ℕ, zero, suc, ◌≤◌, ◌<◌}
use lib.ListN.{length, take}
use lib.Seq.{take-nil}
use borrow.Author.Tests.{leb-true}
use Rattle.paper.specs.declared.Record.{Record}
use Rattle.paper.specs.Lists.{pick}
use Rattle.paper.specs.Verdicts.{is_done}
use Rattle.paper.proofs.Logic.{pick_false, not_true_and_false, le_or_lt}
use Rattle.paper_desk.specs.Desk.{evaluating, quoting, moving, reading, opening, receiving, Call, admit, about, step}
use Rattle.paper_desk.proofs.Refusals.{refused_leaves}
use Rattle.paper_desk.proofs.PinnedLaws.{read_writes_nothing}
use Rattle.paper_interest.specs.Interest.{interest_answer}
use Rattle.text_bytes.specs.Bytes.{is_line_feed, same, bytes}
use Rattle.text_bytes.specs.Split.{Free, AllFree, piece}
use Rattle.text_protocol.specs.declared.Kept.{Kept}
use Rattle.text_protocol.specs.Kept.{kept_after}
use Rattle.text_protocol.specs.Line.{longest}
use Rattle.text_protocol.specs.Calls.{Deed, nothing, no_call, call, interest, bond, deed_of}
use Rattle.text_protocol.proofs.Silence.{long_line_is_no_call}
use Rattle.text_evening.specs.declared.Telling.{Telling}
use Rattle.text_evening.specs.declared.Telling.TheVariants.{Answers, Reasons, Messages}
use Rattle.text_evening.specs.Evening.{Evening, table_after, kept_by, call_told, text_of, asked_by, after, answer, after_all}
use Rattle.journal_protocol.specs.Lines.{reads_only, may_change, changes, closed_line, is_kept, kept_of, kept_batches}
use Rattle.journal_protocol.specs.Lines.{all_lines}
use Rattle.journal_protocol.specs.Recovery.{kept_again_of}
use Rattle.journal_protocol.specs.Holds.{SameDesk, Fitting, no_line, line}
use Rattle.journal_protocol.proofs.EntryLaws.{same_is}
use Rattle.journal_protocol.proofs.JournalLaws.{or_other, or_none_left}

-- ---- a line that is not kept leaves the desk

only_reads : (c : Call) (t : List Record) → may_change c ≡ false → (step c t).table ≡ t
unfolding may_change reads_only
only_reads (admit a) t h = absurd (not_true_and_false true refl h)
only_reads (about id (evaluating d rows)) t h = absurd (not_true_and_false true refl h)
only_reads (about id (quoting q)) t h = absurd (not_true_and_false true refl h)
only_reads (about id (moving side)) t h = absurd (not_true_and_false true refl h)
only_reads (about id reading) t h = read_writes_nothing id t
only_reads (about id opening) t h = absurd (not_true_and_false true refl h)
only_reads (about id (receiving x)) t h = absurd (not_true_and_false true refl h)

call_leaves : (c : Call) (t : List Record) → (may_change c && is_done (step c t).answer.verdict) ≡ false
    → (step c t).table ≡ t
call_leaves c t h = go (may_change c) refl h
  where
    go : (x : Bool) → may_change c ≡ x → (x && is_done (step c t).answer.verdict) ≡ false → (step c t).table ≡ t
    go true e k = (refused_leaves c t k).0
    go false e k = only_reads c t e

deed_leaves_table : (d : Deed) (t : List Record) → changes d t ≡ false → table_after d t ≡ t
unfolding changes table_after
deed_leaves_table nothing t h = refl
deed_leaves_table no_call t h = refl
deed_leaves_table (call c) t h = call_leaves c t h
deed_leaves_table (interest i keys) t h = refl
deed_leaves_table (bond b flows) t h = refl

deed_leaves_kept : (d : Deed) (t : List Record) (k : Kept) → changes d t ≡ false → kept_by d k ≡ k
unfolding changes kept_by kept_after
deed_leaves_kept nothing t k h = refl
deed_leaves_kept no_call t k h = refl
deed_leaves_kept (call c) t k h = refl
deed_leaves_kept (interest i keys) t k h = pick_false (is_done (interest_answer i keys).pair.verdict) _ _ h
deed_leaves_kept (bond b flows) t k h = refl

unkept_leaves : (l : List ℕ) (e : Evening) → is_kept l e ≡ false → SameDesk e (after l e)
unfolding is_kept after
unkept_leaves l e h =
    let none : changes (asked_by l e) e.table ≡ false =
    or_none_left (changes (asked_by l e) e.table) (same l closed_line) h in
    record {
      table = sym (deed_leaves_table (asked_by l e) e.table none);
      kept = sym (deed_leaves_kept (asked_by l e) e.table e.kept none);
    }

-- ---- on the same desk a line does the same

same_desk_trans : {d e f : Evening} → SameDesk d e → SameDesk e f → SameDesk d f
same_desk_trans r s = record { table = r.table ∙ s.table; kept = r.kept ∙ s.kept }

pub same_desk_self : (e : Evening) → SameDesk e e
same_desk_self e = record { table = refl; kept = refl }

after_alike : (l : List ℕ) (f e : Evening) → SameDesk f e → SameDesk (after l f) (after l e)
unfolding after
after_alike l f e s = record { table = rw (s.kept, s.table); kept = rw s.kept }

kept_alike : (l : List ℕ) (f e : Evening) → SameDesk f e → is_kept l f ≡ is_kept l e
unfolding is_kept
kept_alike l f e s = rw (s.kept, s.table)

-- ---- so an evening goes on from a recovered desk as from the one that was

-- told in words, with answers or with reasons, and not as messages, which may be told from a line of some number on
abbrev InWords : Telling → Type 0
InWords telling = (from : ℕ) → telling ≡ Messages from → ⊥

-- a call is answered alike, whatever the number of its line
call_alike : (telling : Telling) → InWords telling → (c : Call) (m n : ℕ) (t : List Record)
    → call_told telling m c t ≡ call_told telling n c t
unfolding call_told
call_alike Answers w c m n t = refl
call_alike Reasons w c m n t = refl
call_alike (Messages from) w c m n t = absurd (w from refl)

-- an answer has no number but that of a line that is no call
told_alike : (telling : Telling) → InWords telling → (d : Deed) (m n : ℕ) (t : List Record) → (d ≡ no_call → ⊥)
    → text_of telling m d t ≡ text_of telling n d t
unfolding text_of
told_alike telling w nothing m n t h = refl
told_alike telling w no_call m n t h = absurd (h refl)
told_alike telling w (call c) m n t h = call_alike telling w c m n t
told_alike telling w (interest i keys) m n t h = refl
told_alike telling w (bond b flows) m n t h = refl

pub answered_alike : (telling : Telling) → InWords telling → (l : List ℕ) (f e : Evening) → SameDesk f e
    → (asked_by l e ≡ no_call → ⊥) → answer telling l f ≡ answer telling l e
unfolding answer
answered_alike telling w l f e s h =
    rw (s.kept, s.table) (told_alike telling w (asked_by l e) f.number e.number e.table h)

pub goes_on : (ls : List (List ℕ)) (f e : Evening) → SameDesk f e → SameDesk (after_all ls f) (after_all ls e)
unfolding after_all
goes_on [] f e s = s
goes_on (l ∷ ls) f e s = goes_on ls (after l f) (after l e) (after_alike l f e s)

pub keeps_alike : (ls : List (List ℕ)) (f e : Evening) → SameDesk f e → kept_of ls f ≡ kept_of ls e
unfolding kept_of
keeps_alike [] f e s = refl
keeps_alike (l ∷ ls) f e s =
    rw (kept_alike l f e s, keeps_alike ls (after l f) (after l e) (after_alike l f e s))

-- ---- THE KEPT LINES ALONE LEAD TO THE SAME DESK, from the same desk on

pub kept_lead : (ls : List (List ℕ)) (f e : Evening) → SameDesk f e
    → SameDesk (after_all (kept_of ls e) f) (after_all ls e)
unfolding after_all kept_of
kept_lead [] f e s = s
kept_lead (l ∷ ls) f e s = go (is_kept l e) refl (λ g t. kept_lead ls g (after l e) t)
  where
    go : (x : Bool) → is_kept l e ≡ x
        → ((g : Evening) → SameDesk g (after l e)
        → SameDesk (after_all (kept_of ls (after l e)) g) (after_all ls (after l e)))
        → SameDesk (after_all (pick x (l ∷ kept_of ls (after l e)) (kept_of ls (after l e))) f) (after_all ls (after l e))
    go true h rest = rest (after l f) (after_alike l f e s)
    go false h rest = rest f (same_desk_trans s (unkept_leaves l e h))

-- and each of them would be kept again
pub kept_again : (ls : List (List ℕ)) (f e : Evening) → SameDesk f e
    → kept_again_of (kept_of ls e) f ≡ length (kept_of ls e)
unfolding kept_again_of kept_of
kept_again [] f e s = refl
kept_again (l ∷ ls) f e s = go (is_kept l e) refl (λ g t. kept_again ls g (after l e) t)
  where
    go : (x : Bool) → is_kept l e ≡ x
        → ((g : Evening) → SameDesk g (after l e)
        → kept_again_of (kept_of ls (after l e)) g ≡ length (kept_of ls (after l e)))
        → kept_again_of (pick x (l ∷ kept_of ls (after l e)) (kept_of ls (after l e))) f
        ≡ length (pick x (l ∷ kept_of ls (after l e)) (kept_of ls (after l e)))
    go true h rest = rw (kept_alike l f e s ∙ h) (ap suc (rest (after l f) (after_alike l f e s)))
    go false h rest = rest f (same_desk_trans s (unkept_leaves l e h))

-- ---- lines behind lines, and batches

pub after_append : (ls ms : List (List ℕ)) (e : Evening) → after_all (ls ++ ms) e ≡ after_all ms (after_all ls e)
unfolding after_all
after_append [] ms e = refl
after_append (l ∷ ls) ms e = after_append ls ms (after l e)

pub kept_append : (ls ms : List (List ℕ)) (e : Evening)
    → kept_of (ls ++ ms) e ≡ kept_of ls e ++ kept_of ms (after_all ls e)
unfolding after_all kept_of
kept_append [] ms e = refl
kept_append (l ∷ ls) ms e = go (is_kept l e) (kept_append ls ms (after l e))
  where
    go : (x : Bool) → kept_of (ls ++ ms) (after l e) ≡ kept_of ls (after l e) ++ kept_of ms (after_all ls (after l e))
        → pick x (l ∷ kept_of (ls ++ ms) (after l e)) (kept_of (ls ++ ms) (after l e))
        ≡ pick x (l ∷ kept_of ls (after l e)) (kept_of ls (after l e)) ++ kept_of ms (after_all ls (after l e))
    go true r = ap (λ (ks : List (List ℕ)). l ∷ ks) r
    go false r = r

pub kept_by_batch : (bs : List (List (List ℕ))) (e : Evening) → all_lines (kept_batches bs e) ≡ kept_of (all_lines bs) e
unfolding all_lines kept_batches kept_of
kept_by_batch [] e = refl
kept_by_batch (b ∷ bs) e =
    ap (λ (ks : List (List ℕ)). kept_of b e ++ ks) (kept_by_batch bs (after_all b e))
    ∙ sym (kept_append b (all_lines bs) e)

-- A FRONT OF THE KEPT LINES IS WHAT IS KEPT OF A FRONT OF THE LINES
pub record FrontOf (ls : List (List ℕ)) (e : Evening) (k : ℕ) : Type 0 where
  pub count : ℕ
  pub is : kept_of (take count ls) e ≡ take k (kept_of ls e)

pub kept_front : (ls : List (List ℕ)) (e : Evening) (k : ℕ) → FrontOf ls e k
unfolding kept_of
kept_front [] e k = record { count = 0; is = sym (take-nil k) }
kept_front (l ∷ ls) e k = go (is_kept l e) refl k (λ k. kept_front ls (after l e) k)
  where
    go : (x : Bool) → is_kept l e ≡ x → (k : ℕ) → ((k : ℕ) → FrontOf ls (after l e) k) → FrontOf (l ∷ ls) e k
    go x h zero rest = record { count = 0; is = refl }
    go true h (suc k) rest =
        record { count = suc (rest k).count; is = rw h (ap (λ (ks : List (List ℕ)). l ∷ ks) (rest k).is) }
    go false h (suc k) rest = record { count = suc (rest (suc k)).count; is = rw h (rest (suc k)).is }

-- ---- an entry can have each kept line

closed_short : length closed_line ≤ longest
unfolding closed_line bytes
closed_short = leb-true (length closed_line) longest refl

kept_short : (l : List ℕ) (e : Evening) → is_kept l e ≡ true → length l ≤ longest
unfolding is_kept changes deed_of
kept_short l e h = go (le_or_lt (length l) longest)
  where
    go : (length l ≤ longest) ⊎ (longest < length l) → length l ≤ longest
    go (inl p) = p
    go (inr p) =
        let none : changes (asked_by l e) e.table ≡ false = rw (long_line_is_no_call l p) in
        let closed : l ≡ closed_line =
        same_is l closed_line (or_other (changes (asked_by l e) e.table) (same l closed_line) h none) in
        rw closed closed_short

pub kept_fit : (ls : List (List ℕ)) (e : Evening) → AllFree is_line_feed ls → Fitting (kept_of ls e)
unfolding kept_of
kept_fit [] e f = no_line
kept_fit (l ∷ ls) e f = go (is_kept l e) refl (kept_fit ls (after l e) (rest f))
  where
    rest : AllFree is_line_feed (l ∷ ls) → AllFree is_line_feed ls
    rest (piece g r) = r

    first : AllFree is_line_feed (l ∷ ls) → Free is_line_feed l
    first (piece g r) = g

    go : (x : Bool) → is_kept l e ≡ x → Fitting (kept_of ls (after l e))
        → Fitting (pick x (l ∷ kept_of ls (after l e)) (kept_of ls (after l e)))
    go true h r = line (first f) (kept_short l e h) r
    go false h r = r
