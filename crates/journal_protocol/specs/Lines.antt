-- docs/JOURNAL.md, "What is kept": which lines of an evening are kept.
use Rattle.std.specs.Prelude.{Bool, true, false, ◌&&◌, ◌||◌, not, List, [], ◌∷◌, ◌++◌, ℕ}
use Rattle.paper.specs.declared.Record.{Record}
use Rattle.paper.specs.Lists.{pick}
use Rattle.paper.specs.Verdicts.{is_done}
use Rattle.paper_desk.specs.Desk.{Ask, evaluating, quoting, moving, reading, opening, receiving}
use Rattle.paper_desk.specs.Desk.{Call, admit, about, step}
use Rattle.paper_interest.specs.Interest.{interest_answer}
use Rattle.text_bytes.specs.Bytes.{same, bytes}
use Rattle.text_protocol.specs.Calls.{Deed, nothing, no_call, call, interest, bond}
use Rattle.text_evening.specs.Evening.{Evening, asked_by, after, after_all}

-- ---- one line

unfoldable pub reads_only : Ask → Bool
reads_only (evaluating d rows) = false
reads_only (quoting q) = false
reads_only (moving side) = false
reads_only reading = true
reads_only opening = false
reads_only (receiving x) = false

-- every call may change the table but a read
unfoldable pub may_change : Call → Bool
may_change (admit a) = true
may_change (about id x) = not (reads_only x)

-- what may change something and is accepted: a call of document 01, or an interest line. A bond's line changes nothing
unfoldable pub changes : Deed → List Record → Bool
changes nothing t = false
changes no_call t = false
changes (call c) t = may_change c && is_done (step c t).answer.verdict
changes (interest i keys) t = is_done (interest_answer i keys).pair.verdict
changes (bond b flows) t = false

-- the line that closes an evening: a heading, which says nothing
unfoldable pub closed_line : List ℕ
closed_line = bytes "# closed"

-- WHICH LINE IS KEPT, on the evening on which it is heard
unfoldable pub is_kept : (line : List ℕ) → Evening → Bool
is_kept l e = changes (asked_by l e) e.table || same l closed_line

-- ---- lines

-- THE KEPT LINES, as they were heard and in their order
unfoldable pub kept_of : (lines : List (List ℕ)) → Evening → List (List ℕ)
kept_of [] e = []
kept_of (l ∷ ls) e = pick (is_kept l e) (l ∷ kept_of ls (after l e)) (kept_of ls (after l e))

-- the kept lines of batches, a batch each
unfoldable pub kept_batches : (batches : List (List (List ℕ))) → Evening → List (List (List ℕ))
kept_batches [] e = []
kept_batches (b ∷ bs) e = kept_of b e ∷ kept_batches bs (after_all b e)

-- the lines of batches, one after the other
unfoldable pub all_lines : (batches : List (List (List ℕ))) → List (List ℕ)
all_lines [] = []
all_lines (b ∷ bs) = b ++ all_lines bs
