-- docs/JOURNAL.md, "A journal": the bytes of entries and of batches, and what is found in any bytes.
use Rattle.std.specs.Prelude.{Bool, ◌&&◌, ◌||◌, not, List, [], ◌∷◌, ◌++◌, ℕ, suc, ◌+◌, eqb, length}
use Rattle.paper.specs.Lists.{pick}
use Rattle.text_bytes.specs.Bytes.{line_feed, is_line_feed, pieces}
use Rattle.journal_protocol.specs.Entries.{Entry, written, read_as, is_entry}

-- the bytes of lines, each with its line feed
unfoldable pub line_texts : List (List ℕ) → List ℕ
line_texts [] = []
line_texts (l ∷ ls) = l ++ line_feed ∷ line_texts ls

-- ---- written

-- THE BYTES OF ENTRIES, each with its line feed
unfoldable pub journal_text : List Entry → List ℕ
journal_text [] = []
journal_text (e ∷ es) = written e ++ line_feed ∷ journal_text es

-- the entries of lines that are one batch: its number is the place of its first entry in the journal, from 1
unfoldable pub batch_at : (place : ℕ) → (lines : List (List ℕ)) → List Entry
batch_at n [] = []
batch_at n (l ∷ ls) = record { batch = n; line = l } ∷ batch_at n ls

-- THE ENTRIES OF BATCHES, where the first has this place; a batch of no line leaves none
unfoldable pub entries_at : (place : ℕ) → (batches : List (List (List ℕ))) → List Entry
entries_at n [] = []
entries_at n (b ∷ bs) = batch_at n b ++ entries_at (n + length b) bs

-- ---- read

-- all but the last
unfoldable pub but_last : List (List ℕ) → List (List ℕ)
but_last [] = []
but_last (p ∷ []) = []
but_last (p ∷ q ∷ ps) = p ∷ but_last (q ∷ ps)

-- the lines that a line feed ends: what is behind the last line feed is no line of a journal
unfoldable pub whole_lines : List ℕ → List (List ℕ)
whole_lines bytes = but_last (pieces is_line_feed bytes)

-- a good entry at a place: it is of the batch of the entry before it, or begins a batch
unfoldable pub is_good : (place batch : ℕ) → List ℕ → Bool
is_good n b l = is_entry l && (eqb (read_as l).batch b || eqb (read_as l).batch n)

-- the good entries in front, the batch of the last of them, and the lines behind them, of which the first is none
pub record Found : Type 0 where
  pub entries : List Entry
  pub batch : ℕ
  pub behind : List (List ℕ)

-- an entry more in front
abbrev pub with_entry : Entry → Found → Found
with_entry e f = record { entries = e ∷ f.entries; batch = f.batch; behind = f.behind }

-- what is found in lines, where the first has a place and the batch before it a number
unfoldable pub found_from : (place batch : ℕ) → (lines : List (List ℕ)) → Found
found_from n b [] = record { entries = []; batch = b; behind = [] }
found_from n b (l ∷ ls) =
    pick (is_good n b l) (with_entry (read_as l) (found_from (suc n) (read_as l).batch ls))
    (record { entries = []; batch = b; behind = l ∷ ls })

-- WHAT IS FOUND IN ANY BYTES: entries are counted from 1, and the first begins the batch 1
unfoldable pub found_in : (bytes : List ℕ) → Found
found_in bytes = found_from 1 1 (whole_lines bytes)

-- ---- what stands behind the good entries

-- whether a line there can be of the write that was cut off: it is no entry, or one of the batch of the last good
-- entry, or of the batch that begins behind it. An entry of another batch shows that the write was followed by another,
-- and so was answered, or that batches do not ascend
unfoldable pub is_of_the_cut : Found → List ℕ → Bool
is_of_the_cut f l =
    not (is_entry l)
    || (eqb (read_as l).batch f.batch || eqb (read_as l).batch (suc (length f.entries)))
