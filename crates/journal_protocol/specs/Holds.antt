-- What is proved of journals, in words that a customer can check: the kept lines alone lead to the same desk, every
-- journal reads back, a write that was cut off is recovered from, and damage before it is told. proofs/ proves each.
use Rattle.std.specs.Prelude.{◌≡◌, Bool, true, false, ◌||◌, not, ◌⊎◌, List, [], ◌∷◌, ◌++◌, ℕ, suc, ◌≤◌, ◌<◌, eqb, length, take}
use Rattle.paper.specs.Lists.{pick, every}
use Rattle.text_bytes.specs.Bytes.{is_line_feed}
use Rattle.text_bytes.specs.Split.{Free}
use Rattle.text_protocol.specs.Line.{longest}
use Rattle.text_evening.specs.Evening.{Evening, after_all}
use Rattle.journal_protocol.specs.Entries.{Entry, written, read_as, is_entry}
use Rattle.journal_protocol.specs.Journal.{journal_text, batch_at, entries_at, whole_lines, is_good, found_in}
use Rattle.journal_protocol.specs.Lines.{kept_of, kept_batches, all_lines}
use Rattle.journal_protocol.specs.Recovery.{lines_of, served, damaged_behind, recovered}

-- ---- the kept lines

-- THE SAME DESK: the same table and the same kept interest answers. Evenings that differ in the number of their next
-- line alone answer every later line alike, but for the number behind "bad"
pub record SameDesk (e f : Evening) : Type 0 where
  pub table : e.table ≡ f.table
  pub kept : e.kept ≡ f.kept

-- ---- every journal reads back

-- lines that an entry can have: none has a line feed, and none is longer than a line may be
pub data Fitting : List (List ℕ) → Type 0 where
  no_line : Fitting []
  line : {l : List ℕ} {ls : List (List ℕ)} → Free is_line_feed l → length l ≤ longest → Fitting ls → Fitting (l ∷ ls)

-- the bytes of batches are found to be their entries, with nothing behind them
pub record ReadsBack (batches : List (List (List ℕ))) : Type 0 where
  pub entries : (found_in (journal_text (entries_at 1 batches))).entries ≡ entries_at 1 batches
  pub behind : (found_in (journal_text (entries_at 1 batches))).behind ≡ []

-- ---- a write that was cut off

-- whether a line is no entry, or one of the batch n
unfoldable pub is_of : (n : ℕ) → List ℕ → Bool
is_of n l = not (is_entry l) || eqb (read_as l).batch n

-- the entries in front of lines
unfoldable pub leading : List (List ℕ) → List Entry
leading [] = []
leading (l ∷ ls) = pick (is_entry l) (read_as l ∷ leading ls) []

-- BYTES THAT MAY STAND WHERE A BATCH WAS TO BE WRITTEN: any at all (cut, torn or garbage) in which no sum is forged: an
-- entry among them is of that batch, and the entries in front are the batch's first. Bytes that are no entry have the
-- sum of one by a chance of 1 in 2^32
pub record Torn (n : ℕ) (batch : List (List ℕ)) (torn : List ℕ) : Type 0 where
  pub own : every (is_of n) (whole_lines torn) ≡ true
  pub count : ℕ
  pub first : leading (whole_lines torn) ≡ batch_at n (take count batch)

-- THE JOURNAL OF LINES, heard batch by batch from an evening on
abbrev pub entries_of : (heard : List (List (List ℕ))) → Evening → List Entry
entries_of heard e = entries_at 1 (kept_batches heard e)

-- RECOVERED TO THE LINES: recovery of the bytes serves the desk after these lines, and what stays in the journal is
-- their kept lines
pub record RecoveredTo (lines : List (List ℕ)) (start : Evening) (bytes : List ℕ) : Type 0 where
  pub evening : Evening
  pub entries : List Entry
  pub cut : ℕ
  pub serves : recovered bytes start ≡ served evening entries cut
  pub desk : SameDesk evening (after_all lines start)
  pub stay : lines_of entries ≡ kept_of lines start
  -- the journal is cut behind these entries, and nowhere else
  pub behind : List ℕ
  pub front : bytes ≡ journal_text entries ++ behind
  pub cut_is : cut ≡ length behind

-- THE LAST BATCH IS REPLACED: recovery is to all lines of the batches before it, and to a front of the last
pub record TornRecovered (heard : List (List (List ℕ))) (last : List (List ℕ)) (start : Evening) (torn : List ℕ)
    : Type 0 where
  pub count : ℕ
  pub recovers :
      RecoveredTo (all_lines heard ++ take count last) start (journal_text (entries_of heard start) ++ torn)

-- ---- damage

-- each entry is of the batch of the one before it, or begins a batch at its place
pub data Ascending : (place batch : ℕ) → List Entry → Type 0 where
  no_entry : {n b : ℕ} → Ascending n b []
  entry : {n b : ℕ} {e : Entry} {es : List Entry} → (e.batch ≡ b) ⊎ (e.batch ≡ n) → Ascending (suc n) e.batch es
      → Ascending n b (e ∷ es)

-- the batch of the last of entries
unfoldable pub last_batch : (batch : ℕ) → List Entry → ℕ
last_batch b [] = b
last_batch b (e ∷ es) = last_batch e.batch es

-- BYTES DAMAGED BEHIND ENTRIES: a line that is no good entry there, any bytes, and a good entry of a later batch
pub record Damage (es : List Entry) (bytes : List ℕ) : Type 0 where
  pub bad : List ℕ
  pub later : Entry
  pub between : List (List ℕ)
  pub behind : List (List ℕ)
  pub is_bad_lem : is_good (suc (length es)) (last_batch 1 es) bad ≡ false
  pub is_later : suc (length es) < later.batch
  pub short : length later.line ≤ longest
  pub stands : whole_lines bytes ≡ bad ∷ (between ++ written later ∷ behind)

-- IT IS TOLD, with its place
abbrev pub DamageTold : List Entry → Evening → (bytes : List ℕ) → Type 0
DamageTold es start bytes = recovered (journal_text es ++ bytes) start ≡ damaged_behind es
