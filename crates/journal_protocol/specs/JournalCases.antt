-- docs/JOURNAL.md by examples: small journals byte for byte, what is found in them, and what recovery makes of them.
use Rattle.std.specs.Prelude.{◌≡◌, refl, Bool, true, false, List, [], ◌∷◌, ◌++◌, ℕ, length}
use Prim.Native.String.{String}
use Rattle.paper.specs.Lists.{every}
use Rattle.sums.specs.PinnedSums.{summed}
use Rattle.text_bytes.specs.Bytes.{line_feed, is_line_feed, is_not, run, grow, pieces, same, bytes}
use Rattle.text_bytes.specs.Numbers.{spelt, decimal}
use Rattle.text_bytes.specs.Spells.{value}
use Rattle.journal_protocol.specs.Entries.{Entry, hex_digit, hex, behind_sum, written, from_number, number_end}
use Rattle.journal_protocol.specs.Entries.{read_as, is_entry}
use Rattle.journal_protocol.specs.Journal.{journal_text, batch_at, entries_at, but_last, whole_lines, is_good, Found}
use Rattle.journal_protocol.specs.Journal.{found_from, found_in, is_of_the_cut}

-- ---- the bytes of a journal

-- the digits of a sum
pub digits_are : (hex 8 48879 ≡ bytes "0000beef") × (hex 8 2584681260 ≡ bytes "9a0f1b2c")
unfolding hex hex_digit bytes
digits_are = (refl, refl)

unfoldable pub opened : Entry
opened = record { batch = 1; line = bytes "open 7" }

unfoldable pub moved_up : Entry
moved_up = record { batch = 1; line = bytes "move 7 0" }

unfoldable pub closed_at : (place : ℕ) → Entry
closed_at n = record { batch = n; line = bytes "# closed" }

-- a batch of no line, two lines that came together, and the close: a batch has the number of its first entry
pub batches_are : entries_at 1 ([] ∷ (bytes "open 7" ∷ bytes "move 7 0" ∷ []) ∷ (bytes "# closed" ∷ []) ∷ [])
    ≡ opened ∷ moved_up ∷ closed_at 3 ∷ []
unfolding entries_at batch_at opened moved_up closed_at bytes
batches_are = refl

-- texts as the lines of a file. It opens every definition that entries are written and read with, so that a table opens
-- this one alone
unfoldable pub file_of : List String → (cut : String) → List ℕ
unfolding summed bytes is_line_feed is_not run grow pieces same spelt decimal value hex_digit hex behind_sum written
    from_number number_end read_as is_entry journal_text but_last whole_lines is_good found_from found_in is_of_the_cut opened
    moved_up closed_at every
file_of [] cut = bytes cut
file_of (l ∷ ls) cut = bytes l ++ line_feed ∷ file_of ls cut

-- THEIR BYTES
pub bytes_are : journal_text (opened ∷ moved_up ∷ closed_at 3 ∷ [])
    ≡ file_of ("81dac184 1 open 7" ∷ "6029823c 1 move 7 0" ∷ "e16f35cd 3 # closed" ∷ []) ""
unfolding file_of
bytes_are = refl

-- ---- what is found

-- the entries, how many lines are behind them, and whether all of those can be of the write that was cut off
pub record Seen : Type 0 where
  pub entries : List Entry
  pub behind : ℕ
  pub torn : Bool

unfoldable pub seen : (bytes : List ℕ) → Seen
unfolding file_of
seen file =
    let f : Found = found_in file in
    record { entries = f.entries; behind = length f.behind; torn = every (is_of_the_cut f) f.behind }

-- a whole journal; nothing at all
pub whole_is : seen (file_of ("81dac184 1 open 7" ∷ "6029823c 1 move 7 0" ∷ "e16f35cd 3 # closed" ∷ []) "")
    ≡ record { entries = opened ∷ moved_up ∷ closed_at 3 ∷ []; behind = 0; torn = true }
unfolding seen
whole_is = refl

pub nothing_is : seen [] ≡ record { entries = []; behind = 0; torn = true }
unfolding seen
nothing_is = refl

-- cut in the middle of the last entry, and before its line feed: what no line feed ends is no entry
pub cut_is : (seen (file_of ("81dac184 1 open 7" ∷ "6029823c 1 move 7 0" ∷ []) "e16f35cd 3 # cl")
    ≡ record { entries = opened ∷ moved_up ∷ []; behind = 0; torn = true })
    × (seen (file_of ("81dac184 1 open 7" ∷ []) "6029823c 1 move 7 0")
    ≡ record { entries = opened ∷ []; behind = 0; torn = true })
unfolding seen
cut_is = (refl, refl)

-- a digit of the last batch is another: in its first entry, with its second behind it, and in its second
pub torn_is : (seen (file_of ("81dac185 1 open 7" ∷ "6029823c 1 move 7 0" ∷ []) "")
    ≡ record { entries = []; behind = 2; torn = true })
    × (seen (file_of ("81dac184 1 open 7" ∷ "6029823c 1 move 7 1" ∷ []) "")
    ≡ record { entries = opened ∷ []; behind = 1; torn = true })
unfolding seen
torn_is = (refl, refl)

-- the same digits, where a later batch stands behind them: the batch was answered
pub damaged_is : (seen (file_of ("81dac185 1 open 7" ∷ "6029823c 1 move 7 0" ∷ "e16f35cd 3 # closed" ∷ []) "")
    ≡ record { entries = []; behind = 3; torn = false })
    × (seen (file_of ("81dac184 1 open 7" ∷ "6029823c 1 move 7 1" ∷ "e16f35cd 3 # closed" ∷ []) "")
    ≡ record { entries = opened ∷ []; behind = 2; torn = false })
unfolding seen
damaged_is = (refl, refl)

-- batches that do not ascend: a batch that is not numbered by its place, one before the first, and an earlier one
pub not_ascending_is : (seen (file_of ("81dac184 1 open 7" ∷ "6029823c 1 move 7 0" ∷ "0ead5ef3 2 # closed" ∷ []) "")
    ≡ record { entries = opened ∷ moved_up ∷ []; behind = 1; torn = false })
    × (seen (file_of ("4d70c11a 0 open 7" ∷ []) "") ≡ record { entries = []; behind = 1; torn = false })
    × (seen (file_of ("81dac184 1 open 7" ∷ "0ead5ef3 2 # closed" ∷ "e59ae5f0 1 # closed" ∷ []) "")
    ≡ record { entries = opened ∷ closed_at 2 ∷ []; behind = 1; torn = false })
unfolding seen
not_ascending_is = (refl, refl, refl)
