-- docs/JOURNAL.md, "What is kept" and "Recovery", by examples: which lines of an evening are kept, and what recovery
-- makes of small journals.
use Rattle.std.specs.Prelude.{◌≡◌, refl, List, [], ◌∷◌, ◌++◌, ℕ, pos}
use Prim.Native.String.{String}
use Rattle.paper.specs.declared.Verdict.TheVariants.{Done}
use Rattle.paper_desk.specs.PinnedSequence.{slots}
use Rattle.text_bytes.specs.Bytes.{line_feed, bytes}
use Rattle.text_protocol.specs.LineCases.{z_text}
use Rattle.text_protocol.specs.Kept.{no_pair}
use Rattle.text_evening.specs.Evening.{Evening, start_evening}
use Rattle.text_evening.specs.EveningCases.{told, lines}
use Rattle.journal_protocol.specs.Entries.{Entry}
use Rattle.journal_protocol.specs.Lines.{reads_only, may_change, changes, closed_line, is_kept, kept_of, kept_batches}
use Rattle.journal_protocol.specs.Recovery.{lines_of, kept_again_of, served, damaged, performed, recovered}
use Rattle.journal_protocol.specs.JournalCases.{file_of, closed_at}

-- ---- what is kept

unfoldable pub admit_line : List ℕ
admit_line = bytes "admit 7 3 1000000 1000000 20000 600" ++ z_text "1"

unfoldable pub interest_line : List ℕ
interest_line =
    bytes
    "interest 0 0 1 1000 500 200 50 2 20 300 100 200 940 710 1 800 650 700 810 40 150 1 3 803 652 700 1150 40 150 1"

unfoldable pub start : Evening
start = start_evening (slots 1)

-- OF AN EVENING OF TEN LINES AND ITS CLOSE the accepted admission, the accepted interest line and the close are kept:
-- not a line that is no call, a blank line or a heading; not what is refused; not a bond or a read
pub kept_are : kept_of (lines ++ bytes "read 7" ∷ bytes "# closed" ∷ []) start
    ≡ admit_line ∷ interest_line ∷ bytes "# closed" ∷ []
unfolding told start admit_line interest_line closed_line reads_only may_change changes is_kept kept_of
kept_are = refl

-- batch by batch, each on the evening that the batches before it leave: the second admission is refused
pub batches_kept_are : kept_batches ((admit_line ∷ bytes "read 7" ∷ []) ∷ (admit_line ∷ interest_line ∷ []) ∷ []) start
    ≡ (admit_line ∷ []) ∷ (interest_line ∷ []) ∷ []
unfolding told start admit_line interest_line closed_line reads_only may_change changes is_kept kept_of kept_batches
batches_kept_are = refl

-- ---- recovery

unfoldable pub interest_entry : Entry
interest_entry = record { batch = 1; line = interest_line }

-- the desk after the interest line, where the line of this number comes next
unfoldable pub desk_after : (number : ℕ) → Evening
desk_after n =
    record {
      number = n;
      kept =
          record {
            newest = record { ym = 0; yn = 1; worked = record { verdict = Done; lower = pos 710; upper = pos 940 } };
            middle = no_pair;
            oldest = no_pair;
          };
      table = slots 1;
    }

-- its bytes, with a sum, and further lines behind it
unfoldable pub interest_file : (sum : String) → (behind : List ℕ) → List ℕ
interest_file sum behind = bytes sum ++ (bytes " 1 " ++ (interest_line ++ line_feed ∷ behind))

-- A CLOSED JOURNAL; the same with a letter of its close gone and bytes behind it; with a digit of its first entry
-- another; and a journal with an entry that is refused, since there is no security 7
pub recovered_are : (recovered (interest_file "537d6462" (file_of ("0ead5ef3 2 # closed" ∷ []) "")) start
    ≡ served (desk_after 3) (interest_entry ∷ closed_at 2 ∷ []) 0)
    × (recovered (interest_file "537d6462" (file_of ("0ead5ef3 2 # close" ∷ []) "xyz")) start
    ≡ served (desk_after 2) (interest_entry ∷ []) 22)
    × (recovered (interest_file "537d6463" (file_of ("0ead5ef3 2 # closed" ∷ []) "")) start ≡ damaged 1 0)
    × (recovered (interest_file "537d6462" (file_of ("0f55c667 2 open 7" ∷ []) "")) start ≡ damaged 2 122)
unfolding told file_of start interest_line interest_entry interest_file desk_after closed_line reads_only may_change changes
    is_kept lines_of kept_again_of performed recovered
recovered_are = (refl, refl, refl, refl)
