-- The row of places that the evening notes: an entry for the ids with one rest, and in it where one of them was found, if
-- its slot was good.
use Rattle.std.specs.Prelude.{◌≡◌, Bool, true, ◌&&◌, List, ℕ, ◌+◌, ◌-◌, ◌<◌, ◌%◌, ltb, get_or}
use Rattle.paper.specs.declared.Record.{Record}
use Rattle.paper.specs.Lists.{pick}
use Rattle.record_calls.specs.Good.{is_good}
use Rattle.desk.specs.Guesses.{slot_at, First}

abbrev pub places_most : ℕ
places_most = 1024

-- the entry of an id
unfoldable pub entry_of : (id : ℕ) → ℕ
entry_of id = id % places_most

-- the last number that a place can be: 2^64 - 1. One more could not be noted
abbrev pub place_last : ℕ
place_last = 18446744073709551615

-- what there is to note of a place: one more than it, where its slot is good, and else 0
unfoldable pub note_of : (at : ℕ) → (good : Bool) → ℕ
note_of at good = pick (good && ltb at place_last) (at + 1) 0

-- A SOUND NOTE of the table t: nothing, or a slot before which none has its id, and which is good
abbrev pub Noted : List Record → ℕ → Type 0
Noted t note = 0 < note → First t (note - 1) × (is_good (slot_at t (note - 1)) ≡ true)

-- A ROW OF SOUND NOTES of the table t. An entry that is not there would be 0, which is one
abbrev pub Sound : List Record → List ℕ → Type 0
Sound t ps = (k : ℕ) → Noted t (get_or ps k 0)
