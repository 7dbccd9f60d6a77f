-- The slot at a place, and a place that is guessed: where the slot there has the id, no slot has to be searched for it.
-- proofs/Guesses says what a guess is worth.
use Rattle.std.specs.Prelude.{◌≡◌, ◌≢◌, Bool, ◌&&◌, ◌||◌, List, ℕ, ◌<◌, ltb, eqb, length, get_or}
use Rattle.paper.specs.declared.Record.{Record}
use Rattle.paper.specs.declared.Answer.{Answer}
use Rattle.paper.specs.Lists.{pick}
use Rattle.paper_desk.specs.Desk.{Ask, blank, place}
use Rattle.record_answers.specs.declared.Slot.{Slot}
use Rattle.record_answers.specs.Effects.{holds, effect_of, done_by}
use Rattle.record_calls.specs.Good.{is_good}

-- the slot at a place; past the end, what is found of an id that no slot has
unfoldable pub slot_at : List Record → (i : ℕ) → Slot
slot_at t i =
    pick (ltb i (length t)) (record { count = length t; at = i; rec = get_or t i blank })
    (record { count = length t; at = length t; rec = blank })

-- whether a slot has an id
unfoldable pub is_of : Slot → (id : ℕ) → Bool
is_of s id = holds s && eqb s.rec.id id

-- the place of the security with an id: the guess, where the slot there has the id, or else the first slot with it. The
-- id 0 is no security's
unfoldable pub place_near : List Record → (guess id : ℕ) → ℕ
place_near t guess id = pick (eqb id 0) (length t) (pick (is_of (slot_at t guess) id) guess (place t id))

-- whether the slot at a place is good, where the caller does not know it already
unfoldable pub good_at : List Record → (i : ℕ) → (known : Bool) → Bool
good_at t i known = known || is_good (slot_at t i)

-- A SOUND GUESS: no slot before it has its id, but for an empty one. A place past the end is one too
abbrev pub First : List Record → (i : ℕ) → Type 0
First t i = i < length t → (get_or t i blank).id ≢ 0 → (k : ℕ) → k < i → (get_or t k blank).id ≢ (get_or t i blank).id

-- of what is asked at a place of the table t: the answer r and the table t' are those of the slot there
pub record DoneAt (i : ℕ) (x : Ask) (t : List Record) (r : Answer) (t' : List Record) : Type 0 where
  pub answer : r ≡ (done_by t (effect_of (slot_at t i) x)).answer
  pub table : t' ≡ (done_by t (effect_of (slot_at t i) x)).table
