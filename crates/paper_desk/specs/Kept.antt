-- What every accepted call keeps: a record that is sound, and whose upper range limits are no farther than its moves
-- can have brought them; and what a call leaves as it was.
use Rattle.std.specs.Prelude.{◌≡◌, Bool, ◌&&◌, ◌||◌, List, ℕ, ◌+◌, ◌*◌, leb, eqb, get_or}
use Rattle.paper.specs.declared.Record.{Record}
use Rattle.paper.specs.Lists.{all_three, every}
use Rattle.paper.specs.Numbers.{price_most}
use Rattle.paper.specs.Ranges.{sound, no_limits}
use Rattle.paper_desk.specs.Desk.{Call, admit, about, place, stands, found}

-- the most that a fresh limit can be: P·(1 + rate) at the greatest price and the greatest rate, 2·10^10
abbrev pub fresh_most : ℕ
fresh_most = 2 * price_most

-- the most that a move shifts by, 2·shift·S_1·P/x_pr of the ranges: 4·10^10
abbrev pub delta_most : ℕ
delta_most = 4 * price_most

-- an upper range limit is at most a fresh one and a delta for each move: at fifty moves "2·10^12 + 2·10^10"
unfoldable pub within_moves : Record → Bool
within_moves r = all_three (λ i. leb (get_or r.ranges i no_limits).upper (fresh_most + r.moves.upper * delta_most))

-- what accepted calls leave: sound, and within its moves. Soundness by itself is not kept: a sound record with no move
-- may have an upper range limit at the greatest, and one move takes it past that
unfoldable pub good : Record → Bool
good r = sound r && within_moves r

-- "id 0 marks an empty slot": every slot of a table is empty, or passes
unfoldable pub every_slot : (Record → Bool) → List Record → Bool
every_slot p t = every (λ (r : Record). eqb r.id 0 || p r) t

-- ---- what a call leaves as it was

-- the slot that a call may write: the first empty one for an admission, the first with the id for the rest
abbrev pub written_at : Call → List Record → ℕ
written_at (admit a) t = place t 0
written_at (about id x) t = place t id

-- every other id: it stands where it stood, with the record that it had
abbrev pub Stays : (id : ℕ) → (before after : List Record) → Type 0
Stays id t u = (stands u id ≡ stands t id) × (found u id ≡ found t id)
