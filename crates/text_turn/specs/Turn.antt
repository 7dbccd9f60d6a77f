-- The first half of a turn, before the table is asked, and where the first turn starts.
use Rattle.std.specs.Prelude.{◌≡◌, false, List, ℕ, ℤ}
use Rattle.text_evening.specs.declared.Telling.{Telling}
use Rattle.text_protocol.specs.Kept.{none_kept}
use Rattle.text_protocol.specs.Line.{meaning}
use Rattle.text_protocol.specs.Calls.{deed_of, deed_asked}
use Rattle.text_evening.specs.Evening.{kept_by, last_number}
use Rattle.text_evening.specs.Streamed.{begun_stream}
use Rattle.text_evidence.specs.Evidence.{unread, unwritten}
use Rattle.text_input.specs.Input.{Next, StandsAt}
use Rattle.text_deed.specs.Deeds.{BesideIs, asks_why}
use Rattle.text_turn.specs.declared.State.{State}
use Rattle.text_turn.specs.declared.Prepared.{Prepared}

-- BEFORE THE TABLE IS ASKED: the next line is heard, and what it asks for is known
pub record Prepares (b : List ℕ) (s : State) (b' : List ℕ) (r : Prepared) (xs : List ℤ) : Type 0 where
  pub line : List ℕ
  pub next : Next b s.input b' r.state.input line
  pub asks : deed_asked r.ask xs ≡ deed_of s.kept (meaning line)
  pub kept : r.state.kept ≡ kept_by (deed_of s.kept (meaning line)) s.kept
  pub beside : BesideIs (deed_of s.kept (meaning line)) r.beside
  pub asked : r.asked ≡ asks_why s.telling
  pub telling : r.state.telling ≡ s.telling
  pub number : r.state.number ≡ s.number
  pub waits : r.state.waits ≡ s.waits
  pub told : r.state.told ≡ s.told
  pub there : StandsAt b' r.from r.to line
  pub stream : r.state.stream ≡ s.stream

-- at the start nothing is read, nothing is kept and nothing waits, the first line is the next, and of a stream `begin`
-- is told; `telling` is how lines are told, from the start to the end
abbrev pub start_state : Telling → State
start_state telling =
    record {
      input = record { at = 0; end = 0; len = 0; left = last_number; read = unread };
      number = 1;
      kept = none_kept;
      waits = false;
      told = unwritten;
      telling = telling;
      stream = begun_stream;
    }
