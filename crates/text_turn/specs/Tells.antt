-- The second half of a turn, after the table is asked.
use Rattle.std.specs.Prelude.{◌≡◌, true, false, List, [], ◌++◌, ℕ, ◌+◌, ◌≤◌, length}
use Rattle.text_protocol.specs.declared.Performed.{Performed}
use Rattle.text_evening.specs.Evening.{number_after}
use Rattle.text_evening.specs.Streamed.{stream_on}
use Rattle.paper.specs.Lists.{pick}
use Rattle.text_evidence.specs.declared.Written.{Written}
use Rattle.text_evidence.specs.Evidence.{took_all, Hands}
use Rattle.text_input.specs.declared.Input.{Input}
use Rattle.text_deed.specs.Deeds.{line_text, line_count}
use Rattle.text_turn.specs.declared.State.{State}
use Rattle.text_turn.specs.declared.Prepared.{Prepared}
use Rattle.text_protocol.specs.Answers.{answer_most}
use Rattle.text_bytes.specs.Bytes.{room}

-- the input of a run that is over before its input has ended: no line more is heard
abbrev pub halted : Input → Input
halted i = record { at = i.at; end = i.end; len = i.len; left = 0; read = i.read }

-- the answers that wait, of the text o that is gathered: all of it, and none where it was handed over
abbrev pub waiting : State → List ℕ → List ℕ
waiting s o = pick s.waits o []

-- WHAT BECOMES OF THE TEXT o: it waits on, and nothing is written; or all of it is handed to `write`, by its evidence,
-- and none of it waits. The input goes on as it was, but where not all of it was taken no line more is heard
pub data Goes (i : Input) (told : Written) (o : List ℕ) (r : State) : Type 0 where
  wait : r.waits ≡ true → r.told ≡ told → r.input ≡ i → Goes i told o r
  handed : r.waits ≡ false → Hands (length o) told r.told → r.input ≡ pick (took_all r.told) i (halted i)
      → Goes i told o r

-- AFTER THE TABLE IS ASKED: of the text o, the answers that wait stay, and the answer is appended behind them. They are
-- handed over where the next line has to be waited for, and where no line is left to hear. What was handed over stays
-- in the text o' until the next answer is told: so the bytes that were handed over are those of o'
pub record Tells (o : List ℕ) (p : Prepared) (a : Performed) (o' : List ℕ) (r : State) : Type 0 where
  pub wrote : o' ≡ waiting p.state o ++ line_text p.state.telling p.ask p.state.number p.beside a
  pub most : length o' ≤ length (waiting p.state o) + answer_most
  pub goes : Goes p.state.input p.state.told o' r
  pub room : length (waiting r o') + answer_most ≤ room
  pub prompt : r.input.len ≤ r.input.end → r.waits ≡ false
  pub last : r.input.left ≡ 0 → r.waits ≡ false
  pub kept : r.kept ≡ p.state.kept
  pub telling : r.telling ≡ p.state.telling
  pub number : r.number ≡ number_after p.state.number
  pub stream : r.stream
      ≡ stream_on p.state.telling p.state.stream
      (line_count p.state.telling p.ask p.state.number a.answer.verdict)
      (line_text p.state.telling p.ask p.state.number p.beside a)
