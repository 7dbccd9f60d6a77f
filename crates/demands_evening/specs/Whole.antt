-- W-212, over every sequence of calls: of an accepted call the writer takes every message, so that members get all of
-- them. proofs/Whole.antt proves it of every call after every list of calls on every fresh table.
use Rattle.std.specs.Prelude.{◌≡◌, true, List}
use Rattle.paper.specs.declared.Record.{Record}
use Rattle.paper.specs.Lists.{every}
use Rattle.paper.specs.Verdicts.{is_done}
use Rattle.paper_desk.specs.Desk.{Call, step}
use Rattle.paper_reasons.specs.declared.Reasons.{Reasons}
use Rattle.paper_messages.specs.Messages.{valid}
use Rattle.paper_messages.specs.Broadcast.{messages_of}

-- of the call c on the table t, whatever its reasons are: no message is refused 23, and `sent` is the whole encoding of
-- each
pub record SentWhole (c : Call) (t : List Record) : Type 0 where
  pub all_valid : is_done (step c t).answer.verdict ≡ true → (y : Reasons)
      → every valid (messages_of c (step c t).answer y) ≡ true
