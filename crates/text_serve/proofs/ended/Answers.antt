-- `text_serve::ended` meets its contract: a stream is ended where all went well, and there alone.
use Rattle.text_serve.specs.Serve.{in_messages}
use Rattle.text_serve.proofs.Closing.{unended, in_words, closes}
use mathlib.Core.Path.{ap}
use mathlib.Core.Bool.{not}
use Rattle.text_serve.proofs.ended.Goals as goal

pub returns-then-not-took_all-is_well : goal.returns-then-not-took_all-is_well
returns-then-not-took_all-is_well c =
    unended c.args.s _ _ c.took_all.ensures c.is_well.ensures (ap not c.if-not-took_all-is_well.true)

pub returns-in-Answers : goal.returns-in-Answers
unfolding in_messages
returns-in-Answers c =
    in_words c.args.s _ _ c.took_all.ensures c.is_well.ensures (rw c.in-Answers.is)

pub returns-in-Reasons : goal.returns-in-Reasons
unfolding in_messages
returns-in-Reasons c =
    in_words c.args.s _ _ c.took_all.ensures c.is_well.ensures (rw c.in-Reasons.is)

pub returns-in-Messages : goal.returns-in-Messages
unfolding in_messages
returns-in-Messages c =
    closes c.args.s _ _ c.took_all.ensures c.is_well.ensures (ap not c.if-not-took_all-is_well.false)
    (rw c.in-Messages.is) (rw c.end_message.ensures at c.send.ensures)
