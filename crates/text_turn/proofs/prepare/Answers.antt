-- `text_turn::prepare` meets its contract: hears the next line.
use Rattle.text_turn.proofs.Preparing.{prepared}
use Rattle.text_turn.proofs.prepare.Goals as goal

pub returns : goal.returns
returns c = prepared _ c.args.s _ _ _ _ _ c.hear-h.ensures (rw c.as_slice.ensures at c.deed_of-deed.ensures) c.asks_why.ensures
