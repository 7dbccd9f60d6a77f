-- `record_answers::is_known` meets its contract: its three tests are the definition's, in the definition's order.
use Rattle.record_answers.specs.Effects.{is_known}
use Rattle.record_answers.proofs.is_known.Goals as goal

pub returns : goal.returns
unfolding is_known
returns c = rw (c.sound.ensures, c.holds.ensures, c.valid_slots.ensures)
