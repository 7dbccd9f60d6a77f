-- `night::word_at` meets its contract.
use Rattle.night.proofs.word_at.Goals as goal

pub returns : goal.returns
returns c = record { word = _; is = c.item_of.ensures }
