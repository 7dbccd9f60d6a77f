-- `exchange_text::cell::past_zeros` meets its contract: what stands behind as many zeros as stand in front.
use mathlib.Core.Path.{◌∙◌}
use Rattle.exchange_text.proofs.CellTurns.{rest_is, zeros_passed}
use Rattle.exchange_text.proofs.cell.past_zeros.Goals as goal

pub returns : goal.returns
returns c = rw c.zeros.ensures.are (rest_is c.args.text.now _ ∙ zeros_passed c.args.text.now)
