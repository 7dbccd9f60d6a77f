-- `evaluation::as_given` meets its contract: places (a) and (b) leave a row in roubles today as it is.
use Rattle.evaluation.proofs.Prices.{today_stays}
use Rattle.evaluation.proofs.as_given.Goals as goal

pub returns : goal.returns
returns c = today_stays _ c.requires
