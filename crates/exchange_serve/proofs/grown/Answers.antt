-- `exchange_serve::grown` meets its contract: above the greatest id one number stands for all.
use mathlib.Core.Path.{◌∙◌}
use native.Mathlib.Omega.{arith}
use Rattle.exchange_serve.proofs.Serving.{grown_is}
use Rattle.exchange_serve.proofs.grown.Goals as goal

pub returns : goal.returns
returns c = (c.min.ensures ∙ grown_is _ _, omega arith)
