-- `limits::is_crossed` meets its contract: the code's test is the definition's.
use mathlib.Core.Path.{refl}
use Rattle.paper_desk.specs.Limits.{crossed}
use Rattle.limits.proofs.is_crossed.Goals as goal

pub returns : goal.returns
unfolding crossed
returns c = refl
