-- `Verdict::is_done` meets its contract: 0 is done.
use mathlib.Core.Path.{◌∙◌}
use Rattle.paper.specs.declared.Verdict.TheVariants.{Done}
use Rattle.paper.specs.Verdicts.{is_done}
use Rattle.paper.proofs.Same.{same_by_number}
use Rattle.paper.proofs.Verdict.is_done.Goals as goal

pub returns : goal.returns
unfolding is_done
returns c = c.eq.ensures ∙ same_by_number c.args.self Done
