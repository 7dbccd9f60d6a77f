-- `text_ask::perform` meets its contract: each arm hands the call to the call of the desk that it is.
use Rattle.text_ask.specs.WithReasons.{DoneOf}
use Rattle.text_ask.proofs.perform.Goals as goal

pub returns-in-Admit : goal.returns-in-Admit
unfolding DoneOf
returns-in-Admit c = rw c.in-Admit.is c.admit.ensures

pub returns-in-About : goal.returns-in-About
unfolding DoneOf
returns-in-About c = rw c.in-About.is c.about_known.ensures
