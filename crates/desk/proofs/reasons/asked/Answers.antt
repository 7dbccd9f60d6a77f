-- `desk::reasons::asked` meets its contract: the rule, on the day that `interest_terms` makes of what is asked.
use Rattle.desk.proofs.reasons.asked.Goals as goal

pub returns : goal.returns
returns c = rw (c.why.ensures, c.day_of.ensures)
