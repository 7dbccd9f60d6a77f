-- `text_ask::id_asked` meets its contract: each arm by the variant that it knows.
use Rattle.text_ask.proofs.id_asked.Goals as goal

pub returns-in-About : goal.returns-in-About
returns-in-About c = rw (c.in-Call.is, c.in-About.is)
