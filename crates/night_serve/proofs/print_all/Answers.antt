-- `night_serve::print_all` meets its contract: the securities of the text, and then those that are asked for.
use Rattle.night_serve.proofs.Whole.{prints_all}
use Rattle.night_serve.proofs.print_all.Goals as goal

pub returns : goal.returns
returns c = prints_all _ _ _ _ _ _ _ c.print_text.ensures c.join-to.ensures c.print_asked.ensures
