-- `text_serve::step` meets its contract: what is heard, performed and answered is one turn (`turned`).
use Rattle.std.proofs.Common.{refl}
use Rattle.text_serve.proofs.Turning.{turned}
use Rattle.text_serve.proofs.step.Goals as goal

pub returns : goal.returns
returns c = (turned _ _ c.prepare-p.ensures refl c.asked_in-a.ensures.0 c.tell.ensures, c.asked_in-a.ensures.1)
