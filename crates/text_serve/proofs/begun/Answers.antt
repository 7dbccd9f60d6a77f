-- `text_serve::begun` meets its contract: `begin` is handed over first.
use Rattle.text_serve.proofs.begun.Goals as goal

pub returns : goal.returns
returns c = rw (c.begin_message.ensures, c.unwritten.ensures) at c.send.ensures
