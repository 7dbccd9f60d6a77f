-- `text_serve::send` meets its contract: what was appended to an empty text is handed over.
use Rattle.text_serve.proofs.send.Goals as goal

pub returns : goal.returns
returns c =
    rw (c.length.ensures.length, c.send.ensures.text, c.new-out.ensures) at c.hand.ensures
