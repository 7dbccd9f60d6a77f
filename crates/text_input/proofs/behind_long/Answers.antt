-- `text_input::behind_long` meets its contract: the input behind a line that is longer than the buffer.
use Rattle.text_input.proofs.Lines.{long_ended, long_found}
use Rattle.text_input.proofs.behind_long.Goals as goal

pub returns-in-None : goal.returns-in-None
returns-in-None c = long_ended _ _ _ c.pass_over-p.ensures _ _ c.in-None.is c.ended.ensures

pub returns-in-Some : goal.returns-in-Some
returns-in-Some c =
    let f = c.from_place.ensures in
    long_found _ _ _ c.pass_over-p.ensures _ _ _ c.in-Some.is f.0 f.1 f.2 f.3 f.4
