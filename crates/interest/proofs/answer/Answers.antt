-- `interest::answer` meets its contract: 6, then 14, else the figures.
use Rattle.paper_interest.specs.Interest.{interest_answer}
use Rattle.paper.specs.Verdicts.{is_done}
use Rattle.interest.proofs.answer.Goals as goal

pub returns-in-Ok : goal.returns-in-Ok
unfolding interest_answer is_done
returns-in-Ok c =
    let known = c.in-Ok.ensures.accepted in
    rw (known.2) (rw (known.0, known.1) at c.answer.ensures)

pub returns-in-Err : goal.returns-in-Err
unfolding interest_answer
returns-in-Err c = let known = c.in-Err.ensures.refused in rw (c.refused.ensures, known.0, known.1)
