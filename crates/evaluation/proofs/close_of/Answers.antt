-- `evaluation::close_of` meets its contract: its test is the definition's.
use borrow.Author.Tests.{eq-eqb, ne_eqb}
use Rattle.evaluation.specs.Book.{close_in}
use Rattle.evaluation.proofs.close_of.Goals as goal

pub returns-then-book-eq0 : goal.returns-then-book-eq0
unfolding close_in
returns-then-book-eq0 c = rw (eq-eqb _ _ c.if-book-eq0.true)

pub returns-else-book-eq0 : goal.returns-else-book-eq0
unfolding close_in
returns-else-book-eq0 c = rw (ne_eqb _ _ c.if-book-eq0.false) c.half_up.ensures
