-- `evaluation::gather` meets its contract: each turn is one law of `Gathering`.
use Rattle.evaluation.proofs.Gathering.{Walking}
use Rattle.evaluation.proofs.gather.Given as goal

abbrev pub invariant-loop-numbers : goal.invariant-loop-numbers
invariant-loop-numbers l = Walking l.rows l.numbers-iterator.rest.now l.numbers-iterator.size l.book
