-- `text_serve::note_of` meets its contract: its test is the definition's.
use native.Mathlib.Omega.{arith}
use borrow.Author.Tests.{ltb-true}
use Rattle.paper.proofs.Logic.{and_right}
use Rattle.text_serve.specs.Places.{note_of}
use Rattle.text_serve.proofs.note_of.Goals as goal

pub overflow_add-result : goal.overflow_add-result
overflow_add-result c = omega (arith, ltb-true c.args.at _ (and_right c.args.good _ c.if-good-at.true))

pub returns-then-good-at : goal.returns-then-good-at
unfolding note_of
returns-then-good-at c = rw c.if-good-at.true

pub returns : goal.returns
unfolding note_of
returns c = rw c.if-good-at.false
