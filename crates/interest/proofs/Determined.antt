-- "For every input, refusals among them, a public call's promise must determine the answer": any two answers that the
-- contract of `answer` allows are equal. `Post` is the plain reading of its own `ensures`: at its arguments, the
-- result, and the parameters as it returns.
use mathlib.Core.Path.{◌≡◌, sym, ◌∙◌}
use contract.Lifetimes.{Lfts}
use borrow.Fn.World.{ArgsD, ResD}
use borrow.Fn.Kinds.{ended_of}
use denote.Triple.Clauses.{AtExit}
use Rattle.interest.specs.contracts.answer.{signature}
use Rattle.interest.proofs.answer as answer

pub answer_determined : (κs : Lfts 1) (a : ArgsD signature κs) (r r' : ResD signature κs)
    (s s' : AtExit (ended_of 1 answer.Kinds.ps answer.Kinds.r) κs)
    → answer.Reads.Post κs a r s → answer.Reads.Post κs a r' s' → r ≡ r'
answer_determined κs a r r' s s' p p' = p ∙ sym p'
