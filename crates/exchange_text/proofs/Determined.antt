-- "For every input, refusals among them, a public call's promise must determine the answer": any two answers that the
-- contract of `read_exchange` allows are equal. `Post` is the plain reading of its own `ensures`: at its arguments, the
-- result, and the parameters as it returns.
use mathlib.Core.Path.{◌≡◌}
use contract.Lifetimes.{Lfts}
use borrow.Fn.World.{ArgsD, ResD}
use borrow.Fn.Kinds.{ended_of}
use denote.Triple.Clauses.{AtExit}
use Rattle.exchange_protocol.proofs.Texts.{says_unique}
use Rattle.exchange_text.specs.contracts.read_exchange.{signature}
use Rattle.exchange_text.proofs.read_exchange

pub read_exchange_determined : (κs : Lfts 1) (a : ArgsD signature κs)
    → (r r' : ResD signature κs)
    → (s s' : AtExit (ended_of 1 read_exchange.Kinds.ps read_exchange.Kinds.r) κs)
    → read_exchange.Reads.Post κs a r s → read_exchange.Reads.Post κs a r' s' → r ≡ r'
read_exchange_determined κs a r r' s s' p p' = says_unique p p'
