-- `exchange_serve::id_of` meets its contract: what is left to read, behind the digits of n, asks for the same security.
use Rattle.exchange_serve.proofs.Serving.{Asking}
use Rattle.exchange_serve.proofs.id_of.Given as goal

abbrev pub invariant-loop-b : goal.invariant-loop-b
invariant-loop-b l = Asking l.p l.b-index l.n
