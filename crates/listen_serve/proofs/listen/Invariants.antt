-- `listen_serve::listen` meets its contract: step after step, until nothing more is heard.
use Rattle.listen_serve.specs.Steps.{to_go}
use Rattle.listen_serve.proofs.ListeningTurns.{Came}
use Rattle.listen_serve.proofs.listen.Given as goal

abbrev pub invariant-loop-s : goal.invariant-loop-s
invariant-loop-s l = Came l.initial.buf l.initial.out l.buf l.s l.out

abbrev pub decreases-loop-s : goal.decreases-loop-s
decreases-loop-s l = to_go l.s
