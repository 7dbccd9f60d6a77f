-- The invariant: the lines so far are heard, performed and answered, turn after turn (`Sofar`), and what is noted is sound.
-- The measure: the lines that may still be heard.
use Rattle.text_serve.specs.Places.{Sound}
use Rattle.text_serve.proofs.Joining.{Sofar}
use Rattle.text_serve.proofs.serve.Given as goal

abbrev pub invariant-loop-s : goal.invariant-loop-s
invariant-loop-s l = Sofar l.fn.telling l.initial.t l.buf l.s l.t l.out × Sound l.t l.places

abbrev pub decreases-loop-s : goal.decreases-loop-s
decreases-loop-s l = l.s.input.left
