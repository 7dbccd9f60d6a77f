-- `text_input::pass_over` meets its contract: passes over the rest of a line that is longer than the buffer.
use Prim.Native.Nat.{◌-◌}
use Rattle.text_input.proofs.InputLoops.{Passing}
use Rattle.text_evidence.specs.Evidence.{count_most}
use Rattle.text_input.proofs.pass_over.Given as goal

abbrev pub invariant-loop-turn : goal.invariant-loop-turn
invariant-loop-turn l = Passing l.initial.read l.buf (count_most - l._turn) l.read
