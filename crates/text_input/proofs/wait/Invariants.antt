-- `text_input::wait` meets its contract: reads until a line feed stands behind the first `have` bytes, which have none,
-- or the buffer is full, or the input has ended.
use Rattle.text_input.proofs.InputLoops.{Waiting}
use Prim.Native.Nat.{◌-◌}
use Rattle.text_bytes.specs.Bytes.{room}
use Rattle.text_input.proofs.wait.Given as goal

abbrev pub invariant-loop-len : goal.invariant-loop-len
invariant-loop-len l = Waiting l.initial.buf l.have l.initial.read l.buf l.len l.read

abbrev pub decreases-loop-len : goal.decreases-loop-len
decreases-loop-len l = room - l.len
