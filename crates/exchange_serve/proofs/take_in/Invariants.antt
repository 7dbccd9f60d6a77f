-- `exchange_serve::take_in` meets its contract: each read stands behind the last, and leaves less room.
use Prim.Native.Nat.{◌-◌}
use lib.ListN.{length}
use Rattle.exchange_serve.proofs.Serving.{Taking}
use Rattle.exchange_serve.proofs.take_in.Given as goal

abbrev pub invariant-loop-len : goal.invariant-loop-len
invariant-loop-len l = Taking l.initial.buf l.buf l.len l.read

abbrev pub decreases-loop-len : goal.decreases-loop-len
decreases-loop-len l = length l.buf - l.len
