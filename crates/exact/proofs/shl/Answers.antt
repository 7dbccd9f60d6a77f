-- `shl` meets its contract: nothing is shifted out.
use native.Mathlib.Nat.{mod-eq_of_lt}
use Rattle.exact.proofs.shl.Goals as goal

pub returns : goal.returns
returns c = mod-eq_of_lt c.requires.1
