-- `sums::add_bytes` meets its contract. The invariant: what is left so far, and then the bytes that are not passed, give
-- what all bytes give.
use Rattle.std.proofs.Common.{◌≡◌, drop}
use Rattle.sums.specs.Sums.{after_bytes}
use Rattle.sums.proofs.add_bytes.Given as goal

abbrev pub invariant-loop-byte : goal.invariant-loop-byte
invariant-loop-byte l = after_bytes l.left (drop l.byte-index l.bytes) ≡ after_bytes l.remainder l.bytes
