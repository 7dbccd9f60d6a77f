-- `put_maturities` meets its contract: the numbers of the maturities that were passed stand behind what was there.
use mathlib.Core.Path.{◌≡◌}
use mathlib.Core.List.{◌++◌}
use Prim.Native.Nat.{◌+◌, ◌*◌, ◌≤◌}
use lib.ListN.{length}
use Rattle.text_bytes.specs.Numbers.{spaced}
use Rattle.text_protocol.specs.Answers.{maturities_numbers}
use Rattle.text_answer.specs.Sizes.{key_bytes}
use Rattle.text_answer.proofs.interest_line.put_maturities.Given as goal

abbrev pub invariant-loop-f : goal.invariant-loop-f
invariant-loop-f l = record {
  text : l.out ≡ l.initial.out ++ spaced (maturities_numbers l.f-index l.f-items);
  most : length l.out ≤ length l.initial.out + l.f-index * key_bytes;
}
