-- `Text::put_numbers` meets its contract: the numbers that were passed stand behind what was there.
use mathlib.Core.Path.{◌≡◌}
use mathlib.Core.List.{◌++◌}
use Prim.Native.Nat.{◌+◌, ◌*◌, ◌≤◌}
use lib.ListN.{length, take}
use Rattle.text_bytes.specs.Numbers.{spaced}
use Rattle.text_out.specs.Places.{next_signed_bytes}
use Rattle.text_out.proofs.Text.put_numbers.Given as goal

abbrev pub invariant-loop-z : goal.invariant-loop-z
invariant-loop-z l = record {
  text : l.self ≡ l.initial.self ++ spaced (take l.z-index l.zs);
  most : length l.self ≤ length l.initial.self + l.z-index * next_signed_bytes;
}
