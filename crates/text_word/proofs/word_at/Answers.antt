-- `word_at` meets its contract: where digits end a word they are the whole of it, and any other word is passed and read
-- as the definition says.
use mir.ValLaws.{to_z_pos}
use mir.Syntax.{w64}
use Prim.Native.Nat.{◌<◌, ◌^◌}
use native.Mathlib.Omega.{arith}
use Rattle.text_word.proofs.Leading.{digits_end, digits_item}
use Rattle.text_word.proofs.word_at.Goals as goal

pub returns-then-ends_at : goal.returns-then-ends_at
returns-then-ends_at c =
    let led = c.digits_at-d in
    let some = c.if-from-end.true in
    let ends = c.ends_at.ensures c.if-ends_at.true in
    let small : led.result.size < 2 ^ 63 = omega (arith, led.ensures.small) in
    record {
      is = digits_end _ _ _ _ led.ensures some ends;
      in_t = led.ensures.word.in_t;
      item = rw (to_z_pos w64 led.result.size small) (digits_item _ _ _ _ led.ensures some ends);
    }

pub returns : goal.returns
returns c =
    let passed = c.past_word-e.ensures in
    record { is = passed.0; in_t = passed.1; item = c.item_of.ensures }
