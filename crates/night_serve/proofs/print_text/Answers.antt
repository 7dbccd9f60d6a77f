use mathlib.Core.Path.{◌≡◌, ap, ◌∙◌}
use Prim.Native.Nat.{◌≤◌, ◌*◌}
use native.Mathlib.Omega.{arith}
use lib.ListN.{length, drop, get_or, length-take}
use Rattle.paper.specs.Numbers.{row_numbers, all_numbers_most}
use Rattle.night_serve.proofs.Lines.{printing_none, printing_more}
use Rattle.night_serve.proofs.print_text.Goals as goal

pub loop-i-init : goal.loop-i-init
loop-i-init c = rw c.clear.ensures (printing_none _ _ _)

pub loop-i-preserved : goal.loop-i-preserved
loop-i-preserved c =
    let s = c.args.securities.now in
    let i = c.loop-i.i in
    let few : length c.rows.result.now ≤ all_numbers_most =
    omega (
      arith,
      ap length c.rows.ensures,
      length-take (row_numbers * get_or s.counts i 0) (drop (all_numbers_most * i) s.figures),
      c.requires.1.held.few_rows i c.loop-i-test.true,
    ) in
    rw c.put.ensures
    (printing_more _ _ _ _ _ c.loop-i.invariant c.loop-i-test.true _ _ c.rows.ensures
    (c.as_slice.ensures.bytes ∙ c.put_line.ensures.text)
    (omega (arith, ap length c.as_slice.ensures.bytes, c.put_line.ensures.most, few)))
