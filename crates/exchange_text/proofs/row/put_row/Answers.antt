-- `exchange_text::row::put_row` meets its contract: the seven numbers stand where they are copied to.
use mathlib.Core.Path.{◌≡◌, ◌∙◌}
use Prim.Native.Nat.{◌+◌, ◌-◌, ◌*◌}
use native.Mathlib.Omega.{arith}
use lib.ListN.{drop, length-drop}
use lib.Seq.{take_all}
use Rattle.exchange_text.proofs.LineTurns.{stored_row}
use Rattle.exchange_text.proofs.row.put_row.Goals as goal

pub returns : goal.returns
returns c =
    let e : 7 * c.args.at + 7 - 7 * c.args.at ≡ 7 = omega arith in
    rw e (stored_row c.args.rows.now c.args.line.now c.copy_from_slice.new.self c.args.at c.told-line c.requires
    (c.copy_from_slice.ensures.after ∙ take_all 7 (drop 1 c.args.line.now) (omega (arith, length-drop 1 c.args.line.now))))
