use native.Mathlib.Omega.{arith}
use lib.ListN.{get_or}
use lib.IntN.{pos}
use mir.Facts.{to_z-of_z}
use mir.Syntax.{w64}
use borrow.Author.Rules.{rules}
use Rattle.text_out.proofs.Lists.{telling_none, telling_more, telling_all}
use Rattle.text_out.proofs.put_numbers.Goals as goal

pub loop-i-init : goal.loop-i-init
loop-i-init c = telling_none _ _ _

pub loop-i-preserved : goal.loop-i-preserved
loop-i-preserved c =
    telling_more _ _ _ _ _ _ c.loop-i.invariant _ _ c.loop-i-test.true
    (omega (arith, c.requires.1, c.loop-i-test.true))
    (rw (to_z-of_z {w = w64} {z = get_or c.args.zs.now c.loop-i.i (pos 0)} (search rules)) at
    c.put_next_signed-n.ensures)

pub returns : goal.returns
returns c = telling_all _ _ _ _ _ _ c.loop-i.invariant c.loop-i-test.false
