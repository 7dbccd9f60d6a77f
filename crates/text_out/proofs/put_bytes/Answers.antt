use native.Mathlib.Omega.{arith}
use Rattle.text_out.proofs.Lists.{copying_none, copying_more, copying_all}
use Rattle.text_out.proofs.put_bytes.Goals as goal

pub loop-i-init : goal.loop-i-init
loop-i-init c = copying_none _ _ _

pub put_byte-n-requires : goal.put_byte-n-requires
put_byte-n-requires c =
    omega (arith, c.loop-i.invariant.most, c.loop-i-test.true, c.requires.0, c.requires.1)

pub loop-i-preserved : goal.loop-i-preserved
loop-i-preserved c =
    copying_more _ _ _ _ _ _ c.loop-i.invariant _ _ c.loop-i-test.true
    (omega (arith, c.requires.1, c.loop-i-test.true)) c.put_byte-n.ensures

pub returns : goal.returns
returns c = copying_all _ _ _ _ _ _ c.loop-i.invariant c.loop-i-test.false
