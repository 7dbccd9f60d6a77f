-- `text_word::find` meets its contract: the run goes on behind each sixteen bytes of which none is b.
use native.Mathlib.Omega.{arith}
use mathlib.Core.Path.{refl}
use Rattle.text_word.proofs.WordLoops.{running_none, running_end, onward_both, none_onward}
use Rattle.text_word.proofs.find.Goals as goal

pub loop-i-init : goal.loop-i-init
loop-i-init c = running_none _ _ _ c.requires

pub returns-then-not-none_is : goal.returns-then-not-none_is
returns-then-not-none_is c = running_end _ _ _ _ c.loop-i.invariant _ c.find_near.ensures

pub loop-i-preserved : goal.loop-i-preserved
loop-i-preserved c =
    onward_both _ _ _ _ _ _ c.loop-i.invariant
    (none_onward _ _ _ 16 _ _ (omega arith) (omega arith) c.none_is.ensures c.if-not-none_is.false) refl

pub returns : goal.returns
returns c = running_end _ _ _ _ c.loop-i.invariant _ c.find_near-2.ensures
