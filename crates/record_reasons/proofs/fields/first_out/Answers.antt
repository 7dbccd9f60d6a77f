use mathlib.Core.Path.{sym, ◌∙◌}
use native.Mathlib.Omega.{arith}
use Rattle.record_reasons.proofs.SeekingOut.{seeking_first, seeking_found, seeking_next, seeking_end}
use Rattle.record_reasons.proofs.fields.first_out.Goals as goal

pub loop-at-init : goal.loop-at-init
loop-at-init c = seeking_first _ _ _

pub is_out-requires : goal.is_out-requires
is_out-requires c = omega (arith, c.requires.0, c.requires.1)

pub returns-then-is_out : goal.returns-then-is_out
returns-then-is_out c =
    seeking_found _ _ _ c.requires _ _ c.loop-at.invariant c.loop-at-test.true
    (sym c.is_out.ensures ∙ c.if-is_out.true)

pub overflow_add-place : goal.overflow_add-place
overflow_add-place c =
    omega (arith, c.loop-at.invariant.counts)

pub loop-at-preserved : goal.loop-at-preserved
loop-at-preserved c =
    seeking_next _ _ _ c.requires _ _ c.loop-at.invariant c.loop-at-test.true
    (sym c.is_out.ensures ∙ c.if-is_out.false)

pub returns : goal.returns
returns c = seeking_end _ _ _ _ _ c.loop-at.invariant c.loop-at-test.false
