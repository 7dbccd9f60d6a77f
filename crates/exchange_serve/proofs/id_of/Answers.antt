use mathlib.Core.Path.{refl, sym}
use borrow.Author.Tests.{eqb-true, eqb-false}
use Rattle.exchange_serve.proofs.Serving.{none_asked, asking_none, asking_small, asking_over, asking_stops}
use Rattle.exchange_serve.proofs.Serving.{asking_more}
use Rattle.exchange_serve.proofs.id_of.Goals as goal

pub returns-then-is_empty : goal.returns-then-is_empty
returns-then-is_empty c = none_asked _ (eqb-true _ 0 (sym c.if-is_empty.ensures))

pub loop-b-init : goal.loop-b-init
loop-b-init c = asking_none _ (eqb-false _ 0 (sym c.if-is_empty.ensures))

pub returns-then-not-is_ascii_digit : goal.returns-then-not-is_ascii_digit
returns-then-not-is_ascii_digit c =
    asking_stops _ _ _ c.loop-b.invariant c.loop-b-test.true _ refl (sym c.if-not-is_ascii_digit.ensures.value)

pub loop-b-preserved : goal.loop-b-preserved
loop-b-preserved c =
    asking_more _ _ _ c.loop-b.invariant c.loop-b-test.true _ refl (sym c.if-not-is_ascii_digit.ensures.value) _
    (rw c.from.ensures at c.grown-n.ensures)

pub returns-then-n-le-ID_MOST : goal.returns-then-n-le-ID_MOST
returns-then-n-le-ID_MOST c =
    asking_small _ _ _ c.loop-b.invariant c.loop-b-test.false c.if-n-le-ID_MOST.true

pub returns-else-n-le-ID_MOST : goal.returns-else-n-le-ID_MOST
returns-else-n-le-ID_MOST c =
    asking_over _ _ _ c.loop-b.invariant c.loop-b-test.false c.if-n-le-ID_MOST.false
