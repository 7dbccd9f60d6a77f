use mathlib.Core.Path.{sym}
use native.Mathlib.Omega.{arith}
use borrow.Author.Tests.{eqb-true}
use Rattle.night_serve.specs.Tables.{Reads}
use Rattle.night_serve.proofs.Walking.{too_long, walks_none, walks_all, walks_bad, walks_full, walks_on}
use Rattle.night_serve.proofs.Walking.{further, some_left}
use Rattle.night_serve.proofs.reading.read_night.Goals as goal

pub returns-then-t-gt-TEXT_MOST : goal.returns-then-t-gt-TEXT_MOST
unfolding Reads
returns-then-t-gt-TEXT_MOST c = too_long _ c.if-t-gt-TEXT_MOST.true

pub loop-rest-init : goal.loop-rest-init
loop-rest-init c = walks_none _ _ _ _ (omega arith) (omega arith) (omega arith) c.if-t-gt-TEXT_MOST.false

pub returns-in_default : goal.returns-in_default
unfolding Reads
returns-in_default c =
    walks_bad _ _ _ _ c.loop-rest.invariant (some_left _ c.loop-rest-test.ensures) c.in_default.ensures

pub returns-in_default-enter : goal.returns-in_default-enter
unfolding Reads
returns-in_default-enter c =
    walks_full _ _ _ _ c.loop-rest.invariant _ _ c.in-Some.ensures _ c.in_default-enter.ensures

pub loop-rest-smaller : goal.loop-rest-smaller
loop-rest-smaller c = further _ _ _ _ c.loop-rest.invariant _ _ c.in-Some.ensures

pub loop-rest-preserved : goal.loop-rest-preserved
loop-rest-preserved c =
    walks_on _ _ _ _ c.loop-rest.invariant _ _ c.in-Some.ensures _ _ c.in-Some-enter.ensures

pub returns : goal.returns
unfolding Reads
returns c = walks_all _ _ _ _ c.loop-rest.invariant (eqb-true _ 0 (sym c.loop-rest-test.ensures))
