use Rattle.text_input.proofs.InputLoops.{waiting_none, waiting_full, waiting_ended, waiting_found}
use Rattle.text_input.proofs.InputLoops.{waiting_more}
use lib.Seq.{length-take-le}
use native.Mathlib.Omega.{arith}
use native.Mathlib.Nat.{pos_of_ne-zero}
use Prim.Native.Nat.{◌<◌}
use mathlib.Core.Path.{sym}
use Rattle.text_input.proofs.wait.Goals as goal

pub loop-len-init : goal.loop-len-init
loop-len-init c = waiting_none _ _ _ c.requires.0 c.requires.1 c.requires.2

pub returns-then-len-buf : goal.returns-then-len-buf
returns-then-len-buf c = waiting_full c.loop-len.invariant c.if-len-buf.true

pub overflow_add-n : goal.overflow_add-n
overflow_add-n c =
    let f = c.fill-read.ensures in
    let i = c.loop-len.invariant in
    omega (arith, c.came.ensures, f.most, f.room, i.long, i.in_b)

pub returns-then-n-len : goal.returns-then-n-len
returns-then-n-len c =
    waiting_ended c.loop-len.invariant c.fill-read.ensures c.came.ensures
    c.if-len-buf.false c.if-n-len.true

pub slice_bounds-find-end : goal.slice_bounds-find-end
slice_bounds-find-end c =
    let f = c.fill-read.ensures in
    let i = c.loop-len.invariant in
    omega (arith, c.came.ensures, f.most, f.room, f.long, i.long, i.in_b)

pub slice_bounds-find-end-in-loop-len : goal.slice_bounds-find-end-in-loop-len
slice_bounds-find-end-in-loop-len c =
    let f = c.fill-read.ensures in
    let i = c.loop-len.invariant in
    sym (length-take-le _ _ (omega (
      arith,
      c.came.ensures,
      f.most,
      f.room,
      f.long,
      i.long,
      i.in_b,
    )))

pub find-e-requires : goal.find-e-requires
find-e-requires c = let l = slice_bounds-find-end-in-loop-len c in omega (arith, l)

pub returns-then-e-n : goal.returns-then-e-n
returns-then-e-n c =
    waiting_found c.loop-len.invariant c.fill-read.ensures c.came.ensures _
    c.find-e.ensures.0 c.if-e-n.true

pub loop-len-smaller : goal.loop-len-smaller
loop-len-smaller c =
    let f = c.fill-read.ensures in
    let i = c.loop-len.invariant in
    let k = c.came in
    let d : 0 < k.result = pos_of_ne-zero (λ e. c.if-n-len.false (omega (arith, e))) in
    omega (arith, d, k.ensures, f.most, f.room, i.long)

pub loop-len-preserved : goal.loop-len-preserved
loop-len-preserved c =
    waiting_more c.loop-len.invariant c.fill-read.ensures c.came.ensures _
    c.find-e.ensures.0 c.if-e-n.false c.find-e.ensures.1
