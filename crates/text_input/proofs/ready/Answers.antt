-- `text_input::ready` meets its contract: a line is whole, or the buffer is full, or the input has ended.
use Rattle.text_input.proofs.InputLoops.{readied_now, unbroken_now, readied_later}
use native.Mathlib.Omega.{arith}
use mathlib.Core.Path.{◌∙◌}
use Rattle.text_input.proofs.ready.Goals as goal

pub returns-then-s : goal.returns-then-s
returns-then-s c = readied_now _ _ c.requires c.if-s.true

pub wait-w-requires : goal.wait-w-requires
wait-w-requires c =
    let f = c.shift-n.ensures in
    let p = c.requires in (
      f.2 ∙ p.long,
      omega (arith, f.0, p.in_b),
      unbroken_now _ _ p c.if-s.false _ _ f.0 f.1,
    )

pub returns : goal.returns
returns c =
    readied_later _ _ c.requires c.if-s.false _ _ c.shift-n.ensures.0
    c.shift-n.ensures.1 _ _ c.wait-w.ensures
