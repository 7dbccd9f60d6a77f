-- `Numbers::keep` meets its contract: a number more, kept where there is room for it.
use mir.Facts.{to_z-of_z}
use borrow.Author.Rules.{rules}
use Rattle.text_line.proofs.LineLoop.{keeps_room, keeps_full}
use Rattle.text_line.proofs.numbers.Numbers.keep.Goals as goal

pub returns-then-self-lt-KEPT : goal.returns-then-self-lt-KEPT
returns-then-self-lt-KEPT c =
    rw (← c.self.view_is, to_z-of_z c.ranges.z)
    (keeps_room c.self.inside.kept c.self.inside.count c.args.z (search rules) c.if-self-lt-KEPT.true)

pub returns-else-self-lt-KEPT : goal.returns-else-self-lt-KEPT
returns-else-self-lt-KEPT c =
    rw (← c.self.view_is)
    (keeps_full c.self.inside.kept c.self.inside.count c.args.z (search rules) c.self.invariant c.if-self-lt-KEPT.false)
