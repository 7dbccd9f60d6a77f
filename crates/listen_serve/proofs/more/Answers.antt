-- `listen_serve::more` meets its contract: what is read stands behind what is not heard yet.
use mathlib.Core.Path.{refl, ◌∙◌}
use Rattle.listen_serve.proofs.ListeningTurns.{delivered_both}
use Rattle.listen_serve.proofs.more.Goals as goal

pub returns : goal.returns
returns c =
    let shifted = c.shift-have.ensures in
    let both = delivered_both _ _ _ c.args.s _ _ c.requires.0 c.requires.1 c.requires.2
    shifted.0 (rw shifted.0 shifted.1) (shifted.2 ∙ c.requires.0.long) c.fill-read.ensures _
    c.came.ensures in
    (both.0, both.1, refl, refl)
