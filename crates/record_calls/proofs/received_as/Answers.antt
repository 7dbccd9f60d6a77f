-- `record_calls::received_as` meets its contract: 20 applies, behind 1, or the pair is kept.
use mathlib.Core.Path.{◌≡◌, refl, sym, ◌∙◌}
use mathlib.Core.Bool.{true}
use Rattle.paper.specs.Verdicts.{here, none, also}
use Rattle.paper_desk.specs.Desk.{received, receiving}
use Rattle.record_answers.specs.Effects.{is_known}
use Rattle.record_answers.proofs.Judging.{known_refused, known_accepted}
use Rattle.record_calls.proofs.received_as.Goals as goal
use Rattle.record_calls.proofs.received_as.Goals.{After-r-1}

known : (c : After-r-1) → is_known c.before.args.s ≡ true
known c = c.before.requires

pub returns-then-bad : goal.returns-then-bad
returns-then-bad c = λ x b k. c.refused.ensures
    ∙ known_refused _ (receiving x) (known (goal.at.returns-then-bad c).After-r-1) (here refl (b ∙ c.if-bad.true))

pub returns : goal.returns
unfolding received
returns c = λ x b k.
    rw (c.written.ensures, c.watching-rec.ensures, sym k)
    (known_accepted _ (receiving x) (known (goal.at.returns c).After-r-1) (also (b ∙ c.if-bad.false) none))
