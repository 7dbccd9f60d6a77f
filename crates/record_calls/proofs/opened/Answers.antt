-- `record_calls::opened` meets its contract: each return is the first check behind 1 that applies, 10 or 19, or
-- the evening is opened.
use mathlib.Core.Path.{◌≡◌, refl, sym, ◌∙◌, ap}
use mathlib.Core.Bool.{true, not}
use Rattle.paper.specs.Ranges.{is_live}
use Rattle.paper.specs.Verdicts.{here, later, none, also}
use Rattle.paper_desk.specs.Desk.{evening_opened, opening}
use Rattle.record_answers.specs.Effects.{is_known}
use Rattle.record_answers.proofs.Tests.{tested_true, tested_false}
use Rattle.record_answers.proofs.Judging.{known_refused, known_accepted}
use Rattle.record_calls.proofs.opened.Goals as goal
use Rattle.record_calls.proofs.opened.Goals.{After-r-1, Else-not-is_live, Start}

known : (c : After-r-1) → is_known c.before.args.s ≡ true
known c = c.before.requires

-- the start, seen from where the record is live
abbrev live-from : Else-not-is_live → Start
live-from c = c.before.before.before

live : (c : Else-not-is_live) → is_live (live-from c).args.s.rec.standing ≡ true
live c = tested_true _ c.before.is_live.ensures (ap not c.if-not-is_live.false)

pub returns-then-not-is_live : goal.returns-then-not-is_live
returns-then-not-is_live c =
    c.refused.ensures
    ∙ known_refused _ opening (known (goal.at.returns-then-not-is_live c).After-r-1)
    (here refl (ap not (tested_false _ c.is_live.ensures (ap not c.if-not-is_live.true))))

pub returns-then-is_evening : goal.returns-then-is_evening
returns-then-is_evening c =
    c.refused-then-is_evening.ensures
    ∙ known_refused _ opening (known (goal.at.returns-then-is_evening c).After-r-1)
    (later (ap not (live (goal.at.returns-then-is_evening c).Else-not-is_live)) (here refl (sym c.is_evening.ensures ∙ c.if-is_evening.true)))

pub returns : goal.returns
unfolding evening_opened
returns c =
    rw (c.written.ensures, c.watching-rec.ensures)
    (known_accepted _ opening (known (goal.at.returns c).After-r-1)
    (also (ap not (live (goal.at.returns c).Else-not-is_live)) (also (sym c.is_evening.ensures ∙ c.if-is_evening.false) none)))
