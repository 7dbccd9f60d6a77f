-- `record_evaluation::worked_at` meets its contract: where 1, 6, 16, 5 and 7 do not apply, each return is the first
-- check that applies, 8 or 9, or none.
use mathlib.Core.Path.{◌≡◌, sym, ap, ◌∙◌}
use mathlib.Core.List.{List}
use lib.IntN.{ℤ}
use Rattle.paper_desk.specs.Rates.{move_too_large}
use Rattle.paper_desk.specs.Desk.{price_on, move_on}
use Rattle.evaluation.specs.declared.Priced.{Priced}
use Rattle.evaluation.specs.Evaluation.{priced_of}
use Rattle.record_evaluation.specs.Workings.{priced_on}
use Rattle.inputs.proofs.Facts.{day_facts}
use Rattle.rates.proofs.Statics.{sound_figures_in_ranges}
use Rattle.record_writing.specs.Evaluates.{move_to, figures_at}
use Rattle.record_evaluation.proofs.Judging.{day_moved_far, day_crossed, day_accepted}
use Rattle.record_evaluation.proofs.Evaluations.{sound_prices_valid}
use mathlib.Core.Bool.{not}
use Rattle.record_evaluation.proofs.worked_at.Goals as goal
use Rattle.record_evaluation.proofs.worked_at.Goals.{After-move_of-price_move, After-move_too_large, Start}

-- what was given, of the stage that has the move
abbrev start : After-move_of-price_move → Start
start c = c.before.before.before.before.before.before.before.before.before

-- the price of the rows is the evaluation's
price_is : (c : After-move_of-price_move) (rows : List ℤ)
    → let a = (start c).args in
    priced_on a.s.rec rows ≡ a.e → price_on a.s.rec rows ≡ a.e.price.units
unfolding priced_of price_on
price_is c rows e = ap (λ (x : Priced). x.price.units) e

-- the move that is tested is that of any rows with this price
move_tested : (c : After-move_too_large) (rows : List ℤ)
    → let a = (start c.before).args in
    let r = a.s.rec in
    priced_on r rows ≡ a.e → c.move_too_large.result ≡ move_too_large r.statics (move_on r rows)
unfolding move_on
move_tested c rows e = rw (price_is c.before rows e, ← c.before.move_of-price_move.ensures) c.move_too_large.ensures

pub move_of-price_move-requires : goal.move_of-price_move-requires
move_of-price_move-requires c =
    let both = sound_prices_valid _ c.requires.rec_value in
    (both.0, both.1, c.requires.units_value)

pub returns-then-move_too_large : goal.returns-then-move_too_large
returns-then-move_too_large c = λ rows k e.
    c.unmade.ensures ∙ day_moved_far _ _ rows k (sym (move_tested (goal.at.returns-then-move_too_large c).After-move_too_large rows e)
    ∙ c.if-move_too_large.true)

pub figures_of-f-requires : goal.figures_of-f-requires
figures_of-f-requires c =
    let s = start (goal.at.figures_of-f-requires c).After-move_of-price_move in
    let ranges = sound_figures_in_ranges _ _ s.requires.rec_value (day_facts s.args.d s.requires.d_value).m_most in
    record { figure_ranges = ranges; r_value = sym c.move_too_large.ensures ∙ c.if-move_too_large.false }

pub made_at-made-requires : goal.made_at-made-requires
unfolding figures_at move_to
made_at-made-requires c =
    let s = start (goal.at.made_at-made-requires c).After-move_of-price_move in
    record {
      sound_record = s.requires.rec_value;
      day = s.requires.d_value;
      price = s.requires.units_value;
      figures = rw (← c.move_of-price_move.ensures) c.figures_of-f.ensures;
    }

pub returns-then-not-in_order : goal.returns-then-not-in_order
returns-then-not-in_order c = λ rows k e.
    let held = sym (move_tested (goal.at.returns-then-not-in_order c).After-move_too_large rows e) ∙ c.if-move_too_large.false in
    let made = c.made_at-made.ensures rows (price_is (goal.at.returns-then-not-in_order c).After-move_of-price_move rows e) in
    day_crossed _ _ rows k held made (sym (ap (λ (x : Priced). x.figures) e)) c.in_order.ensures (ap not c.if-not-in_order.true)

pub returns : goal.returns
returns c = λ rows k e.
    let held = sym (move_tested (goal.at.returns c).After-move_too_large rows e) ∙ c.if-move_too_large.false in
    let made = c.made_at-made.ensures rows (price_is (goal.at.returns c).After-move_of-price_move rows e) in
    day_accepted _ _ rows k held made (sym (ap (λ (x : Priced). x.figures) e)) c.in_order.ensures (ap not c.if-not-in_order.false)
