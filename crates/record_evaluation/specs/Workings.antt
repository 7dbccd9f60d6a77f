-- What an evaluation comes to before it is answered: what `evaluate` stores and answers is made of it, and so is why
-- (W-207).
use Rattle.std.specs.Prelude.{◌≡◌, Bool, true, false, ◌||◌, List, leb, eqb, ℤ}
use Rattle.paper.specs.declared.Day.{Day}
use Rattle.paper.specs.declared.Record.{Record}
use Rattle.paper.specs.declared.Verdict.{Verdict}
use Rattle.paper.specs.declared.Verdict.TheVariants.{BandCrossed}
use Rattle.paper.specs.Lists.{pick}
use Rattle.paper.specs.Ranges.{grid_of, last_day, valid_day}
use Rattle.paper_desk.specs.Evaluation.{day_rows, has_crossed_row, evaluation_fits}
use Rattle.paper.specs.Verdicts.{number_of, is_done, first_of}
use Rattle.paper_desk.specs.Desk.{blank, used_by, evaluated, evaluate_checks}
use Rattle.evaluation.specs.declared.PriceFigures.{PriceFigures}
use Rattle.evaluation.specs.declared.Priced.{Priced}
use Rattle.evaluation.specs.Evaluation.{priced_of}
use Rattle.record_writing.specs.Evaluates.{made_of}
use Rattle.record_answers.specs.declared.Slot.{Slot}
use Rattle.record_evaluation.specs.declared.Working.{Working}
use Rattle.record_answers.specs.Effects.{is_known}

-- the evaluation of the rows on the record's grid, and the figures that it was chosen from
abbrev pub priced_on : Record → (rows : List ℤ) → Priced
priced_on r rows = priced_of (grid_of r.statics.lot) r.p1.units (used_by r) (day_rows rows)

abbrev pub no_figures : PriceFigures
no_figures = record { weight = 0; close = 0; bid = 0; ask = 0 }

-- a number before 9 leaves nothing made
abbrev pub unmade_by : Verdict → Working
unmade_by v = record { verdict = v; made = made_of blank; figures = no_figures }

-- and behind it the record that the paper writes is made, whether its bands are crossed or not
abbrev pub made_with : Slot → Day → (rows : List ℤ) → Verdict → Working
made_with s d rows v =
    record { verdict = v; made = made_of (evaluated s.rec d rows); figures = (priced_on s.rec rows).figures }

-- whether a verdict leaves a record made: 0 or 9
unfoldable pub is_made : Verdict → Bool
is_made v = is_done v || eqb (number_of v) (number_of BandCrossed)

unfoldable pub worked_of : Slot → Day → (rows : List ℤ) → Working
worked_of s d rows =
    let v : Verdict = first_of (evaluate_checks (is_known s) s.rec d rows) in
    pick (is_made v) (made_with s d rows v) (unmade_by v)

-- 1, 6 and 16 do not apply
pub record Begun (s : Slot) (d : Day) (rows : List ℤ) : Type 0 where
  pub known : is_known s ≡ true
  pub valid : valid_day d rows ≡ true
  pub uncrossed : has_crossed_row (day_rows rows) ≡ false

-- nor do 5 and 7
pub record Evaluates (s : Slot) (d : Day) (rows : List ℤ) : Type 0 where
  pub begun : Begun s d rows
  pub later : leb d.day (last_day s.rec.standing) ≡ false
  pub fits : evaluation_fits (grid_of s.rec.statics.lot) s.rec.p1.units (used_by s.rec) (day_rows rows) ≡ true

-- w is what a day of any rows comes to whose evaluation is e: of the rows only the evaluation and its figures are used
abbrev pub Prices : Slot → Day → Priced → Working → Type 0
Prices s d e w = (rows : List ℤ) → Evaluates s d rows → priced_on s.rec rows ≡ e → w ≡ worked_of s d rows
