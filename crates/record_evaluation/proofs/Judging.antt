-- How an evaluation is judged: the first check that applies refuses, and where none applies it is accepted.
use mathlib.Core.Path.{◌≡◌, refl, sym, ap, ◌∙◌}
use mathlib.Core.Bool.{Bool, true, false, not}
use mathlib.Core.List.{List}
use lib.Dec.{leb}
use lib.IntN.{ℤ}
use lib.ListN.{get_or}
use Rattle.paper.specs.declared.Day.{Day}
use Rattle.paper.specs.declared.Record.{Record}
use Rattle.paper.specs.declared.Verdict.{Verdict}
use Rattle.paper.specs.declared.Verdict.TheVariants.{Done, NoSuchId, DayNotAfter, OutOfRange, PriceOutOfRange}
use Rattle.paper.specs.declared.Verdict.TheVariants.{MoveTooLarge, BandCrossed, RowCrossed}
use Rattle.paper.specs.Lists.{pick, all_three}
use Rattle.paper.specs.Ranges.{grid_of, valid_day, last_day, no_limits}
use Rattle.paper_desk.specs.Evaluation.{day_rows, has_crossed_row, evaluation_fits}
use Rattle.paper_desk.specs.Rates.{move_too_large}
use Rattle.paper_desk.specs.Limits.{crossed}
use Rattle.paper.specs.Verdicts.{is_done, first_of}
use Rattle.paper_desk.specs.Desk.{used_by, move_on, evaluated, evaluate_checks}
use Rattle.paper.proofs.Logic.{pick_true, pick_false}
use Rattle.evaluation.specs.declared.PriceFigures.{PriceFigures}
use Rattle.record_writing.specs.declared.figures.Made.{Made}
use Rattle.record_writing.specs.Evaluates as writing
use Rattle.record_writing.specs.Evaluates.{made_of}
use Rattle.record_answers.specs.declared.Slot.{Slot}
use Rattle.record_answers.specs.declared.Replied.TheVariants.{TheRecord}
use Rattle.record_evaluation.specs.declared.Working.{Working}
use Rattle.record_answers.specs.Effects.{is_known, refused_effect, judged_effect, effect_of, evaluate_effect}
use Rattle.record_evaluation.specs.Workings.{priced_on, unmade_by, made_with, is_made, worked_of, Begun, Evaluates}
use Rattle.record_answers.proofs.Tests.{tested_true, tested_false}

module _ (s : Slot) (d : Day) (rows : List ℤ) where
  pub day_unknown : is_known s ≡ false → unmade_by NoSuchId ≡ worked_of s d rows
  unfolding worked_of evaluate_checks first_of is_done is_made
  day_unknown t = rw t

  pub day_out : is_known s ≡ true → valid_day d rows ≡ false
      → unmade_by OutOfRange ≡ worked_of s d rows
  unfolding worked_of evaluate_checks first_of is_done is_made
  day_out known t = rw (known, t)

  pub day_row_crossed : is_known s ≡ true → valid_day d rows ≡ true → has_crossed_row (day_rows rows) ≡ true
      → unmade_by RowCrossed ≡ worked_of s d rows
  unfolding worked_of evaluate_checks first_of is_done is_made
  day_row_crossed known valid t = rw (known, valid, t)

  module _ (b : Begun s d rows) where
    pub day_not_after : leb d.day (last_day s.rec.standing) ≡ true
        → unmade_by DayNotAfter ≡ worked_of s d rows
    unfolding worked_of evaluate_checks first_of is_done is_made
    day_not_after t = rw (b.known, b.valid, b.uncrossed, t)

    pub day_beyond : leb d.day (last_day s.rec.standing) ≡ false
        → evaluation_fits (grid_of s.rec.statics.lot) s.rec.p1.units (used_by s.rec) (day_rows rows) ≡ false
        → unmade_by PriceOutOfRange ≡ worked_of s d rows
    unfolding worked_of evaluate_checks first_of is_done is_made
    day_beyond after t = rw (b.known, b.valid, b.uncrossed, after, t)

  module _ (p : Evaluates s d rows) where
    pub day_moved_far : move_too_large s.rec.statics (move_on s.rec rows) ≡ true
        → unmade_by MoveTooLarge ≡ worked_of s d rows
    unfolding worked_of evaluate_checks first_of is_done is_made
    day_moved_far t =
        let b = p.begun in
        rw (b.known, b.valid, b.uncrossed, p.later, p.fits, t)

    module _ {new : Made} {figures : PriceFigures} {ordered : Bool}
        (near : move_too_large s.rec.statics (move_on s.rec rows) ≡ false)
        (is : new ≡ made_of (evaluated s.rec d rows))
        (chosen : figures ≡ (priced_on s.rec rows).figures)
        (tested : ordered ≡ all_three (λ k. not (crossed (get_or new.bands k no_limits)))) where
      bands : ordered ≡ all_three (λ k. not (crossed (get_or (evaluated s.rec d rows).bands k no_limits)))
      bands = rw is at tested

      pub day_crossed : not ordered ≡ true
          → record { verdict = BandCrossed; made = new; figures = figures } ≡ worked_of s d rows
      unfolding worked_of evaluate_checks first_of is_done is_made
      day_crossed t =
          let b = p.begun in
          rw (is, chosen, b.known, b.valid, b.uncrossed, p.later, p.fits, near, tested_false _ bands t)

      pub day_accepted : not ordered ≡ false
          → record { verdict = Done; made = new; figures = figures } ≡ worked_of s d rows
      unfolding worked_of evaluate_checks first_of is_done is_made
      day_accepted t =
          let b = p.begun in
          rw (is, chosen, b.known, b.valid, b.uncrossed, p.later, p.fits, near, tested_true _ bands t)

-- what `evaluate` makes of it: a refusal, or the record stored and answered
module _ (s : Slot) (d : Day) (rows : List ℤ) where
  abbrev first : Verdict
  first = first_of (evaluate_checks (is_known s) s.rec d rows)

  pub worked_verdict : (worked_of s d rows).verdict ≡ first
  unfolding worked_of
  worked_verdict = go (is_made first)
    where
      go : (b : Bool) → (pick b (made_with s d rows first) (unmade_by first)).verdict ≡ first
      go true = refl
      go false = refl

  -- where it is 0 or 9 what the paper writes is made
  pub worked_made : is_made first ≡ true → worked_of s d rows ≡ made_with s d rows first
  unfolding worked_of
  worked_made e = pick_true (is_made first) _ _ e

  done_made : is_done first ≡ true → (worked_of s d rows).made ≡ made_of (evaluated s.rec d rows)
  unfolding is_made
  done_made e = ap (λ (w : Working). w.made) (worked_made (rw e))

  pub day_refused : is_done (worked_of s d rows).verdict ≡ false
      → refused_effect s.count (worked_of s d rows).verdict ≡ evaluate_effect s d rows
  unfolding effect_of evaluate_checks judged_effect
  day_refused n =
      rw worked_verdict (sym (pick_false (is_done first) _ _ (ap is_done (sym worked_verdict) ∙ n)))

  pub day_stored : {new : Record} → is_done (worked_of s d rows).verdict ≡ true
      → writing.Evaluates s.rec d (worked_of s d rows).made new
      → record { at = s.at; rec = new; replied = TheRecord } ≡ evaluate_effect s d rows
  unfolding effect_of evaluate_checks judged_effect
  day_stored e written =
      let done : is_done first ≡ true = ap is_done (sym worked_verdict) ∙ e in
      rw (written rows (done_made done)) (sym (pick_true (is_done first) _ _ done))
