-- What is said of a slot, from what the evaluation comes to: the number and the fault of a refusal, the reasons of an
-- evaluation that is accepted.
use mathlib.Core.Path.{◌≡◌, sym, ap, ◌∙◌}
use mathlib.Core.Bool.{true, false, or-true}
use mathlib.Core.List.{List}
use lib.IntN.{ℤ}
use Rattle.paper.specs.declared.Day.{Day}
use Rattle.paper.specs.declared.Verdict.{Verdict}
use Rattle.paper.specs.declared.Verdict.TheVariants as verdict
use Rattle.paper.specs.Verdicts.{is_done, first_of}
use Rattle.paper_desk.specs.Desk.{evaluated, evaluate_checks}
use Rattle.paper.proofs.Logic.{pick_true, pick_false}
use Rattle.record_answers.specs.declared.Slot.{Slot}
use Rattle.record_evaluation.specs.declared.Working.{Working}
use Rattle.record_answers.specs.Effects.{is_known}
use Rattle.record_evaluation.specs.Workings.{made_with, is_made, worked_of}
use Rattle.record_evaluation.proofs.Judging.{worked_verdict, worked_made}
use Rattle.std.specs.declared.option.Option.{Option}
use Rattle.paper_reasons.specs.declared.Fault.{Fault}
use Rattle.paper_reasons.specs.declared.Reasons.{Reasons}
use Rattle.paper_reasons.specs.Faults.{is_same, fault_of}
use Rattle.paper_reasons.specs.Why.{no_reasons, reasons_of, why_of}
use Rattle.record_reasons.specs.RowFaults.{fault_with, Refused}
use Rattle.record_reasons.specs.Reasoned.{reasons_at, Accepted}
use Rattle.record_reasons.specs.Whys.{why_slot}
use Rattle.record_reasons.proofs.AtFault.{fault_with_lem, refused_rows}
use Rattle.record_reasons.proofs.Reasoning.{reasons_are, accepted}

module _ (s : Slot) (d : Day) (rows : List ℤ) where
  abbrev w : Working
  w = worked_of s d rows

  abbrev first : Verdict
  first = first_of (evaluate_checks (is_known s) s.rec d rows)

  pub rows_refused : Refused w.verdict rows
  rows_refused = rw (worked_verdict s d rows) (refused_rows (is_known s) s.rec d rows)

  -- where 9 is the number the bands were made
  bands_made : is_same first verdict.BandCrossed ≡ true → w.made.bands ≡ (evaluated s.rec d rows).bands
  unfolding is_made is_same
  bands_made e = ap (λ (x : Working). x.made.bands) (worked_made s d rows (rw e (or-true (is_done first))))

  fault_is : (f : Option Fault) → f ≡ fault_with w.verdict d rows w.made.bands → f ≡ fault_of first s.rec d rows
  fault_is f e = e ∙ rw (worked_verdict s d rows) (fault_with_lem first s.rec d rows w.made.bands bands_made)

  pub why_refused : (f : Option Fault) → is_done w.verdict ≡ false → f ≡ fault_with w.verdict d rows w.made.bands
      → record { verdict = w.verdict; fault = f; reasons = no_reasons } ≡ why_slot s d rows
  unfolding why_slot why_of
  why_refused f n e =
      rw (
        fault_is f e,
        worked_verdict s d rows,
        pick_false (is_done first) (reasons_of s.rec d rows) no_reasons
            (ap is_done (sym (worked_verdict s d rows)) ∙ n),
      )

  module _ (e : is_done w.verdict ≡ true) where
    done : is_done first ≡ true
    done = ap is_done (sym (worked_verdict s d rows)) ∙ e

    made : w ≡ made_with s d rows first
    unfolding is_made
    made = worked_made s d rows (rw done)

    pub was_accepted : Accepted s.rec d w.made
    was_accepted = rw made (accepted s d rows done)

    reasons_said : reasons_at s.rec d w.made.p1.units w.figures ≡ reasons_of s.rec d rows
    unfolding evaluated
    reasons_said = rw made (reasons_are s.rec d rows)

    pub why_accepted : (f : Option Fault) (y : Reasons) → f ≡ fault_with w.verdict d rows w.made.bands
        → y ≡ reasons_at s.rec d w.made.p1.units w.figures
        → record { verdict = w.verdict; fault = f; reasons = y } ≡ why_slot s d rows
    unfolding why_slot why_of
    why_accepted f y g r =
        rw (
          fault_is f g,
          r ∙ reasons_said,
          worked_verdict s d rows,
          pick_true (is_done first)
              (reasons_of s.rec d rows) no_reasons done,
        )
