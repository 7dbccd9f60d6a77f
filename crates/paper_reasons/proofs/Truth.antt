-- Why is true: each reason that is said of an accepted evaluation is the true one and says the figure that the record
-- then has, a refused one has none, and the number is that of `evaluate`.
use mathlib.Core.Path.{◌≡◌, refl, sym, ap, subst, ◌∙◌}
use mathlib.Core.Bool.{true, false}
use mathlib.Core.List.{List, map}
use Prim.Native.Nat.{ℕ, ◌+◌, ◌<◌}
use lib.IntN.{ℤ}
use Rattle.paper.specs.declared.Record.{Record}
use Rattle.paper.specs.declared.Day.{Day}
use Rattle.paper.specs.declared.Verdict.{Verdict}
use Rattle.paper.specs.Ranges.{rate_at, valid_statics, sound}
use Rattle.paper.specs.Verdicts.{is_done, NoneApplies, also}
use Rattle.paper_desk.specs.Evaluation.{roubles_of, day_rows}
use Rattle.paper_desk.specs.Rates.{unmodelled, figures_of}
use Rattle.paper_desk.specs.Desk.{used_by, move_on, figures_on, evaluated, showing, found, known, evaluate_checks, evaluate}
use Rattle.paper_desk.specs.Desk.{checks_of, accepted_of, step}
use Rattle.paper.proofs.Logic.{and_left, and_right, not_false, pick_true, pick_false}
use Rattle.paper_desk.proofs.Slots.{known_sound}
use Rattle.paper_desk.proofs.Refusals.{verdict_first, accepted_step, accepted_only}
use Rattle.paper_desk.proofs.PinnedLaws.{shown_stands}
use Rattle.paper_reasons.specs.Reasons.{TrueReason, weight_reason, replacement_reason, tentative_did}
use Rattle.paper_reasons.specs.Reasons.{tentative_reasons, tentative_reason, level_set_by, level_reasons, level_reason}
use Rattle.paper_reasons.specs.Why.{no_reasons, replaced_on, step_on, level_on, reasons_of, why_of, why_on}
use Rattle.paper_reasons.specs.Truth.{level_named, ModelledTrue, UnmodelledTrue, ReasonsTrue, WhyTrue}
use Rattle.paper_reasons.proofs.Prices.{price_named}
use Rattle.paper_reasons.proofs.Rates.{weight_named, replacement_named, tentative_named}
use Rattle.paper_reasons.proofs.Levels.{level_named_lem}
use Rattle.paper_reasons.proofs.Agrees.{number_agrees, fault_is, price_agrees, volatility_agrees, step_agrees}
use Rattle.paper_reasons.proofs.Agrees.{tentative_agrees, figures_agree, greater_agrees, tentative_stepped}
use Rattle.paper_reasons.proofs.Agrees.{rate_modelled, level_named_is, rate_agrees}

module _ (r : Record) (d : Day) (rows : List ℤ) where
  -- with isEWMA yes
  modelled_true : valid_statics r.statics ≡ true → r.statics.ewma ≡ true
      → ModelledTrue r (evaluated r d rows) d (reasons_of r d rows)
  unfolding evaluated move_on reasons_of replaced_on level_on
  modelled_true v on =
      record {
        weight = weight_named r.statics on d.b (move_on r rows) r.s;
        replacement = replacement_named r.statics on (replaced_on r d rows);
        volatility = volatility_agrees r d rows on;
        tentative =
            subst (λ (t : ℕ). TrueReason (tentative_did r.statics.h r.statics.wait t r.tentative)
            tentative_reasons (reasons_of r d rows).tentative) (step_agrees r d rows on)
            (tentative_named r.statics on (step_on r d rows) r.tentative);
        tentative_rate_lem = tentative_agrees r d rows on;
        level = level_true;
        figures = figures_agree r d rows on;
        greater = greater_agrees r d rows on;
        step = tentative_stepped r d rows on;
      }
    where
      t : ℕ
      t = (figures_on r d rows).tentative.bp

      -- the reason of a level is the true one of the rate that is made for it
      level_true : (i : ℕ) → i < 3
          → TrueReason (level_set_by r.statics t d.m (i + 1) (rate_at (figures_on r d rows).rates i)) level_reasons
          (level_named (reasons_of r d rows) i)
      level_true i k =
          rw (level_named_is r d rows i k, rate_modelled r d rows on i k)
          (level_named_lem r.statics (i + 1) d.m t v on)

  -- with isEWMA no
  unmodelled_true : r.statics.ewma ≡ false → UnmodelledTrue r (evaluated r d rows) (reasons_of r d rows)
  unfolding evaluated figures_on figures_of unmodelled reasons_of weight_reason replacement_reason tentative_reason level_on
      level_reason
  unmodelled_true off =
      record {
        weight = rw off;
        replacement = rw off;
        volatility = rw off;
        tentative = rw off;
        tentative_rate_lem = rw off;
        level = λ i k. level_named_is r d rows i k ∙ rw off;
        figures = rw off;
      }

  pub reasons_true : valid_statics r.statics ≡ true
      → ReasonsTrue r (evaluated r d rows) d rows (reasons_of r d rows)
  unfolding reasons_of
  reasons_true v =
      record {
        price = price_named r.p1.units (used_by r) (map roubles_of (day_rows rows));
        evaluation = price_agrees r d rows;
        modelled = modelled_true v;
        unmodelled = unmodelled_true;
        rate = rate_agrees r d rows v;
      }

-- the statics of a sound record are in range
statics_valid : (r : Record) → sound r ≡ true → valid_statics r.statics ≡ true
unfolding sound
statics_valid r v = search (v, and_left, and_right) depth 40

module _ (t : List Record) (id : ℕ) (d : Day) (rows : List ℤ) where
  abbrev number : Verdict
  number = (step (evaluate id d rows) t).answer.verdict

  -- the number of why is that of the evaluation
  agrees : (why_on t id d rows).verdict ≡ number
  agrees = number_agrees t id d rows

  known_then : is_done number ≡ true → known t id ≡ true
  unfolding checks_of evaluate_checks
  known_then e = go (accepted_only (evaluate id d rows) t e)
    where
      go : NoneApplies (checks_of (evaluate id d rows) t) → known t id ≡ true
      go (also q rest) = not_false (known t id) q

  -- the record that the table then has is the one that the evaluation makes
  written : is_done number ≡ true → found (step (evaluate id d rows) t).table id ≡ evaluated (found t id) d rows
  unfolding accepted_of showing
  written e =
      shown_stands (evaluate id d rows) t refl e
      ∙ ap (λ o. o.answer.rec)
      (accepted_step (evaluate id d rows) t (ap is_done (sym (verdict_first (evaluate id d rows) t)) ∙ e))

  -- WHY IS TRUE
  pub why_true : WhyTrue t id d rows
  unfolding why_on why_of
  why_true =
      record {
        number = agrees;
        accepted =
            λ e. rw (
              written e,
              pick_true (is_done (why_on t id d rows).verdict) (reasons_of (found t id) d rows) no_reasons
                  (ap is_done agrees ∙ e),
            )
            (reasons_true (found t id) d rows (statics_valid (found t id) (known_sound t id (known_then e))));
        refused =
            λ e. pick_false (is_done (why_on t id d rows).verdict) (reasons_of (found t id) d rows) no_reasons
            (ap is_done agrees ∙ e);
        fault = fault_is (why_on t id d rows).verdict (found t id) d rows;
      }
