-- Document 02, W-207: what is said of an evaluation, accepted or refused.
use Rattle.std.specs.Prelude.{Bool, List, map, ℕ, ◌*◌, ℤ}
use Rattle.paper.specs.declared.Record.{Record}
use Rattle.paper.specs.declared.Day.{Day}
use Rattle.paper.specs.declared.Figures.{Figures}
use Rattle.paper.specs.declared.Model.{Model}
use Rattle.paper.specs.declared.Statics.{Statics}
use Rattle.paper.specs.declared.Verdict.{Verdict}
use Rattle.paper.specs.Lists.{pick}
use Rattle.paper.specs.Numbers.{millionths_in_bp}
use Rattle.paper.specs.Ranges.{rate_at}
use Rattle.paper_desk.specs.Evaluation.{roubles_of, day_rows}
use Rattle.paper_desk.specs.Rates.{model_of, weight_of, weighted, replacement_wins, tentative_rate_of}
use Rattle.paper.specs.Verdicts.{is_done, first_of}
use Rattle.paper_desk.specs.Desk.{move_on, figures_on, found, known, evaluate_checks, used_by}
use Rattle.paper_reasons.specs.declared.PriceReason.TheVariants as price
use Rattle.paper_reasons.specs.declared.WeightReason.TheVariants as weight
use Rattle.paper_reasons.specs.declared.ReplacementReason.TheVariants as replacement
use Rattle.paper_reasons.specs.declared.TentativeReason.TheVariants as tentative
use Rattle.paper_reasons.specs.declared.LevelReason.{LevelReason}
use Rattle.paper_reasons.specs.declared.LevelReason.TheVariants as level
use Rattle.paper_reasons.specs.declared.Deciding.{Deciding}
use Rattle.std.specs.declared.option.Option.{Option}
use Rattle.std.specs.declared.option.Option.TheVariants.{None, Some}
use Rattle.paper_reasons.specs.declared.Reasons.{Reasons}
use Rattle.paper_reasons.specs.declared.Why.{Why}
use Rattle.paper_reasons.specs.Reasons.{price_reason, weight_reason, replacement_reason, tentative_reason}
use Rattle.paper_reasons.specs.Reasons.{level_reason}
use Rattle.paper_reasons.specs.Faults.{fault_of}
use Rattle.paper_reasons.specs.Figures.{replacement_taken}

-- of a refused evaluation no figure has a reason
abbrev pub no_reasons : Reasons
no_reasons =
    record {
      price = price.None;
      weight = weight.None;
      replacement = replacement.None;
      tentative = tentative.None;
      level1 = level.None;
      level2 = level.None;
      level3 = level.None;
      figures = None;
    }

-- whether the replacement is the one chosen on a day, and the t of that day
unfoldable pub replaced_on : Record → Day → (rows : List ℤ) → Bool
replaced_on r d rows =
    replacement_wins (model_of r.statics) d.b (move_on r rows) (millionths_in_bp * rate_at r.rates 0) r.s

unfoldable pub step_on : Record → Day → (rows : List ℤ) → ℕ
step_on r d rows = tentative_rate_of r.statics (replaced_on r d rows) (move_on r rows) (figures_on r d rows).s

-- the figures that decided: r, s before, x, y, new s and t. Each is the figure of the rule that makes the record
unfoldable pub deciding_on : Record → Day → (rows : List ℤ) → Deciding
deciding_on r d rows =
    let m : Model = model_of r.statics in
    let move : ℕ = move_on r rows in
    record {
      r = move;
      before = r.s;
      x = weighted (weight_of m d.b move r.s) r.s move;
      y = replacement_taken m d.b move (millionths_in_bp * rate_at r.rates 0);
      s = (figures_on r d rows).s;
      t = step_on r d rows;
    }

-- with isEWMA no, none did
abbrev pub decided_by : Statics → Deciding → Option Deciding
decided_by st f = pick st.ewma (Some f) None

-- of the levels 1, 2, 3: the rate of level L stands at L - 1
unfoldable pub level_on : Record → Day → (rows : List ℤ) → (level place : ℕ) → LevelReason
level_on r d rows level place =
    let f : Figures = figures_on r d rows in
    level_reason r.statics f.tentative.bp d.m level (rate_at f.rates place)

-- the reasons of an evaluation that is accepted
unfoldable pub reasons_of : Record → Day → (rows : List ℤ) → Reasons
reasons_of r d rows =
    record {
      price = price_reason r.p1.units (used_by r) (map roubles_of (day_rows rows));
      weight = weight_reason r.statics d.b (move_on r rows) r.s;
      replacement = replacement_reason r.statics (replaced_on r d rows);
      tentative = tentative_reason r.statics (step_on r d rows) r.tentative;
      level1 = level_on r d rows 1 0;
      level2 = level_on r d rows 2 1;
      level3 = level_on r d rows 3 2;
      figures = decided_by r.statics (deciding_on r d rows);
    }

-- "For an accepted evaluation, name: ..". "For a refused evaluation it names the number and ..": `there` is whether the
-- id is known, and r its record
unfoldable pub why_of : (there : Bool) → Record → Day → (rows : List ℤ) → Why
why_of there r d rows =
    let v : Verdict = first_of (evaluate_checks there r d rows) in
    record { verdict = v; fault = fault_of v r d rows; reasons = pick (is_done v) (reasons_of r d rows) no_reasons }

-- why an evaluation of a day is answered as it is, on a table
unfoldable pub why_on : List Record → (id : ℕ) → Day → (rows : List ℤ) → Why
why_on t id d rows = why_of (known t id) (found t id) d rows
