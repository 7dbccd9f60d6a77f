-- Document 02, W-207: "Each reason is proved to be the true one". What is promised of all that asking why says, beside
-- the record that the evaluation finds and the one that it writes. proofs/Truth.antt proves it, for every table and
-- every evaluation.
use Rattle.std.specs.Prelude.{◌≡◌, ◌⊎◌, Bool, true, false, List, [], ◌∷◌, map, ℕ, ◌+◌, ◌*◌, ◌<◌, max, ℤ, get_or}
use Rattle.paper.specs.declared.Record.{Record}
use Rattle.paper.specs.declared.Day.{Day}
use Rattle.paper.specs.Numbers.{millionths_in_bp}
use Rattle.paper.specs.Roundings.{to_grid}
use Rattle.paper.specs.Ranges.{grid_of, rate_at}
use Rattle.paper.specs.Verdicts.{is_done, FirstAt, NoneApplies, Exactly}
use Rattle.paper_desk.specs.Evaluation.{roubles_of, day_rows}
use Rattle.paper_desk.specs.Rates.{move_of, model_of, weighted, replacement_wins, tentative_after}
use Rattle.paper_desk.specs.Desk.{used_by, found, evaluate, step}
use Rattle.paper_reasons.specs.declared.WeightReason.TheVariants as weight
use Rattle.paper_reasons.specs.declared.ReplacementReason.TheVariants as replacement
use Rattle.paper_reasons.specs.declared.TentativeReason.TheVariants as tentative
use Rattle.paper_reasons.specs.declared.LevelReason.{LevelReason}
use Rattle.paper_reasons.specs.declared.LevelReason.TheVariants as level
use Rattle.paper_reasons.specs.declared.Deciding.{Deciding}
use Rattle.std.specs.declared.option.Option.{Option}
use Rattle.std.specs.declared.option.Option.TheVariants.{None, Some}
use Rattle.paper_reasons.specs.declared.Fault.{Fault}
use Rattle.paper_reasons.specs.declared.Fault.TheVariants as fault
use Rattle.paper_reasons.specs.declared.Reasons.{Reasons}
use Rattle.paper_reasons.specs.Reasons.{TrueReason, price_set_by, price_reasons, weight_given, weight_reasons}
use Rattle.paper_reasons.specs.Reasons.{replacement_was, replacement_reasons, tentative_did, tentative_reasons}
use Rattle.paper_reasons.specs.Reasons.{level_set_by, level_reasons}
use Rattle.paper_reasons.specs.Faults.{faults_of}
use Rattle.paper_reasons.specs.Figures.{price_figure, weight_figure, volatility_figure, step_figure, tentative_figure}
use Rattle.paper_reasons.specs.Figures.{level_figure, replacement_taken}
use Rattle.paper_reasons.specs.Why.{no_reasons, why_on}

-- ---- what the reasons y say. old is the record that an evaluation finds, and new the one that it writes

-- the evaluation: the figure that set the price, on the grid
abbrev pub price_said : (old : Record) → (rows : List ℤ) → Reasons → ℕ
price_said old rows y =
    to_grid (grid_of old.statics.lot)
    (price_figure old.p1.units (used_by old) (map roubles_of (day_rows rows)) y.price) 1

-- the move r from the one record to the other
abbrev pub move_between : (old new : Record) → ℕ
move_between old new = move_of new.p1.units old.p1.units old.p2.units

-- new s: y where the replacement won, else x, by the weight that is named
abbrev pub volatility_said : (old new : Record) → Reasons → ℕ
volatility_said old new y =
    volatility_figure (model_of old.statics) (weight_figure (model_of old.statics) y.weight) (move_between old new)
    old.s y.replacement

-- the t of the day, by the replacement, and the tentative rate that it leaves
abbrev pub step_said : (old new : Record) → Reasons → ℕ
step_said old new y = step_figure old.statics (move_between old new) new.s y.replacement

abbrev pub tentative_said : (old new : Record) → Reasons → ℕ
tentative_said old new y =
    tentative_figure old.statics.h (step_said old new y) old.tentative.bp y.tentative

-- the figures that decided: x is by the weight that is named, t by the replacement, and the rest is of the two records
abbrev pub figures_said : (old new : Record) → Day → Reasons → Deciding
figures_said old new d y =
    record {
      r = move_between old new;
      before = old.s;
      x = weighted (weight_figure (model_of old.statics) y.weight) old.s (move_between old new);
      y = replacement_taken (model_of old.statics) d.b (move_between old new)
          (millionths_in_bp * rate_at old.rates 0);
      s = new.s;
      t = step_said old new y;
    }

-- of the levels 1, 2, 3, at the places 0, 1, 2: the reason, and the rate
abbrev pub level_named : Reasons → (place : ℕ) → LevelReason
level_named y place = get_or (y.level1 ∷ y.level2 ∷ y.level3 ∷ []) place level.None

abbrev pub rate_said : (old new : Record) → Day → Reasons → (place : ℕ) → ℕ
rate_said old new d y place =
    level_figure old.statics new.tentative.bp d.m (place + 1) (level_named y place)

-- ---- each reason is the true one, and the figure that the record then has is the one that it says

-- whether the replacement is the one chosen, after the last rate S_1
abbrev pub is_replaced : (old new : Record) → Day → Bool
is_replaced old new d =
    replacement_wins (model_of old.statics) d.b (move_between old new) (millionths_in_bp * rate_at old.rates 0)
    old.s

-- with isEWMA yes
pub record ModelledTrue (old new : Record) (d : Day) (y : Reasons) : Type 0 where
  pub weight : TrueReason (weight_given d.b (move_between old new) old.s) weight_reasons y.weight
  pub replacement : TrueReason (replacement_was (is_replaced old new d)) replacement_reasons y.replacement
  pub volatility : new.s ≡ volatility_said old new y
  pub tentative : TrueReason (tentative_did old.statics.h old.statics.wait (step_said old new y)
      old.tentative) tentative_reasons y.tentative
  pub tentative_rate_lem : new.tentative.bp ≡ tentative_said old new y
  pub level : (i : ℕ) → i < 3
      → TrueReason (level_set_by old.statics new.tentative.bp d.m (i + 1) (rate_at new.rates i)) level_reasons
      (level_named y i)
  -- each figure is the one that made the record: "s is the greater" of x and y, and t makes the tentative rate with its
  -- age
  pub figures : y.figures ≡ Some (figures_said old new d y)
  pub greater : new.s ≡ max (figures_said old new d y).x (figures_said old new d y).y
  pub step : new.tentative
      ≡ tentative_after old.statics.h old.statics.wait (figures_said old new d y).t old.tentative

-- "With isEWMA no, each level names the minimum, and weight, replacement and tentative rate none"; s and the tentative
-- rate with its age stay
pub record UnmodelledTrue (old new : Record) (y : Reasons) : Type 0 where
  pub weight : y.weight ≡ weight.None
  pub replacement : y.replacement ≡ replacement.None
  pub volatility : new.s ≡ old.s
  pub tentative : y.tentative ≡ tentative.None
  pub tentative_rate_lem : new.tentative ≡ old.tentative
  pub level : (i : ℕ) → i < 3 → level_named y i ≡ level.Minimum
  pub figures : y.figures ≡ None

-- of an accepted evaluation
pub record ReasonsTrue (old new : Record) (d : Day) (rows : List ℤ) (y : Reasons) : Type 0 where
  pub price : TrueReason (price_set_by old.p1.units (used_by old) (map roubles_of (day_rows rows))) price_reasons
      y.price
  pub evaluation : new.p1.units ≡ price_said old rows y
  pub modelled : old.statics.ewma ≡ true → ModelledTrue old new d y
  pub unmodelled : old.statics.ewma ≡ false → UnmodelledTrue old new y
  -- with isEWMA yes and no
  pub rate : (i : ℕ) → i < 3 → rate_at new.rates i ≡ rate_said old new d y i

-- WHY IS TRUE of an evaluation of any day, with any rows, on any table
pub record WhyTrue (t : List Record) (id : ℕ) (d : Day) (rows : List ℤ) : Type 0 where
  -- the number is that which `evaluate` answers
  pub number : (why_on t id d rows).verdict ≡ (step (evaluate id d rows) t).answer.verdict
  -- "For an accepted evaluation, name: ..": of the record before it, and the one that it then has in the table
  pub accepted : is_done (step (evaluate id d rows) t).answer.verdict ≡ true
      → ReasonsTrue (found t id) (found (step (evaluate id d rows) t).table id) d rows (why_on t id d rows).reasons
  -- a refused one has no reasons
  pub refused : is_done (step (evaluate id d rows) t).answer.verdict ≡ false → (why_on t id d rows).reasons ≡ no_reasons
  -- "the first row, else term, at fault, or none": each is named exactly when it is the first, and none where there is
  -- none
  pub fault : (x : Option Fault)
      → Exactly ((why_on t id d rows).fault ≡ x)
      (FirstAt x (faults_of (why_on t id d rows).verdict (found t id) d rows)
      ⊎ ((None ≡ x) × NoneApplies (faults_of (why_on t id d rows).verdict (found t id) d rows)))
