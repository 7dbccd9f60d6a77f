-- The reasons of an accepted evaluation, by what is in hand once it is worked out: the price, the figures that it was
-- chosen from, and what was made of the record.
use Rattle.std.specs.Prelude.{◌≡◌, Bool, true, false, not, ◌&&◌, ℕ, ◌*◌, ltb, eqb}
use Rattle.paper.specs.declared.Record.{Record}
use Rattle.paper.specs.declared.Day.{Day}
use Rattle.paper.specs.declared.Figures.{Figures}
use Rattle.paper.specs.declared.Model.{Model}
use Rattle.paper.specs.Numbers.{millionths_in_bp}
use Rattle.paper.specs.Ranges.{is_price, valid_day_numbers, rate_at, sound}
use Rattle.paper_desk.specs.Evaluation.{between}
use Rattle.paper_desk.specs.Rates.{model_of, weight_of, weighted, replacement_wins, tentative_rate_of, move_too_large}
use Rattle.evaluation.specs.declared.PriceFigures.{PriceFigures}
use Rattle.record_writing.specs.declared.figures.Made.{Made}
use Rattle.record_writing.specs.Evaluates.{move_to, figures_at}
use Rattle.paper_reasons.specs.declared.PriceReason.{PriceReason}
use Rattle.paper_reasons.specs.declared.PriceReason.TheVariants as price
use Rattle.paper_reasons.specs.declared.WeightReason.TheVariants as weight
use Rattle.paper_reasons.specs.declared.ReplacementReason.TheVariants as replacement
use Rattle.paper_reasons.specs.declared.TentativeReason.TheVariants as tentative
use Rattle.paper_reasons.specs.declared.LevelReason.{LevelReason}
use Rattle.paper_reasons.specs.declared.LevelReason.TheVariants as level
use Rattle.paper_reasons.specs.declared.Deciding.{Deciding}
use Rattle.std.specs.declared.option.Option.TheVariants.{None}
use Rattle.paper_reasons.specs.declared.Reasons.{Reasons}
use Rattle.paper_reasons.specs.Reasons.{first_that_holds, price_reasons, weight_reason, replacement_reason, tentative_reason}
use Rattle.paper_reasons.specs.Reasons.{level_reason}
use Rattle.paper_reasons.specs.Figures.{replacement_taken}
use Rattle.paper_reasons.specs.Why.{decided_by}

-- which of the figures set the price: the rows have a weight where the weights together are above 0
unfoldable pub set_by : (previous : ℕ) → PriceFigures → PriceReason → Bool
set_by previous f price.None = false
set_by previous f price.Close = ltb 0 f.weight && eqb (between f.bid f.close f.ask) f.close
set_by previous f price.Bid = ltb 0 f.bid && eqb (between f.bid f.close f.ask) f.bid
set_by previous f price.Ask = ltb 0 f.ask && eqb (between f.bid f.close f.ask) f.ask
set_by previous f price.Yesterday = not (ltb 0 f.weight) && eqb (between f.bid f.close f.ask) previous

unfoldable pub reason_from : (previous : ℕ) → PriceFigures → PriceReason
reason_from previous f = first_that_holds price.None (set_by previous f) price_reasons

-- whether the replacement is the one chosen at P, and the t at P
unfoldable pub replaced_at : Record → Day → (p : ℕ) → Bool
replaced_at r d p =
    replacement_wins (model_of r.statics) d.b (move_to r p) (millionths_in_bp * rate_at r.rates 0) r.s

unfoldable pub step_at : Record → Day → (p : ℕ) → ℕ
step_at r d p = tentative_rate_of r.statics (replaced_at r d p) (move_to r p) (figures_at r d p).s

-- the figures that decided at P
unfoldable pub deciding_at : Record → Day → (p : ℕ) → Deciding
deciding_at r d p =
    let m : Model = model_of r.statics in
    let move : ℕ = move_to r p in
    record {
      r = move;
      before = r.s;
      x = weighted (weight_of m d.b move r.s) r.s move;
      y = replacement_taken m d.b move (millionths_in_bp * rate_at r.rates 0);
      s = (figures_at r d p).s;
      t = step_at r d p;
    }

unfoldable pub level_at : Record → Day → (p level place : ℕ) → LevelReason
level_at r d p level place =
    let f : Figures = figures_at r d p in
    level_reason r.statics f.tentative.bp d.m level (rate_at f.rates place)

-- with isEWMA no
abbrev pub unmodelled_with : PriceReason → Reasons
unmodelled_with x =
    record {
      price = x;
      weight = weight.None;
      replacement = replacement.None;
      tentative = tentative.None;
      level1 = level.Minimum;
      level2 = level.Minimum;
      level3 = level.Minimum;
      figures = None;
    }

-- with isEWMA yes
unfoldable pub modelled_with : PriceReason → Record → Day → (p : ℕ) → Reasons
modelled_with x r d p =
    record {
      price = x;
      weight = weight_reason r.statics d.b (move_to r p) r.s;
      replacement = replacement_reason r.statics (replaced_at r d p);
      tentative = tentative_reason r.statics (step_at r d p) r.tentative;
      level1 = level_at r d p 1 0;
      level2 = level_at r d p 2 1;
      level3 = level_at r d p 3 2;
      figures = decided_by r.statics (deciding_at r d p);
    }

abbrev pub reasons_at : Record → Day → (p : ℕ) → PriceFigures → Reasons
reasons_at r d p f = modelled_with (reason_from r.p1.units f) r d p

-- what is known of the record before and of what was made of it, where no number applies
pub record Accepted (old : Record) (d : Day) (new : Made) : Type 0 where
  pub sound_record : sound old ≡ true
  pub day : valid_day_numbers d ≡ true
  pub price : is_price new.p1.units ≡ true
  pub near : move_too_large old.statics (move_to old new.p1.units) ≡ false
  pub volatility : new.s ≡ (figures_at old d new.p1.units).s
  pub tentative : new.tentative ≡ (figures_at old d new.p1.units).tentative
  pub rates : new.rates ≡ (figures_at old d new.p1.units).rates
