-- What the statics of 7.1, and a sound record, are to the rate rules.
use mathlib.Core.Path.{◌≡◌}
use mathlib.Core.Bool.{true}
use Prim.Native.Nat.{ℕ, ◌≤◌}
use lib.ListN.{get_or}
use borrow.Author.Tests.{leb-true}
use Rattle.paper.specs.declared.Statics.{Statics}
use Rattle.paper.specs.declared.Record.{Record}
use Rattle.paper.specs.Numbers.{ahead_most}
use Rattle.paper.specs.Ranges.{is_rate, no_rate, sound}
use Rattle.paper_desk.specs.Rates.{model_of, Weighing}
use Rattle.paper.proofs.Logic.{and_left, and_right}
use Rattle.paper_desk.proofs.TentativeRange.{valid_tentative_within_top}
use Rattle.rates_level.specs.RateStatics.{RateStatics}
use Rattle.rates_level.proofs.Statics.{valid_are_rate_statics, within_tentative_bound}
use Rattle.rates.specs.RateRanges.{FigureRanges}

pub rates_weighing : (st : Statics) → RateStatics st → Weighing (model_of st)
rates_weighing st r = record { q = r.multiplier_low; aup = r.up_high; adown = r.down_high }

-- a sound record's figures are in the ranges of an evaluation
pub sound_figures_in_ranges : (r : Record) (m : ℕ) → sound r ≡ true → m ≤ ahead_most
    → FigureRanges r.statics m (get_or r.rates 0 no_rate) r.s r.tentative
unfolding sound is_rate
sound_figures_in_ranges r m v h =
    let statics : RateStatics r.statics = valid_are_rate_statics r.statics
    (search (v, and_left, and_right) depth 40) in
    let high = valid_tentative_within_top r.statics.h r.tentative.bp
    (search (v, and_left, and_right) depth 40) in
    record {
      statics = statics;
      ahead = h;
      last_rate = leb-true _ _ (search (v, and_left, and_right) depth 40);
      volatility = leb-true _ _ (search (v, and_left, and_right) depth 40);
      tentative = within_tentative_bound statics high;
      age = leb-true _ _ (search (v, and_left, and_right) depth 40);
    }
