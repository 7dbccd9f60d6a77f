-- `figures_by_volatility` meets its contract: by isEWMA, the figures that t makes, or those that stay.
use mathlib.Core.Path.{sym, ◌∙◌}
use mathlib.Core.Bool.{false}
use Prim.Native.Nat.{ℕ, ◌≤◌}
use native.Mathlib.Omega.{arith}
use Rattle.paper.specs.declared.Statics.{Statics}
use Rattle.paper_desk.specs.Rates.{tentative_rate, tentative_rate_of, figures_by_volatility}
use Rattle.paper.specs.Numbers.{volatility_most}
use Rattle.paper_desk.proofs.TentativeRange.{valid_tentative_within_top, tentative_rate_in}
use Rattle.paper.proofs.Logic.{pick_false}
use Rattle.rates_level.specs.RateStatics.{RateStatics, tentative_bound}
use Rattle.rates_level.proofs.Statics.{within_tentative_bound}
use Rattle.rates.proofs.figures_by_volatility.Goals as goal

-- t is in the tentative rate's range
t_high : (st : Statics) (s : ℕ) → RateStatics st → s ≤ volatility_most → tentative_rate st s ≤ tentative_bound
unfolding tentative_rate_of
t_high st s r h =
    let in_range_lem = tentative_rate_in st false 0 s r.step_low r.multiplier_high (omega arith) h in
    within_tentative_bound r (valid_tentative_within_top _ _ in_range_lem)

pub tentative_rate-requires : goal.tentative_rate-requires
tentative_rate-requires c = record { rate_statics = c.requires.statics; s_le_volatility_most = c.requires.volatility }

pub rated-requires : goal.rated-requires
rated-requires c =
    record {
      statics = c.requires.statics;
      ahead = c.requires.ahead;
      t_high = rw c.tentative_rate.ensures (t_high _ _ c.requires.statics c.requires.volatility);
      tentative = c.requires.tentative;
      age = c.requires.age;
    }

pub unmodelled-requires : goal.unmodelled-requires
unmodelled-requires c = c.requires.statics

pub returns-then-st : goal.returns-then-st
unfolding figures_by_volatility
returns-then-st c = rw (c.rated.ensures, c.tentative_rate.ensures, c.if-st.true)

pub returns-else-st : goal.returns-else-st
unfolding figures_by_volatility
returns-else-st c = c.unmodelled.ensures ∙ (sym (pick_false _ _ _ c.if-st.false))
