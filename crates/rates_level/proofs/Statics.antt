-- What valid statics are to the rate rules, and each level's own.
use mathlib.Core.Path.{◌≡◌}
use mathlib.Core.Bool.{Bool, true, false}
use Prim.Native.Nat.{ℕ, ◌%◌, ◌≤◌}
use native.Mathlib.Omega.{arith}
use lib.Dec.{eqb}
use Rattle.paper.specs.declared.Statics.{Statics}
use Rattle.paper.specs.Numbers.{days_most}
use Rattle.paper.specs.Lists.{pick}
use Rattle.paper.specs.Ranges.{valid_statics, tentative_top}
use Rattle.paper_desk.specs.Rates.{days_of, minimum_of}
use Rattle.paper.proofs.StaticsFacts.{statics_facts}
use Rattle.paper_desk.proofs.TentativeRange.{tentative_top_high}
use Rattle.rates_level.specs.RateStatics.{RateStatics, tentative_bound}

pub valid_are_rate_statics : (st : Statics) → valid_statics st ≡ true → RateStatics st
valid_are_rate_statics st v =
    let known = statics_facts st v in
    record {
      step_low = known.h.least;
      step_high = known.h.most;
      multiplier_low = known.q.least;
      multiplier_high = known.q.most;
      up_high = known.aup;
      down_high = known.adown;
      first_low = known.rh1.least;
      first_high = known.rh1.most;
      second_days = known.rh2_rh3;
      third_high = known.rh3;
      liquidity_high = known.liq;
      first_minimum = known.min1_min2;
      second_minimum = known.min2_min3;
      third_minimum = known.min3_smax;
      most_high = known.smax;
      first_multiple = known.min1_multiple;
      second_multiple = known.min2_multiple;
      third_multiple = known.min3_multiple;
      most_multiple = known.smax_multiple;
    }

-- what the rules ask of a level's own statics
abbrev pub LevelStatics : Statics → (days minimum : ℕ) → Type 0
LevelStatics st days minimum = (days ≤ days_most) × (minimum ≤ st.smax) × (minimum % st.h ≡ 0)

pub level_statics : (st : Statics) (level : ℕ) → RateStatics st → LevelStatics st (days_of st level) (minimum_of st level)
unfolding days_of minimum_of
level_statics st level r = go (eqb level 1) (eqb level 2)
  where
    go : (x y : Bool) → LevelStatics st (pick x st.rh1 (pick y st.rh2 st.rh3))
        (pick x st.min1 (pick y st.min2 st.min3))
    go true y = (omega arith, omega arith, r.first_multiple)
    go false true = (omega arith, omega arith, r.second_multiple)
    go false false = (omega arith, omega arith, r.third_multiple)

-- a tentative rate up to its top is one that the rules are proved for
pub within_tentative_bound : {st : Statics} {t : ℕ} → RateStatics st → t ≤ tentative_top st.h → t ≤ tentative_bound
within_tentative_bound {st} {t} r high = omega (arith, tentative_top_high st.h r.step_low)
