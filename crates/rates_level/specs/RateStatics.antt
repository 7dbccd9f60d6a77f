-- What the rules of 7.1 ask of the statics and of a tentative rate: no more than "Units and ranges" allows.
use Rattle.std.specs.Prelude.{◌≡◌, ℕ, ◌+◌, ◌%◌, ◌≤◌}
use Rattle.paper.specs.declared.Statics.{Statics}
use Rattle.paper.specs.Numbers.{rate_most, tentative_most, step_most, multiplier_least, multiplier_most, weight_most}
use Rattle.paper.specs.Numbers.{first_days_most, days_most, liquidity_most}

-- the statics of 7.1
pub record RateStatics (st : Statics) : Type 0 where
  pub step_low : 1 ≤ st.h
  pub step_high : st.h ≤ step_most
  pub multiplier_low : multiplier_least ≤ st.q
  pub multiplier_high : st.q ≤ multiplier_most
  pub up_high : st.aup ≤ weight_most
  pub down_high : st.adown ≤ weight_most
  pub first_low : 1 ≤ st.rh1
  pub first_high : st.rh1 ≤ first_days_most
  pub second_days : st.rh2 ≤ st.rh3
  pub third_high : st.rh3 ≤ days_most
  pub liquidity_high : st.liq ≤ liquidity_most
  pub first_minimum : st.min1 ≤ st.min2
  pub second_minimum : st.min2 ≤ st.min3
  pub third_minimum : st.min3 ≤ st.smax
  pub most_high : st.smax ≤ rate_most
  pub first_multiple : st.min1 % st.h ≡ 0
  pub second_multiple : st.min2 % st.h ≡ 0
  pub third_multiple : st.min3 % st.h ≡ 0
  pub most_multiple : st.smax % st.h ≡ 0

-- no tentative rate passes it, whatever h: the most that q and s can give, and a step
abbrev pub tentative_bound : ℕ
tentative_bound = tentative_most + step_most
