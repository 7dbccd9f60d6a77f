-- W-207: the figure of documents 01 and 02 that each reason names. `None` names no figure, which stands as 0.
use Rattle.std.specs.Prelude.{◌&&◌, List, ℕ, ◌-◌, leb, ltb}
use Rattle.paper.specs.declared.External.{External}
use Rattle.paper.specs.declared.Roubles.{Roubles}
use Rattle.paper.specs.declared.Model.{Model}
use Rattle.paper.specs.declared.Statics.{Statics}
use Rattle.paper.specs.Lists.{pick}
use Rattle.paper_desk.specs.Evaluation.{close_of, bid_of, ask_of}
use Rattle.paper_desk.specs.Rates.{weighted, replacement, tentative_rate, tentative_rate_by_move, minimum_of}
use Rattle.paper_reasons.specs.declared.PriceReason.{PriceReason}
use Rattle.paper_reasons.specs.declared.PriceReason.TheVariants as price
use Rattle.paper_reasons.specs.declared.WeightReason.{WeightReason}
use Rattle.paper_reasons.specs.declared.WeightReason.TheVariants as weight
use Rattle.paper_reasons.specs.declared.ReplacementReason.{ReplacementReason}
use Rattle.paper_reasons.specs.declared.ReplacementReason.TheVariants as chosen
use Rattle.paper_reasons.specs.declared.TentativeReason.{TentativeReason}
use Rattle.paper_reasons.specs.declared.TentativeReason.TheVariants as tentative
use Rattle.paper_reasons.specs.declared.LevelReason.{LevelReason}
use Rattle.paper_reasons.specs.declared.LevelReason.TheVariants as level
use Rattle.paper_reasons.specs.Reasons.{requirement_step}

-- the close, BID, ASK, or the previous evaluation
unfoldable pub price_figure : (previous : ℕ) → (used : External) → List Roubles → PriceReason → ℕ
price_figure previous used rs price.None = 0
price_figure previous used rs price.Close = close_of previous rs
price_figure previous used rs price.Bid = bid_of used rs
price_figure previous used rs price.Ask = ask_of used rs
price_figure previous used rs price.Yesterday = previous

-- 0, a_up or a_down
unfoldable pub weight_figure : Model → WeightReason → ℕ
weight_figure m weight.None = 0
weight_figure m weight.Zero = 0
weight_figure m weight.Up = m.aup
weight_figure m weight.Down = m.adown

-- y where the replacement won, else x, by the weight a
unfoldable pub volatility_figure : Model → (a r s : ℕ) → ReplacementReason → ℕ
volatility_figure m a r s chosen.None = 0
volatility_figure m a r s chosen.Yes = replacement m.q r
volatility_figure m a r s chosen.No = weighted a s r

-- "When b ≤ 1 and r > 100·S_1 (last rate), also take the least y": y, and 0 where it is not taken. The last rate is in
-- the unit of the move
unfoldable pub replacement_taken : Model → (b r last : ℕ) → ℕ
replacement_taken m b r last = pick (leb b 1 && ltb last r) (replacement m.q r) 0

-- the t of the day: where the replacement won, that of the move r (W-202), else that of new s
unfoldable pub step_figure : Statics → (r s : ℕ) → ReplacementReason → ℕ
step_figure st r s chosen.None = 0
step_figure st r s chosen.Yes = tentative_rate_by_move st r
step_figure st r s chosen.No = tentative_rate st s

-- t, a step below the old rate, or the old rate
unfoldable pub tentative_figure : (h t old : ℕ) → TentativeReason → ℕ
tentative_figure h t old tentative.None = 0
tentative_figure h t old tentative.Rose = t
tentative_figure h t old tentative.Fell = old - h
tentative_figure h t old tentative.Waited = old
tentative_figure h t old tentative.Level = old

-- the least multiple of h that covers the requirement, S_L_min or S_max
unfoldable pub level_figure : Statics → (tentative m level : ℕ) → LevelReason → ℕ
level_figure st t m l level.None = 0
level_figure st t m l level.Requirement = requirement_step st t m l
level_figure st t m l level.Minimum = minimum_of st l
level_figure st t m l level.Maximum = st.smax
