-- `reasons::deciding` meets its contract: each figure in hand is that of the definition at P, and s is the one made.
use Prim.Native.Nat.{◌≤◌}
use native.Mathlib.Omega.{arith}
use Rattle.paper.specs.Numbers.{volatility_most}
use Rattle.paper_desk.specs.Rates.{Weighing}
use Rattle.paper_desk.proofs.Volatility.{weight_most_lem}
use Rattle.rates.proofs.Statics.{rates_weighing}
use Rattle.record_writing.specs.Evaluates.{move_to}
use Rattle.record_evaluation.proofs.Evaluations.{sound_prices_valid}
use Rattle.record_reasons.proofs.Reasoning.{allowed_move_within_most, figures_in_ranges, made_volatility_high}
use Rattle.record_reasons.proofs.Reasoning.{deciding_is}
use Rattle.record_reasons.proofs.reasons.deciding.Goals as goal
use Rattle.record_reasons.proofs.reasons.deciding.Goals.{After-model_of-m, After-move_of-r, Start}

-- what was given, of the stage that has the move
abbrev start : After-move_of-r → Start
start c = c.before.before.before.before.before.before

-- the move is in range
move_high : (c : After-move_of-r) → c.move_of-r.result ≤ volatility_most
unfolding move_to
move_high c =
    let s = start c in
    rw c.move_of-r.ensures (allowed_move_within_most _ _ s.requires.ewma_value s.requires.accepted.near)

-- the weights and the multiplier are in range
weighs : (c : After-model_of-m) → Weighing c.model_of-m.result
weighs c =
    let s = start c.before in
    rw c.model_of-m.ensures (rates_weighing _ (figures_in_ranges _ _ _ s.requires.accepted s.requires.ewma_value).statics)

pub move_of-r-requires : goal.move_of-r-requires
move_of-r-requires c =
    let a = c.requires.accepted in
    let both = sound_prices_valid _ a.sound_record in
    (both.0, both.1, a.price)

pub weighted-x-requires : goal.weighted-x-requires
weighted-x-requires c =
    let s = start (goal.at.weighted-x-requires c).After-move_of-r in
    let given = figures_in_ranges _ _ _ s.requires.accepted s.requires.ewma_value in
    let high = weight_most_lem _ s.args.d.b c.move_of-r.result s.args.old.s (weighs (goal.at.weighted-x-requires c).After-model_of-m) in
    omega (arith, c.weight_of.ensures, high, given.volatility, move_high (goal.at.weighted-x-requires c).After-move_of-r)

pub overflow_mul-last : goal.overflow_mul-last
overflow_mul-last c =
    let s = start (goal.at.overflow_mul-last c).After-move_of-r in
    omega (arith, (figures_in_ranges _ _ _ s.requires.accepted s.requires.ewma_value).last_rate)

pub replacement_taken-y-requires : goal.replacement_taken-y-requires
replacement_taken-y-requires c = (
  omega (arith, (weighs (goal.at.replacement_taken-y-requires c).After-model_of-m).q),
  move_high (goal.at.replacement_taken-y-requires c).After-move_of-r,
)

pub tentative_rate_of-requires : goal.tentative_rate_of-requires
tentative_rate_of-requires c =
    let s = start (goal.at.tentative_rate_of-requires c).After-move_of-r in record { rate_statics = (figures_in_ranges _ _ _ s.requires.accepted s.requires.ewma_value).statics; r_le_volatility_most = (move_high (goal.at.tentative_rate_of-requires c).After-move_of-r, made_volatility_high _ _ _ s.requires.accepted s.requires.ewma_value) }

pub returns : goal.returns
unfolding move_to
returns c =
    let s = start (goal.at.returns c).After-move_of-r in
    deciding_is _ _ _ s.requires.accepted s.requires.ewma_value _ _ _ _ c.move_of-r.ensures
    (rw (c.weight_of.ensures, c.model_of-m.ensures) at c.weighted-x.ensures)
    (rw c.model_of-m.ensures at c.replacement_taken-y.ensures) c.tentative_rate_of.ensures
