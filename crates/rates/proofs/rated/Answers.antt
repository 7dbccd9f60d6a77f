-- `rated` meets its contract: the rates are those of the tentative rate that t makes, which stays in their range.
use native.Mathlib.Omega.{arith}
use Rattle.paper_desk.proofs.Bounds.{tentative_held}
use Rattle.rates.proofs.rated.Goals as goal

pub tentative_after-tentative-requires : goal.tentative_after-tentative-requires
tentative_after-tentative-requires c = omega (arith, c.requires, c.requires.statics)

pub rates_of-rates-requires : goal.rates_of-rates-requires
rates_of-rates-requires c =
    let given = c.requires in record { rate_statics = given.statics; m_le_ahead_most = (given.ahead, rw c.tentative_after-tentative.ensures (tentative_held _ _ _ _ _ given.t_high given.tentative)) }

pub returns : goal.returns
returns c = rw (c.rates_of-rates.ensures, c.tentative_after-tentative.ensures)
