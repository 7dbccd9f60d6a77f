-- `level::level_figure` meets its contract: with isEWMA yes it is the level's rate, with isEWMA no the level's minimum.
use mathlib.Core.Path.{sym, ◌∙◌}
use Rattle.paper_desk.specs.Gateway.{level_figure}
use Rattle.paper.proofs.Logic.{pick_true, pick_false}
use Rattle.rates_level.proofs.Statics.{valid_are_rate_statics, within_tentative_bound}
use Rattle.gateway.specs.GatewayLaws.{level_inputs}
use Rattle.gateway.proofs.level.level_figure.Goals as goal

pub level_rate-requires : goal.level_rate-requires
level_rate-requires c =
    let a = c.args in
    let rates = valid_are_rate_statics a.st c.requires.st_value in
    let inputs = level_inputs a.st a.tentative a.m a.level c.requires.level_value in
    record { rate_statics = rates; m_le_ahead_most = (inputs.ahead, within_tentative_bound rates inputs.high) }

pub returns-then-st : goal.returns-then-st
unfolding level_figure
returns-then-st c = c.level_rate.ensures ∙ sym (pick_true _ _ _ c.if-st.true)

pub level_of-own-requires : goal.level_of-own-requires
level_of-own-requires c = valid_are_rate_statics _ c.requires.st_value

pub returns : goal.returns
unfolding level_figure
returns c = rw c.level_of-own.ensures (sym (pick_false _ _ _ c.if-st.false))
