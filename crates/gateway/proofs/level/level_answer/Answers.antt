-- `level::level_answer` meets its contract: 4 where the statics' test fails, else 6 where the other values' test fails,
-- else the figure, which is at most S_max and so fits.
use mathlib.Core.Path.{◌≡◌, sym, ◌∙◌}
use mathlib.Core.Bool.{true}
use native.Mathlib.Omega.{arith}
use borrow.Author.Rules.{rules}
use Rattle.paper.specs.Ranges.{valid_statics}
use Rattle.paper_desk.specs.Gateway.{level_call}
use Rattle.inputs.proofs.Facts.{statics_step_positive, statics_facts}
use Rattle.gateway.specs.GatewayLaws.{figure_high}
use Rattle.gateway.proofs.Answers.{made_valid, answers_minus_four, answers_minus_six, answers_figure}
use Rattle.gateway.proofs.level.level_answer.Goals as goal
use Rattle.gateway.proofs.level.level_answer.Goals.{After-statics_of-st}

valid : (c : After-statics_of-st) → valid_statics c.statics_of-st.result ≡ true
valid c = made_valid _ c.before.before.valid_given.ensures c.before.if-valid_given.true c.statics_of-st.ensures

pub level_in_range-requires : goal.level_in_range-requires
level_in_range-requires c = statics_step_positive _ (valid (goal.at.level_in_range-requires c).After-statics_of-st)

pub level_figure-rate-requires : goal.level_figure-rate-requires
level_figure-rate-requires c = record { st_value = valid (goal.at.level_figure-rate-requires c).After-statics_of-st; level_value = sym c.level_in_range.ensures ∙ c.if-level_in_range.true }

pub figure-requires : goal.figure-requires
figure-requires c =
    let a = c.args in
    let high = figure_high c.statics_of-st.result a.tentative a.m a.level (valid (goal.at.figure-requires c).After-statics_of-st) in
    omega (arith, c.level_figure-rate.ensures, high, (statics_facts _ (valid (goal.at.figure-requires c).After-statics_of-st)).smax)

pub returns-then-level_in_range : goal.returns-then-level_in_range
unfolding level_call
returns-then-level_in_range c =
    rw (← c.statics_of-st.ensures)
    (answers_figure _ _ _ (search rules) c.valid_given.ensures c.figure.ensures
    c.level_figure-rate.ensures
    c.if-valid_given.true c.level_in_range.ensures c.if-level_in_range.true)

pub returns-then-valid_given : goal.returns-then-valid_given
unfolding level_call
returns-then-valid_given c =
    rw (← c.statics_of-st.ensures)
    (answers_minus_six _ _ _ (search rules) c.valid_given.ensures c.refusal.ensures
    c.if-valid_given.true
    c.level_in_range.ensures c.if-level_in_range.false)

pub returns : goal.returns
unfolding level_call
returns c = answers_minus_four _ _ _ (search rules) c.valid_given.ensures c.refusal-2.ensures
    c.if-valid_given.false
