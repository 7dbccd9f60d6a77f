-- `inputs::valid_admission` meets its contract: where the id and the statics are in range the rest of the test is that
-- of the figures, and where they are not the whole is no. The step of valid statics is not 0.
use mathlib.Core.Path.{◌≡◌, ◌∙◌}
use mathlib.Core.Bool.{true, ◌&&◌}
use Rattle.paper.specs.Numbers.{id_most}
use Rattle.paper.specs.Ranges.{within, statics_of, valid_given, valid_admission}
use Rattle.paper.proofs.Logic.{and_right}
use Rattle.inputs.proofs.Tests.{two_tests_same}
use Rattle.inputs.proofs.Facts.{statics_step_positive, given_statics_valid}
use Rattle.inputs.proofs.calls.valid_admission.Goals as goal
use Rattle.inputs.proofs.calls.valid_admission.Goals.{Then-valid_id-valid_given}

passed : (c : Then-valid_id-valid_given)
    → (within 1 id_most c.before.before.before.before.args.a.id
    && valid_given c.before.before.before.before.args.a.given) ≡ true
passed c = two_tests_same c.before.before.valid_id.ensures c.before.valid_given.ensures c.if-valid_id-valid_given.true

pub valid_figures-requires : goal.valid_figures-requires
valid_figures-requires c =
    let id = within 1 id_most c.args.a.id in
    rw c.statics_of.ensures (statics_step_positive _ (given_statics_valid _ (and_right id _ (passed (goal.at.valid_figures-requires c).Then-valid_id-valid_given))))

pub returns-then-valid_id-valid_given : goal.returns-then-valid_id-valid_given
unfolding valid_admission statics_of
returns-then-valid_id-valid_given c = c.valid_figures.ensures ∙ rw (c.statics_of.ensures, passed (goal.at.returns-then-valid_id-valid_given c).Then-valid_id-valid_given)

pub returns : goal.returns
unfolding valid_admission
returns c = rw (two_tests_same c.valid_id.ensures c.valid_given.ensures
    c.if-valid_id-valid_given.false)
