-- `bond::bond_valid` meets its contract: behind valid statics each test is the definition's, and without them the first
-- fails.
use mathlib.Core.Path.{◌≡◌, sym, ◌∙◌}
use mathlib.Core.Bool.{true}
use Rattle.std.proofs.Common.{rules}
use Rattle.paper.specs.Ranges.{valid_given}
use Rattle.inputs.proofs.Facts.{statics_step_positive, given_statics_valid}
use Rattle.paper_bonds.specs.Bonds.{bond_given, bond_statics, valid_bond}
use Rattle.bond.proofs.bond_valid.Goals as goal
use Rattle.bond.proofs.bond_valid.Goals.{After-statics_of, Then-valid_given}

-- the statics are in range, and what they are
given_passed : (c : Then-valid_given) → valid_given (bond_given c.before.before.before.before.args.b.statics) ≡ true
given_passed c = rw c.before.before.given_of-given.ensures at (sym c.before.valid_given.ensures ∙ c.if-valid_given.true)

statics_are : (c : After-statics_of)
    → let start = c.before.before.before.before.before in
    c.statics_of.result ≡ bond_statics start.args.b
statics_are c = rw c.before.before.before.given_of-given.ensures at c.statics_of.ensures

pub valid_numbers-requires : goal.valid_numbers-requires
valid_numbers-requires c =
    (statics_are (goal.at.valid_numbers-requires c).After-statics_of, rw (statics_are (goal.at.valid_numbers-requires c).After-statics_of) (statics_step_positive _ (given_statics_valid _ (given_passed (goal.at.valid_numbers-requires c).Then-valid_given))))

pub returns-then-valid_given : goal.returns-then-valid_given
unfolding valid_bond
returns-then-valid_given c =
    rw (
      c.is_within.ensures,
      c.valid_terms.ensures,
      c.terms_of.ensures,
      c.valid_numbers.ensures,
      given_passed (goal.at.returns-then-valid_given c).Then-valid_given,
    )
    (search rules)

pub returns : goal.returns
unfolding valid_bond
returns c =
    rw (rw c.given_of-given.ensures at (sym c.valid_given.ensures ∙ c.if-valid_given.false))
