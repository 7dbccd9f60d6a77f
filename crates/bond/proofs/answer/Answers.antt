-- `bond::answer` meets its contract: 6, then 17, then 7, else what `priced` answers.
use mathlib.Core.Path.{◌≡◌, sym, ap, ◌∙◌}
use mathlib.Core.Bool.{true, ◌&&◌}
use native.Mathlib.Nat.{pos_of_ne-zero}
use borrow.Author.Tests.{eq-eqb, ne_eqb}
use Rattle.paper.specs.declared.Price.{Price}
use Rattle.paper.proofs.Logic.{not_true, not_false, and_left, and_right}
use Rattle.inputs.proofs.Made.{price_made_lem, price_unmade}
use Rattle.paper_bonds.specs.Bonds.{valid_bond, valid_flows}
use Rattle.bond.proofs.Answers.{answers_out_of_range, answers_no_face_value, answers_price_out_of_range}
use mathlib.Core.Bool.{not}
use Rattle.bond.proofs.answer.Goals as goal
use Rattle.bond.proofs.answer.Goals.{After-flows_valid, Else-not-bond_valid-flows_valid}

-- the test of 6
tested_is : (c : After-flows_valid)
    → (c.before.bond_valid.result && c.flows_valid.result)
    ≡ (valid_bond c.before.before.args.b && valid_flows c.before.before.args.flows.now)
tested_is c = rw (c.before.bond_valid.ensures, c.flows_valid.ensures)

-- the test of 6 passed
in_range_known : (c : Else-not-bond_valid-flows_valid)
    → (valid_bond c.before.before.before.args.b
    && valid_flows c.before.before.before.args.flows.now) ≡ true
in_range_known c = sym (tested_is c.before) ∙ not_false _ (ap not c.if-not-bond_valid-flows_valid.false)

pub returns-then-not-bond_valid-flows_valid : goal.returns-then-not-bond_valid-flows_valid
returns-then-not-bond_valid-flows_valid c = c.refused.ensures
    ∙ answers_out_of_range _ _ (not_true _ (rw (tested_is (goal.at.returns-then-not-bond_valid-flows_valid c).After-flows_valid) at (ap not c.if-not-bond_valid-flows_valid.true)))

pub returns-then-b-eq0 : goal.returns-then-b-eq0
returns-then-b-eq0 c = c.refused-then-b-eq0.ensures
    ∙ answers_no_face_value _ _ (in_range_known (goal.at.returns-then-b-eq0 c).Else-not-bond_valid-flows_valid) (eq-eqb _ _ c.if-b-eq0.true)

pub gross_of-requires : goal.gross_of-requires
gross_of-requires c =
    and_left _ (valid_flows c.args.flows.now) (in_range_known (goal.at.gross_of-requires c).Else-not-bond_valid-flows_valid)

pub priced-requires : goal.priced-requires
priced-requires c =
    let made = price_made_lem _ _ (sym c.new-gross.ensures ∙ c.in-Some.is) in record {
      price_known = record {
        valid = and_left _ (valid_flows c.args.flows.now) (in_range_known (goal.at.priced-requires c).Else-not-bond_valid-flows_valid);
        flows = and_right (valid_bond c.args.b) _ (in_range_known (goal.at.priced-requires c).Else-not-bond_valid-flows_valid);
        face = pos_of_ne-zero c.if-b-eq0.false;
        price = rw c.gross_of.ensures at made.0;
      };
      units_value = ap (λ (p : Price). p.units) made.1 ∙ c.gross_of.ensures;
    }

pub returns-in-None : goal.returns-in-None
returns-in-None c =
    let out = price_unmade _ (sym c.new-gross.ensures ∙ c.in-None.is) in
    c.refused-in-None.ensures
    ∙ answers_price_out_of_range _ _ (in_range_known (goal.at.returns-in-None c).Else-not-bond_valid-flows_valid) (ne_eqb _ _ c.if-b-eq0.false)
    (rw c.gross_of.ensures at out)
