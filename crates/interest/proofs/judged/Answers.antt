-- `interest::judged` meets its contract: 6, then 14, and what is not refused is in range and in order.
use Rattle.std.proofs.Common.{◌≡◌, refl, true, not, ◌&&◌, sym, ap, ◌∙◌, ltb}
use Rattle.paper_interest.specs.Interest.{valid_interest, valid_keys, maturities_of, strictly_ascending}
use Rattle.paper.specs.Verdicts.{is_done}
use Rattle.paper.proofs.Logic.{not_true, not_false}
use Rattle.interest_maturities.specs.KeyLaws.{valid_whole, whole_in_eights}
use Rattle.interest.proofs.Answers.{answered_keys_valid, answered_pair_in_range, judged_out_of_range, judged_not_ascending, judged_done}
use Rattle.interest.proofs.judged.Goals as goal
use Rattle.interest.proofs.judged.Goals.{After-keys_valid, Else-not-in_order, Else-not-interest_valid-keys_valid}

-- the test of 6, and that it passed; the test of 14 passed
tested_is : (c : After-keys_valid)
    → (c.before.interest_valid.result && c.keys_valid.result)
    ≡ (valid_interest c.before.before.args.i && valid_keys c.before.before.args.numbers.now)
tested_is c = rw (c.before.interest_valid.ensures, c.keys_valid.ensures)

in_range_known : (c : Else-not-interest_valid-keys_valid) → (valid_interest c.before.before.before.args.i
    && valid_keys c.before.before.before.args.numbers.now) ≡ true
in_range_known c = sym (tested_is c.before) ∙ not_false _ (ap not c.if-not-interest_valid-keys_valid.false)

in_order_known : (c : Else-not-in_order)
    → let start = c.before.before.before.before.before in
    (strictly_ascending (maturities_of start.args.numbers.now) && ltb start.args.i.ym start.args.i.yn)
    ≡ true
in_order_known c = sym c.before.in_order.ensures ∙ not_false _ (ap not c.if-not-in_order.false)

pub returns-then-not-interest_valid-keys_valid-clause-refused : goal.returns-then-not-interest_valid-keys_valid-clause-refused
unfolding is_done
returns-then-not-interest_valid-keys_valid-clause-refused c = (
  judged_out_of_range _ _ (not_true _ (rw (tested_is (goal.at.returns-then-not-interest_valid-keys_valid-clause-refused c).After-keys_valid) at (ap not c.if-not-interest_valid-keys_valid.true))),
  refl,
)

pub in_order-requires : goal.in_order-requires
in_order-requires c = whole_in_eights _ (valid_whole _ (answered_keys_valid _ _ (in_range_known (goal.at.in_order-requires c).Else-not-interest_valid-keys_valid)))

pub returns-then-not-in_order-clause-refused : goal.returns-then-not-in_order-clause-refused
unfolding is_done
returns-then-not-in_order-clause-refused c = (
  judged_not_ascending _ _ (in_range_known (goal.at.returns-then-not-in_order-clause-refused c).Else-not-interest_valid-keys_valid)
      (not_true _ (rw c.in_order.ensures at (ap not c.if-not-in_order.true))),
  refl,
)

pub invariant_of-result : goal.invariant_of-result
invariant_of-result c =
    let valid = in_range_known (goal.at.invariant_of-result c).Else-not-interest_valid-keys_valid in
    record {
      pair_range = answered_pair_in_range _ _ valid (in_order_known (goal.at.invariant_of-result c).Else-not-in_order);
      numbers_value = answered_keys_valid _ _ valid;
    }

pub returns-clause-accepted : goal.returns-clause-accepted
returns-clause-accepted c = (
  refl,
  refl,
  judged_done _ _ (in_range_known (goal.at.returns-clause-accepted c).Else-not-interest_valid-keys_valid)
      (in_order_known (goal.at.returns-clause-accepted c).Else-not-in_order),
)
