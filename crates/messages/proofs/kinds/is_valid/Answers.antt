-- `is_valid` meets its contract: the tests in the definition's order.
use mathlib.Core.Path.{◌≡◌, sym, ◌∙◌}
use mathlib.Core.Bool.{true}
use borrow.Author.Tests.{not-true, not-false, eq-eqb, ne_eqb}
use Rattle.paper_messages.specs.Messages.{is_known_kind, in_ranges, valid}
use Rattle.paper_messages.specs.Fields.{places_of}
use mathlib.Core.Path.{ap}
use mathlib.Core.Bool.{not}
use Rattle.messages.proofs.kinds.is_valid.Goals as goal
use Rattle.messages.proofs.kinds.is_valid.Goals.{After-in_ranges, Else-not-is_known_kind}

-- the kind is known
known : (c : Else-not-is_known_kind) → let s = c.before.before.before in is_known_kind s.args.m.kind ≡ true
known c = sym c.before.is_known_kind.ensures ∙ not-false _ (ap not c.if-not-is_known_kind.false)

-- what is said of the ranges
ranges : (c : After-in_ranges)
    → let s = c.before.before.before.before.before in
    in_ranges (places_of s.args.m.kind) s.args.m.fields ≡ c.in_ranges.result
ranges c = sym (rw c.before.places_of.ensures at c.in_ranges.ensures)

pub returns-then-not-is_known_kind : goal.returns-then-not-is_known_kind
unfolding valid
returns-then-not-is_known_kind c = rw (sym c.is_known_kind.ensures ∙ not-true _ (ap not c.if-not-is_known_kind.true))

pub returns-then-not-in_ranges : goal.returns-then-not-in_ranges
unfolding valid
returns-then-not-in_ranges c =
    rw (known (goal.at.returns-then-not-in_ranges c).Else-not-is_known_kind, ranges (goal.at.returns-then-not-in_ranges c).After-in_ranges ∙ not-true _ (ap not c.if-not-in_ranges.true))

pub returns-then-kind-eq-STATICS : goal.returns-then-kind-eq-STATICS
unfolding valid
returns-then-kind-eq-STATICS c =
    let ranged = ranges (goal.at.returns-then-kind-eq-STATICS c).After-in_ranges ∙ not-false _ (ap not c.if-not-in_ranges.false) in
    rw (known (goal.at.returns-then-kind-eq-STATICS c).Else-not-is_known_kind, ranged, eq-eqb _ 1 c.if-kind-eq-STATICS.true)
    c.as_admission.ensures

pub returns : goal.returns
unfolding valid
returns c =
    let ranged = ranges (goal.at.returns c).After-in_ranges ∙ not-false _ (ap not c.if-not-in_ranges.false) in
    rw (known (goal.at.returns c).Else-not-is_known_kind, ranged, ne_eqb _ 1 c.if-kind-eq-STATICS.false)
