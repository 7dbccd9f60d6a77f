-- `bond::Evaluated::all_limits` meets its contract: the limits of each of the three terms.
use Rattle.std.proofs.Common.{◌≡◌, true, ℕ, ◌<◌, arith, get_or}
use Rattle.paper.specs.Ranges.{valid_term, no_term}
use Rattle.bond.proofs.Facts.{bond_terms_valid}
use Rattle.bond.proofs.Evaluated.all_limits.Goals as goal
use Rattle.bond.proofs.Evaluated.all_limits.Goals.{After-terms_of-terms}

-- what each term asks
term_valid : (c : After-terms_of-terms) (k : ℕ) → k < 3 → valid_term (get_or c.terms_of-terms.result k no_term) ≡ true
term_valid c k h =
    let s = c.before.args.self.now in rw c.terms_of-terms.ensures (bond_terms_valid s.b s.price_known.valid k h)

pub limits_of-requires : goal.limits_of-requires
limits_of-requires c = term_valid (goal.at.limits_of-requires c).After-terms_of-terms 0 (omega arith)

pub limits_of-requires-2 : goal.limits_of-requires-2
limits_of-requires-2 c = term_valid (goal.at.limits_of-requires-2 c).After-terms_of-terms 1 (omega arith)

pub limits_of-requires-3 : goal.limits_of-requires-3
limits_of-requires-3 c = term_valid (goal.at.limits_of-requires-3 c).After-terms_of-terms 2 (omega arith)

pub returns : goal.returns
returns c =
    rw (
      c.limits_of-3.ensures,
      c.limits_of-2.ensures,
      c.limits_of.ensures,
      c.terms_of-terms.ensures,
    )
