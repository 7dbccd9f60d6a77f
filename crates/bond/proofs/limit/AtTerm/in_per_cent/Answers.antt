-- `bond::limit::AtTerm::in_per_cent` meets its contract: what is left of the grown price, rounded once.
use Rattle.bond.proofs.limit.AtTerm.in_per_cent.Goals as goal

pub returns : goal.returns
returns c = rw (c.rounded.ensures, c.saturating_sub.ensures)
