-- `record_monitoring::watched` meets its contract: of the record only the quote's term and the last quote second
-- change.
use native.Mathlib.Omega.{arith}
use Rattle.paper_desk.specs.Desk.{quoted}
use Rattle.record_writing.proofs.Facts.{quoted_term_below_three}
use Rattle.record_monitoring.proofs.watched.Goals as goal

pub offset_bounds-near-term : goal.offset_bounds-near-term
offset_bounds-near-term c = record { fits = omega (arith, quoted_term_below_three _ c.requires.q_value) }

pub bounds-near-term : goal.bounds-near-term
bounds-near-term c = quoted_term_below_three _ c.requires.q_value

pub returns : goal.returns
unfolding quoted
returns c = rw c.requires.n_value
