-- `bond::flows::Carry::due` meets its contract, by the day of the cash flow.
use Rattle.std.proofs.lemmas.Bool.{le-leb, lt-leb}
use Rattle.paper_bonds.specs.Bonds.{carry_due}
use Rattle.bond.proofs.flows.Carry.due.Goals as goal

pub returns-then-f-self : goal.returns-then-f-self
unfolding carry_due
returns-then-f-self c = rw (c.term.ensures, le-leb _ _ c.if-f-self.true)

pub returns-else-f-self : goal.returns-else-f-self
unfolding carry_due
returns-else-f-self c = rw (lt-leb _ _ c.if-f-self.false)
