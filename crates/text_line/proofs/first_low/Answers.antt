-- `text_line::first_low` meets its contract: the place is that of RRCL0 among the call's names, and the others are a
-- term's numbers apart.
use Rattle.text_line.proofs.Table.{lows_of_a_bond, lows_of_another}
use Rattle.text_line.proofs.first_low.Goals as goal

pub returns-then-kind-eq-BOND : goal.returns-then-kind-eq-BOND
returns-then-kind-eq-BOND c = lows_of_a_bond _ c.if-kind-eq-BOND.true

pub returns-else-kind-eq-BOND : goal.returns-else-kind-eq-BOND
returns-else-kind-eq-BOND c = lows_of_another _ c.if-kind-eq-BOND.false
