-- `text_deed::ask_of` meets its contract: the deed of each kind of line.
use native.Mathlib.Omega.{arith}
use Rattle.text_deed.proofs.Asking.{asks_nothing, asks_no_call, asks_call, asks_interest, asks_bond}
use Rattle.text_deed.proofs.ask_of.Goals as goal

pub returns-in-100 : goal.returns-in-100
returns-in-100 c = asks_nothing _ _ _ _ c.in-100.is

pub returns-in-101 : goal.returns-in-101
returns-in-101 c = asks_no_call _ _ _ _ c.in-101.is

pub returns-in-10 : goal.returns-in-10
returns-in-10 c = asks_interest _ _ _ _ _ c.in-10.is c.interest_of.ensures

pub returns-in-11 : goal.returns-in-11
returns-in-11 c = asks_bond _ _ _ _ _ c.in-11.is c.bond_of.ensures

pub returns-in_default : goal.returns-in_default
returns-in_default c =
    asks_call _ _ _ _ _ (λ e. omega (arith, e)) (λ e. omega (arith, e)) (λ e. omega (arith, e)) (λ e. omega (arith, e))
    c.call_of.ensures
