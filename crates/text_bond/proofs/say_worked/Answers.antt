-- `say_worked` meets its contract: P TENTATIVE AGE S1 S2 S3, and the limits of each term.
use Rattle.text_bond.proofs.BondTold.{bond_told}
use Rattle.text_bond.proofs.say_worked.Goals as goal

pub returns-clause-text : goal.returns-clause-text
returns-clause-text c =
    bond_told c.args.a c.args.out.now _ _ _ _ _ _ _ c.put_number.ensures.text c.put_figures.ensures.text
    c.put_rates.ensures.text c.put_limits.ensures.text c.put_limits-2.ensures.text c.put_limits-3.ensures.text
    c.put_byte.ensures.text
