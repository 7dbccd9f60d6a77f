-- `bond::valid_numbers` meets its contract: the code's tests are the definition's, in its order.
use Rattle.paper_bonds.specs.Bonds.{valid_numbers}
use Rattle.bond.proofs.valid_numbers.Goals as goal

pub returns : goal.returns
unfolding valid_numbers
returns c =
    rw (c.valid_tentative.ensures, c.requires.0)
