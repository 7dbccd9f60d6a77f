-- `bond::gross_of` meets its contract: the ranges keep the product and the sum within 64 bits.
use Prim.Native.Nat.{◌*◌, ◌≤◌}
use native.Mathlib.Nat.{mul-le-mul}
use native.Mathlib.Omega.{arith}
use Rattle.paper.specs.Numbers.{one_in_per_cent_hundredths}
use Rattle.paper.proofs.Roundings.{half_le}
use Rattle.paper_bonds.specs.BondNumbers.{net_most, money_most}
use Rattle.paper_bonds.specs.Bonds.{gross_of}
use Rattle.bond.proofs.Facts.{BondFacts, bond_facts}
use Rattle.bond.proofs.gross_of.Goals as goal
use Rattle.bond.proofs.gross_of.Goals.{Start}

facts_known : (s : Start) → BondFacts s.args.b
facts_known s = bond_facts s.args.b s.requires

product_high : (s : Start) → s.args.b.net * s.args.b.face ≤ net_most * money_most
product_high s = mul-le-mul (facts_known s).net (facts_known s).face

pub overflow_mul-b : goal.overflow_mul-b
overflow_mul-b c = omega (arith, product_high (goal.at.overflow_mul-b c).Start)

pub overflow_add-result : goal.overflow_add-result
overflow_add-result c =
    let rounded = half_le (c.args.b.net * c.args.b.face) one_in_per_cent_hundredths (3 * money_most) (omega arith)
    (omega (arith, product_high (goal.at.overflow_add-result c).Start)) in
    rw c.half_up.ensures (omega (arith, rounded, (facts_known (goal.at.overflow_add-result c).Start).accrued))

pub returns : goal.returns
unfolding gross_of
returns c = rw c.half_up.ensures
