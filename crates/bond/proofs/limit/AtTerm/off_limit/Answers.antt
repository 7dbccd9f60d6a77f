-- `bond::limit::AtTerm::off_limit` meets its contract: the narrower of the band limit and that of the 20 per cent.
use Rattle.std.proofs.Common.{arith}
use Rattle.bond.proofs.limit.AtTerm.off_limit.Goals as goal

pub shifted_limit-requires : goal.shifted_limit-requires
shifted_limit-requires c = rw c.of.ensures (omega arith)

pub returns : goal.returns
returns c = rw (c.narrower.ensures, c.shifted_limit.ensures, c.of.ensures)
