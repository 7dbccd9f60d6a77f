-- `interest_maturities::forward::between` meets its contract: each figure is `linear`'s.
use Rattle.interest_maturities.specs.Points.{point_between}
use Rattle.interest_maturities.proofs.forward.between.Goals as goal

pub returns : goal.returns
unfolding point_between
returns c = rw (c.linear.ensures, c.linear-2.ensures, c.linear-3.ensures)
