-- `evaluation::discounted` meets its contract: narrow, the quotient is the paper's with a common factor taken away;
-- wide, it is the paper's.
use mathlib.Core.Path.{◌∙◌}
use native.Mathlib.Omega.{arith}
use Rattle.evaluation.proofs.Prices.{narrow_discount_same}
use Rattle.evaluation.proofs.discounted.Goals as goal

pub returns-then-x-le-NARROW_MOST : goal.returns-then-x-le-NARROW_MOST
returns-then-x-le-NARROW_MOST c = c.half_up.ensures ∙ narrow_discount_same _ _ (omega arith)

pub returns-else-x-le-NARROW_MOST : goal.returns-else-x-le-NARROW_MOST
returns-else-x-le-NARROW_MOST c = c.half_up_wide.ensures
