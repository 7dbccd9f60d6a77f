-- `interest_maturities::split_first` meets its contract: the numbers of the first, and those behind them.
use Rattle.std.proofs.Common.{arith}
use Rattle.interest_maturities.specs.KeyLaws.{first_and_others}
use Rattle.interest_maturities.proofs.split_first.Goals as goal

pub returns-clause-parts : goal.returns-clause-parts
returns-clause-parts c =
    let parts = c.in_ok-first.ensures.cases in
    rw (c.maturity_of.ensures, parts.0, parts.1) (first_and_others _ (omega (arith, parts.2)))
