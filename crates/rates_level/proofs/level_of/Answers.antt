-- `level_of` meets its contract: its arms are the tests of the two definitions, and each minimum is a rate.
use native.Mathlib.Omega.{arith}
use borrow.Author.Tests.{ne_eqb}
use Rattle.paper_desk.specs.Rates.{days_of, minimum_of}
use Rattle.rates_level.proofs.level_of.Goals as goal

pub returns-in-1 : goal.returns-in-1
unfolding days_of minimum_of
returns-in-1 c = rw (c.in-1.is, c.of.ensures)

pub returns-in-2 : goal.returns-in-2
unfolding days_of minimum_of
returns-in-2 c = rw (c.in-2.is, c.of-in-2.ensures)

pub returns-in_default : goal.returns-in_default
unfolding days_of minimum_of
returns-in_default c =
    rw (ne_eqb c.args.level 1 (omega arith), ne_eqb c.args.level 2 (omega arith), c.of-in_default.ensures)
