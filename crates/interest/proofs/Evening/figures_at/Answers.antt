-- `interest::Evening::figures_at` meets its contract: the figures of the key maturity of that number, if there is one.
use Rattle.std.proofs.Common.{◌∙◌, sym}
use Rattle.paper_interest.specs.Interest.{maturity_figures, maturities_of, no_figures}
use Rattle.interest.proofs.Terms.{found_in_range, figure_found, figure_past}
use Rattle.interest.proofs.Evening.figures_at.Goals as goal

pub figures_of-requires-clause-key_range : goal.figures_of-requires-clause-key_range
figures_of-requires-clause-key_range c = found_in_range _ _ _ c.args.self.now.numbers_value (sym c.in-Some.ensures)

pub returns-in-Some : goal.returns-in-Some
returns-in-Some c =
    let evening = c.args.self.now in
    c.figures_of.ensures
    ∙ sym (figure_found (maturity_figures evening.i) no_figures (maturities_of evening.numbers.now) c.args.n c.in-Some.k (sym c.in-Some.ensures))

pub returns-in-None : goal.returns-in-None
returns-in-None c =
    let evening = c.args.self.now in
    sym (figure_past (maturity_figures evening.i) no_figures (maturities_of evening.numbers.now) c.args.n (sym c.in-None.ensures))
