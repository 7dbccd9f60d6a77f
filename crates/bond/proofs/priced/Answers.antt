-- `bond::priced` meets its contract: 9, else the figures.
use mathlib.Core.Path.{◌≡◌, sym, ap, ◌∙◌}
use Rattle.paper.specs.declared.Figures.{Figures}
use Rattle.paper.specs.Ranges.{rate_at}
use Rattle.paper_bonds.specs.Bonds.{bond_statics, bond_figures, accepted_bond}
use Rattle.bond.proofs.Facts.{volatility_ranges}
use Rattle.bond.proofs.Answers.{answers_band_crossed, answers_figures, crossed_is}
use Rattle.bond.proofs.priced.Goals as goal
use Rattle.bond.proofs.priced.Goals.{After-figures_by_volatility-figures, After-statics_of-st}

statics_are : (c : After-statics_of-st) → c.statics_of-st.result ≡ bond_statics c.before.before.before.args.b
statics_are c = rw c.before.given_of.ensures at c.statics_of-st.ensures

figures_are : (c : After-figures_by_volatility-figures)
    → let start = c.before.before.before.before.before in
    c.figures_by_volatility-figures.result ≡ bond_figures start.args.b
unfolding bond_figures
figures_are c = rw (statics_are c.before.before) at c.figures_by_volatility-figures.ensures

pub figures_by_volatility-figures-requires : goal.figures_by_volatility-figures-requires
figures_by_volatility-figures-requires c =
    rw (statics_are (goal.at.figures_by_volatility-figures-requires c).After-statics_of-st) (volatility_ranges c.args.b c.requires.price_known.valid)

pub invariant_of-all_limits : goal.invariant_of-all_limits
invariant_of-all_limits c =
    record {
      price_known = c.requires.price_known;
      figured = record {
        statics = statics_are (goal.at.invariant_of-all_limits c).After-statics_of-st;
        price = c.requires.units_value;
        rate = ap (λ (x : Figures). rate_at x.rates 0) (figures_are (goal.at.invariant_of-all_limits c).After-figures_by_volatility-figures);
      };
    }

pub returns-then-some_crossed : goal.returns-then-some_crossed
returns-then-some_crossed c =
    c.refused.ensures
    ∙ answers_band_crossed _ _ c.requires.price_known
    (sym (crossed_is _ _ _ c.some_crossed.ensures c.all_limits-limits.ensures) ∙ c.if-some_crossed.true)

pub returns : goal.returns
unfolding accepted_bond
returns c =
    rw (c.requires.units_value, figures_are (goal.at.returns c).After-figures_by_volatility-figures, c.all_limits-limits.ensures)
    (answers_figures _ _ c.requires.price_known
    (sym (crossed_is _ _ _ c.some_crossed.ensures c.all_limits-limits.ensures) ∙ c.if-some_crossed.false))
