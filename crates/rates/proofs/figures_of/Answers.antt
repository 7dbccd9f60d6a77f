-- `figures_of` meets its contract: by isEWMA, the figures of one rule or of the other.
use mathlib.Core.Path.{◌≡◌, sym, ◌∙◌}
use mathlib.Core.Bool.{true, false}
use Prim.Native.Nat.{ℕ, ◌≤◌}
use borrow.Author.Tests.{ltb-false}
use Rattle.paper.specs.declared.Statics.{Statics}
use Rattle.paper.specs.Numbers.{volatility_most}
use Rattle.paper_desk.specs.Rates.{figures_of, move_too_large}
use Rattle.paper.proofs.Logic.{and_right_false, pick_true, pick_false}
use Rattle.rates.proofs.figures_of.Goals as goal

move_held : (st : Statics) (r : ℕ) → move_too_large st r ≡ false → st.ewma ≡ true → r ≤ volatility_most
unfolding move_too_large
move_held st r e p = ltb-false _ _ (and_right_false _ _ e p)

pub modelled-requires : goal.modelled-requires
modelled-requires c = record { figure_ranges = c.requires.figure_ranges; r_le_volatility_most = move_held _ _ c.requires.r_value c.if-st.true }

pub unmodelled-requires : goal.unmodelled-requires
unmodelled-requires c = c.requires.figure_ranges.statics

pub returns-then-st : goal.returns-then-st
unfolding figures_of
returns-then-st c = c.modelled.ensures ∙ (sym (pick_true _ _ _ c.if-st.true))

pub returns-else-st : goal.returns-else-st
unfolding figures_of
returns-else-st c = c.unmodelled.ensures ∙ (sym (pick_false _ _ _ c.if-st.false))
