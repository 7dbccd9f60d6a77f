-- `text_word::item_of` meets its contract: what a word behind the call's is.
use Rattle.text_word.proofs.Items.{item_one, item_two, item_neither}
use mir.Facts.{to_z-of_z}
use mir.Syntax.{w64}
use borrow.Author.Rules.{rules}
use mathlib.Core.Path.{sym, ◌∙◌}
use Rattle.text_word.proofs.item_of.Goals as goal

pub returns-then-at-p : goal.returns-then-at-p
returns-then-at-p c = c.pair_at.ensures ∙ sym (item_two _ _ c.find-at.ensures.0 c.if-at-p.true)

pub returns : goal.returns
returns c = item_neither _ _ c.find-at.ensures.0 (sym
    c.number_of-whole.ensures ∙ c.in_default.is) c.if-at-p.false

pub returns-in-Some : goal.returns-in-Some
returns-in-Some c = rw (to_z-of_z {w = w64} {z = c.in-Some.z} (search rules))
    (item_one _ _ (sym c.number_of-whole.ensures ∙ c.in-Some.is))
