-- `text_word::pair_at` meets its contract: the two numbers of a pair Ym/Yn, whose slash stands at `at`.
use Rattle.text_word.proofs.Items.{first_bad, second_bad, two_numbers, behind}
use mir.Facts.{to_z-of_z}
use mir.Syntax.{w64}
use borrow.Author.Rules.{rules}
use lib.Seq.{length-take-le}
use native.Mathlib.Omega.{arith}
use mathlib.Core.Path.{sym, ◌∙◌}
use Rattle.text_word.proofs.pair_at.Goals as goal

pub slice_bounds-number_of-end : goal.slice_bounds-number_of-end
slice_bounds-number_of-end c = sym (length-take-le _ _ (omega arith))

pub returns-in_default : goal.returns-in_default
returns-in_default c = first_bad _ _ (sym c.number_of-first.ensures ∙ c.in_default.is)

pub returns-in_default-second : goal.returns-in_default-second
returns-in_default-second c =
    second_bad _ _ _ (sym c.number_of-first.ensures ∙ c.in-Some.is)
    (sym (rw (behind c.args.p.now _) at c.number_of-second.ensures) ∙ c.in_default-second.is)

pub returns : goal.returns
returns c =
    let first = to_z-of_z {w = w64} {z = c.in-Some.m} (search rules) in
    let second = to_z-of_z {w = w64} {z = c.in-Some-second.n} (search rules) in
    rw (first, second)
    (two_numbers _ _ _ (sym c.number_of-first.ensures ∙ c.in-Some.is) _
    (sym (rw (behind c.args.p.now _) at c.number_of-second.ensures) ∙ c.in-Some-second.is))
