-- `text_call::kept::found` meets its contract: the first of the three tests that passes.
use mathlib.Core.Path.{sym, ◌∙◌}
use Rattle.text_protocol.specs.Kept.{found_in}
use Rattle.text_call.proofs.kept.found.Goals as goal

pub returns-then-is_of : goal.returns-then-is_of
unfolding found_in
returns-then-is_of c = rw (sym c.is_of.ensures ∙ c.if-is_of.true)

pub returns-then-is_of-2 : goal.returns-then-is_of-2
unfolding found_in
returns-then-is_of-2 c =
    rw (
      sym c.is_of.ensures ∙ c.if-is_of.false,
      sym c.is_of-2.ensures ∙ c.if-is_of-2.true,
    )

pub returns-then-is_of-3 : goal.returns-then-is_of-3
unfolding found_in
returns-then-is_of-3 c =
    rw (
      sym c.is_of.ensures ∙ c.if-is_of.false,
      sym c.is_of-2.ensures ∙ c.if-is_of-2.false,
      sym c.is_of-3.ensures ∙ c.if-is_of-3.true,
    )

pub returns : goal.returns
unfolding found_in
returns c =
    rw (
      sym c.is_of.ensures ∙ c.if-is_of.false,
      sym c.is_of-2.ensures ∙ c.if-is_of-2.false,
      sym c.is_of-3.ensures ∙ c.if-is_of-3.false,
    ) c.unknown.ensures
