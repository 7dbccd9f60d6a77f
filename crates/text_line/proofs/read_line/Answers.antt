-- `text_line::read_line` meets its contract: what a line says.
use Rattle.text_line.proofs.LineLoop.{long_line, blank_line, heading_line, no_call, some_call}
use Rattle.text_line.proofs.Table.{kind_is}
use Rattle.text_protocol.specs.Kinds.{kind_or_none}
use native.Mathlib.Omega.{arith}
use mathlib.Core.Path.{ap, ◌∙◌}
use Rattle.text_line.proofs.read_line.Goals as goal

pub returns-then-l-gt-LONGEST : goal.returns-then-l-gt-LONGEST
returns-then-l-gt-LONGEST c = long_line _ c.if-l-gt-LONGEST.true

pub returns-then-a-l : goal.returns-then-a-l
returns-then-a-l c =
    blank_line _ c.if-l-gt-LONGEST.false _ c.past_blanks-a.ensures.0 (omega (arith, c.if-a-l.true))

pub returns-then-is_heading : goal.returns-then-is_heading
returns-then-is_heading c =
    heading_line _ c.if-l-gt-LONGEST.false _ c.past_blanks-a.ensures.0 _ _ (omega arith)
    c.past_word-e.ensures.0 c.is_heading.ensures c.if-is_heading.true

pub returns-in-None : goal.returns-in-None
returns-in-None c =
    no_call _ c.if-l-gt-LONGEST.false _ c.past_blanks-a.ensures.0 _ _ (omega arith)
    c.past_word-e.ensures.0 c.is_heading.ensures _ c.if-is_heading.false
    (ap kind_or_none c.kind_of.ensures ∙ kind_is _) c.in-None.is

pub returns-in-Some : goal.returns-in-Some
returns-in-Some c =
    c.words_behind.ensures
    ∙ some_call _ c.if-l-gt-LONGEST.false _ c.past_blanks-a.ensures.0 _ _ (omega arith)
    c.past_word-e.ensures.0 c.is_heading.ensures _ c.if-is_heading.false
    (ap kind_or_none c.kind_of.ensures ∙ kind_is _) _ c.in-Some.is
