-- `listen_serve::step` meets its contract: what is heard is told, or more is read, or it is over.
use mathlib.Core.Path.{sym, ◌∙◌}
use native.Mathlib.Omega.{arith}
use lib.Seq.{length-take-le}
use Rattle.paper.proofs.Logic.{not_true, not_false}
use Rattle.paper_messages.specs.Messages.{answer_of}
use Rattle.listen_serve.proofs.ListeningTurns.{is_going, within, steps_room, steps_whole, steps_cut}
use Rattle.listen_serve.proofs.ListeningTurns.{steps_on, steps_end}
use borrow.Author.Rules.{rules}
use mathlib.Core.Path.{ap}
use mathlib.Core.Bool.{not}
use Rattle.listen_serve.proofs.step.Goals as goal

pub slice_bounds-read-end-2 : goal.slice_bounds-read-end-2
slice_bounds-read-end-2 c =
    sym (length-take-le _ _ (omega (arith, c.requires.0.in_b, c.requires.0.long)))

pub hear-requires : goal.hear-requires
hear-requires c = (
  is_going _ _ c.requires.0 c.requires.1,
  within _ c.args.s c.args.out.now c.requires.0 c.requires.1 _
      (c.from-h.ensures ∙ ap answer_of c.read-heard.ensures.answers) _ c.is_cut.ensures,
)

pub returns-then-not-is_cut : goal.returns-then-not-is_cut
returns-then-not-is_cut c =
    steps_whole _ c.args.s _ c.requires.0 c.requires.1 _ (c.from-h.ensures ∙ ap answer_of c.read-heard.ensures.answers) _
    c.is_cut.ensures _ _ (ap not c.if-not-is_cut.true) c.hear.ensures

pub read_on-requires : goal.read_on-requires
read_on-requires c = (
  c.requires.0,
  c.requires.1,
  steps_room _ c.args.s c.args.out.now c.requires.0 c.requires.1 _
      (c.from-h.ensures ∙ ap answer_of c.read-heard.ensures.answers) _ c.is_cut.ensures (ap not c.if-not-is_cut.false),
  search rules,
)

pub returns-then-not-has_ended : goal.returns-then-not-has_ended
returns-then-not-has_ended c =
    steps_on _ c.args.s _ c.requires.0 c.requires.1 _ (c.from-h.ensures ∙ ap answer_of c.read-heard.ensures.answers) _
    c.is_cut.ensures _ _ (ap not c.if-not-is_cut.false)
    (sym c.has_ended.ensures ∙ not_true _ (ap not c.if-not-has_ended.true)) c.read_on.ensures

pub end_of_input-requires : goal.end_of_input-requires
end_of_input-requires c = (
  is_going _ _ c.requires.0 c.requires.1,
  sym c.has_ended.ensures ∙ not_false _ (ap not c.if-not-has_ended.false),
  c.if-at-len.true,
)

pub returns-then-at-len : goal.returns-then-at-len
returns-then-at-len c =
    steps_end _ c.args.s _ c.requires.0 c.requires.1 _ (c.from-h.ensures ∙ ap answer_of c.read-heard.ensures.answers) _
    c.is_cut.ensures _ _ (sym c.has_ended.ensures ∙ not_false _ (ap not c.if-not-has_ended.false))
    c.if-at-len.true c.end_of_input.ensures

pub hear-requires-2 : goal.hear-requires-2
hear-requires-2 c = (
  is_going _ _ c.requires.0 c.requires.1,
  within _ c.args.s c.args.out.now c.requires.0 c.requires.1 _
      (c.from-h.ensures ∙ ap answer_of c.read-heard.ensures.answers) _ c.is_cut.ensures,
)

pub returns : goal.returns
returns c =
    steps_cut _ c.args.s _ c.requires.0 c.requires.1 _ (c.from-h.ensures ∙ ap answer_of c.read-heard.ensures.answers) _
    c.is_cut.ensures _ _ (sym c.has_ended.ensures ∙ not_false _ (ap not c.if-not-has_ended.false))
    c.if-at-len.false c.hear-2.ensures
