-- `number_in` meets its contract: by the verdict, the kind, and whether an `end` fits.
use mathlib.Core.Path.{sym, ◌∙◌}
use Rattle.listen_lines.proofs.StreamParts.{number_refused, number_other, number_fits, number_not_whole}
use Rattle.listen_lines.proofs.streams.number_in.Goals as goal

pub returns-then-no-ne0 : goal.returns-then-no-ne0
returns-then-no-ne0 c =
    number_refused c.args.s c.args.h _ c.number-no.ensures c.if-no-ne0.true

pub returns-then-h-ne-END : goal.returns-then-h-ne-END
returns-then-h-ne-END c =
    number_other c.args.s c.args.h _ c.number-no.ensures c.if-no-ne0.false
    c.if-h-ne-END.true

pub returns-then-end_fits : goal.returns-then-end_fits
returns-then-end_fits c =
    number_fits c.args.s c.args.h _ c.number-no.ensures c.if-no-ne0.false
    c.if-h-ne-END.false (sym c.end_fits.ensures ∙ c.if-end_fits.true)

pub returns : goal.returns
returns c =
    number_not_whole c.args.s c.args.h _ c.number-no.ensures c.if-no-ne0.false
    c.if-h-ne-END.false (sym c.end_fits.ensures ∙ c.if-end_fits.false)
