-- `exchange_text::row::field_end` meets its contract: a semicolon is passed where columns are left.
use mathlib.Core.Path.{◌∙◌}
use Rattle.exchange_text.proofs.LineTurns.{end_more, end_last}
use Rattle.exchange_text.proofs.row.field_end.Goals as goal

pub returns-then-k-lt-FIELDS : goal.returns-then-k-lt-FIELDS
returns-then-k-lt-FIELDS c = c.pass.ensures ∙ end_more c.args.k c.if-k-lt-FIELDS.true c.args.text.now

pub returns : goal.returns
returns c = c.line_end.ensures ∙ end_last c.args.k c.if-k-lt-FIELDS.false c.args.text.now
