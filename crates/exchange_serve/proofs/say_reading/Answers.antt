-- `exchange_serve::say_reading` meets its contract: the parts of the line are told one after the other.
use mathlib.Core.Path.{sym, ◌∙◌}
use Rattle.exchange_serve.proofs.Serving.{say_rows, say_bad_line}
use Rattle.exchange_serve.proofs.say_reading.Goals as goal
use Rattle.exchange_serve.proofs.say_reading.Goals.{then-no-eq0, else-no-eq0}

pub returns-clause-text : goal.returns-clause-text
returns-clause-text c =
    elim c.if-no-eq0.branch [
      | then-no-eq0 w ↦ cc (say_rows c.args.r c.args.out.now (sym c.number-no.ensures ∙ w.if-no-eq0.true))
      | else-no-eq0 w ↦
          cc (say_bad_line c.args.r c.args.out.now (λ e. w.if-no-eq0.false (c.number-no.ensures ∙ e)))
    ]
