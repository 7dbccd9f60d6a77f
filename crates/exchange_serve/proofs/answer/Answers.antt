-- `exchange_serve::answer` meets its contract: what is read is what the text says, and has sixteen rows at most.
use mathlib.Core.Path.{ap, ◌∙◌}
use mathlib.Core.List.{List, ◌++◌}
use Prim.Native.Nat.{ℕ}
use native.Mathlib.Omega.{arith}
use lib.ListN.{length}
use Rattle.exchange_protocol.proofs.Texts.{says_few, says_long, says_is}
use Rattle.exchange_serve.specs.Rows.{reading_text}
use Rattle.exchange_serve.proofs.answer.Goals as goal

pub say_reading-requires : goal.say_reading-requires
say_reading-requires c = (
  omega (arith, ap length c.clear.ensures),
  says_few c.read_exchange-r.ensures,
  says_long c.read_exchange-r.ensures,
)

pub returns-clause-text : goal.returns-clause-text
returns-clause-text c =
    c.say_reading.ensures.text
    ∙ ap (λ (x : List ℕ). x ++ reading_text c.read_exchange-r.result) c.clear.ensures
    ∙ ap reading_text (says_is c.read_exchange-r.ensures)
