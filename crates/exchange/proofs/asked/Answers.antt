-- `exchange::asked` meets its contract: without its one argument the program asks as an empty word does, which is no
-- id's.
use mathlib.Core.Path.{refl}
use mathlib.Core.List.{[]}
use Rattle.text_bytes.specs.Numbers.{size_of}
use Rattle.exchange_serve.specs.Rows.{asked_of, settled}
use Rattle.exchange.proofs.asked.Goals as goal

pub returns-then-arg_count-ne2 : goal.returns-then-arg_count-ne2
unfolding asked_of settled size_of
returns-then-arg_count-ne2 c = record { word = []; is = refl }

pub returns : goal.returns
returns c = record { word = _; is = c.id_of.ensures }
