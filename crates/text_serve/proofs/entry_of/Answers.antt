-- `text_serve::entry_of` meets its contract: the rest is the definition's.
use mathlib.Core.Path.{refl}
use Rattle.text_serve.specs.Places.{entry_of}
use Rattle.text_serve.proofs.entry_of.Goals as goal

pub returns : goal.returns
unfolding entry_of
returns c = refl
