-- `text_serve::note_in` meets its contract: the entry of the id is one of the row's (`entry_within`).
use native.Mathlib.Omega.{arith}
use Rattle.text_serve.proofs.Noted.{entry_within}
use Rattle.text_serve.proofs.note_in.Goals as goal

pub offset_bounds-places-k : goal.offset_bounds-places-k
offset_bounds-places-k c = record { fits = omega (arith, c.entry_of-k.ensures, entry_within c.args.id) }

pub bounds-places-k : goal.bounds-places-k
bounds-places-k c = omega (arith, c.entry_of-k.ensures, entry_within c.args.id)

pub returns : goal.returns
returns c = rw c.entry_of-k.ensures
