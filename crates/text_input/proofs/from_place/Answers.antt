-- `text_input::from_place` meets its contract: the input from `at` on, with a line fewer to hear.
use Rattle.text_input.proofs.InputLoops.{stands_from}
use lib.Seq.{length-take-le}
use lib.ListN.{length, take}
use native.Mathlib.Omega.{arith}
use mathlib.Core.Path.{◌≡◌, refl, sym}
use Rattle.text_input.proofs.from_place.Goals as goal

pub slice_bounds-find-end : goal.slice_bounds-find-end
slice_bounds-find-end c = sym (length-take-le _ _ (omega arith))

pub find-end-requires : goal.find-end-requires
find-end-requires c =
    let l : length (take c.args.len c.args.buf.now) ≡ c.args.len =
    length-take-le _ _ (omega arith) in
    omega (arith, l)

pub returns : goal.returns
returns c = (
  refl,
  refl,
  c.saturating_sub.ensures,
  refl,
  stands_from _ _ _ _ _ _ c.requires.0 c.requires.1 c.requires.2 c.find-end.ensures.0
      c.find-end.ensures.1,
)
