-- `night::main` meets its contract: where the words ask for something, they have the numbers of a day.
use mathlib.Core.Path.{sym}
use native.Mathlib.Omega.{arith}
use lib.ListN.{length-take}
use lib.Seq.{length-take-le}
use Rattle.night.proofs.main.Goals as goal

pub slice_bounds-serve-end : goal.slice_bounds-serve-end
slice_bounds-serve-end c =
    let asks = c.asked-a.ensures in
    sym (length-take-le _ _ (omega (arith, asks.long, asks.most)))

pub serve-requires : goal.serve-requires
serve-requires c =
    let asks = c.asked-a.ensures in
    let day = asks.day c.if-a.true in (
      simp length-take (omega (arith, day, asks.long, asks.most)),
      simp length-take (omega (arith, day, asks.long, asks.most)),
    )
