-- `sums::steps::eight_steps` meets its contract: the table holds it.
use Prim.Native.Nat.{◌<◌}
use borrow.Author.Rules.{rules}
use Rattle.sums.proofs.steps.eight_steps.Goals as goal

pub returns : goal.returns
returns c =
    let below : c.args.low < 256 = search rules in
    c.requires c.args.low below
