-- `text_call::figures` meets its contract: the figures begin behind the counted numbers, or at the end where there
-- are fewer, which is what `drop` leaves (`behind`).
use Rattle.text_call.proofs.Rest.{behind}
use Rattle.text_call.proofs.figures.Goals as goal

pub returns : goal.returns
returns c = behind c.args.zs.now _ _ c.min-start.ensures
