-- `listen_serve::end_of_input` meets its contract: by whether a stream began.
use mathlib.Core.Path.{refl}
use Rattle.listen_serve.specs.Steps.{without_end, is_last}
use Rattle.listen_serve.proofs.end_of_input.Goals as goal

pub returns-then-stream : goal.returns-then-stream
returns-then-stream c =
    without_end c.if-stream.true c.tell_unended.ensures

pub returns : goal.returns
returns c =
    is_last c.if-stream.false refl c.write_out.ensures
