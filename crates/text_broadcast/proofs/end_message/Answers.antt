-- `end_message` meets its contract: the count and the sum, each at its place.
use Prim.Native.Nat.{◌<◌}
use native.Mathlib.Omega.{arith}
use mir.Facts.{to_z-of_z}
use Rattle.paper_messages.specs.Bytes.{in_width}
use Rattle.paper_messages.specs.Fields.{sum_width}
use Rattle.messages.proofs.Halves.{signed_fits}
use Rattle.message_records.proofs.Values.{value_back}
use Rattle.paper_streams.specs.Streams.{end_message}
use Rattle.text_broadcast.proofs.end_message.Goals as goal

pub returns : goal.returns
unfolding end_message
returns c =
    let four : c.args.s.sum < in_width sum_width = omega arith in
    rw (
      c.value_of.ensures,
      value_back c.args.s.count,
      c.sum_value.ensures,
      to_z-of_z (signed_fits sum_width c.args.s.sum (omega arith) four),
    ) at c.message.ensures
