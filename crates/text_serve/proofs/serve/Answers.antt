-- `text_serve::serve` meets its contract: turn after turn, until no line is left to hear.
use Rattle.std.proofs.Common.{arith, sym}
use Rattle.text_serve.proofs.Noted.{none_sound}
use Rattle.text_serve.proofs.Joining.{none_yet, one_more, fewer, served}
use Rattle.text_serve.proofs.serve.Goals as goal

pub loop-s-init : goal.loop-s-init
loop-s-init c = (
  rw (c.start-s.ensures, c.new-out.ensures) (none_yet _ _ _ (sym c.large_buffer-buf.ensures)),
  rw c.no_places-places.ensures (none_sound _),
)

pub step-s-requires : goal.step-s-requires
step-s-requires c = (c.loop-s.invariant.0.stands, c.loop-s.invariant.0.room, c.loop-s.invariant.1)

pub loop-s-smaller : goal.loop-s-smaller
loop-s-smaller c = fewer c.loop-s.invariant.0 c.loop-s-test.true c.step-s.ensures.0

pub loop-s-preserved : goal.loop-s-preserved
loop-s-preserved c =
    (one_more c.loop-s.invariant.0 c.loop-s-test.true c.step-s.ensures.0, c.step-s.ensures.1)

pub returns : goal.returns
returns c = served c.loop-s.invariant.0 (omega arith)
