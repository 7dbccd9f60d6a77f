-- `stands_alone` meets its contract: by the kind.
use Rattle.listen_lines.proofs.StreamParts.{begin_alone, other_alone}
use Rattle.listen_lines.proofs.streams.stands_alone.Goals as goal

pub returns-then-h-eq-BEGIN : goal.returns-then-h-eq-BEGIN
returns-then-h-eq-BEGIN c = begin_alone _ _ _ c.if-h-eq-BEGIN.true

pub returns-else-h-eq-BEGIN : goal.returns-else-h-eq-BEGIN
returns-else-h-eq-BEGIN c = other_alone _ _ _ c.if-h-eq-BEGIN.false
