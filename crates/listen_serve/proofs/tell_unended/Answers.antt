-- `listen_serve::tell_unended` meets its contract: the line is gathered, and the stream left behind.
use Rattle.listen_serve.proofs.ListeningTurns.{told_unended}
use borrow.Author.Rules.{rules}
use Rattle.listen_serve.proofs.tell_unended.Goals as goal

pub make_room-requires : goal.make_room-requires
make_room-requires c =
    rw c.gathered-r.ensures (search rules, c.requires.0.going, c.requires.0.taken)

pub returns : goal.returns
returns c =
    told_unended c.args.s _ _ _ _ c.requires.1
    (rw c.no_stream.ensures at c.not_alone-none.ensures) c.say_unended-n.ensures _
    (rw c.gathered-r.ensures at c.make_room.ensures)
