-- `listen_serve::make_room` meets its contract: the lines are written where there is no room for one more.
use native.Mathlib.Omega.{arith}
use Rattle.listen_serve.proofs.ListeningTurns.{room_written, room_is}
use Rattle.listen_serve.proofs.make_room.Goals as goal

pub returns-then-s : goal.returns-then-s
returns-then-s c =
    room_written c.args.s c.requires.1 c.requires.2 _ c.write_out.ensures

pub returns : goal.returns
returns c =
    room_is c.args.s c.requires.1 c.requires.2 (omega (arith, c.if-s.false))
