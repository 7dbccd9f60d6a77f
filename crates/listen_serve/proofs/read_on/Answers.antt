-- `listen_serve::read_on` meets its contract: the lines are written, and more is read.
use Rattle.listen_serve.proofs.ListeningTurns.{written_stands, write_failed, count_used_up, reads_more}
use native.Mathlib.Omega.{arith}
use Rattle.listen_serve.proofs.read_on.Goals as goal

pub returns-then-w : goal.returns-then-w
returns-then-w c =
    write_failed _ c.args.s c.requires.0 c.requires.1 _ c.write_out-w.ensures
    c.if-w.true

pub returns-then-all : goal.returns-then-all
returns-then-all c =
    count_used_up _ c.args.s c.requires.0 c.requires.1 _ c.write_out-w.ensures _
    c.used_up.ensures (omega (arith, c.if-all.true, c.all.ensures))

pub more-requires : goal.more-requires
more-requires c =
    let written = c.write_out-w.ensures in (
      written_stands _ c.args.s c.requires.0 c.requires.1 _ written,
      rw (written.at, written.len) c.requires.2,
      omega (arith, c.if-all.false, c.all.ensures),
    )

pub returns : goal.returns
returns c =
    let delivered = c.more.ensures in
    reads_more _ c.args.s c.requires.0 c.requires.1 _ c.write_out-w.ensures _ _
    c.if-w.false delivered.0 delivered.1 delivered.2 delivered.3
