-- `listen_serve::hear` meets its contract: by whether a stream began and another begins.
use Rattle.paper.proofs.Logic.{and_left, and_right}
use Rattle.paper_streams.specs.Streams.{is_begin}
use Rattle.listen_serve.specs.Steps.{breaks_off_lem, goes_on}
use Rattle.listen_serve.proofs.hear.Goals as goal

pub tell_unended-requires : goal.tell_unended-requires
tell_unended-requires c = (
  c.requires.0,
  and_left c.args.s.feed.stream.began (is_begin c.args.h) c.if-stream-h.true,
)

pub returns-then-stream-h : goal.returns-then-stream-h
returns-then-stream-h c =
    breaks_off_lem (and_left c.args.s.feed.stream.began (is_begin c.args.h) c.if-stream-h.true)
    (and_right c.args.s.feed.stream.began (is_begin c.args.h) c.if-stream-h.true)
    c.tell_unended.ensures

pub tell-requires : goal.tell-requires
tell-requires c =
    c.requires

pub returns : goal.returns
returns c =
    goes_on c.if-stream-h.false c.tell.ensures
