-- `record_calls::received` meets its contract: a float of two is bad where its units are 0, and the units are the pair.
use Rattle.paper_desk.specs.External.{is_bad, kept_after}
use Rattle.record_calls.proofs.NoPrice.{none_zero}
use Rattle.record_calls.proofs.received.Goals as goal

pub returns : goal.returns
unfolding is_bad kept_after
returns c =
    let sent = c.args.sent in
    c.received_as.ensures _
    (rw (c.units_of-ask.ensures, c.units_of-bid.ensures, none_zero sent.bid, none_zero sent.ask))
    (rw (c.units_of-ask.ensures, c.units_of-bid.ensures))
