-- `record_calls::notified` meets its contract: each arm rewrites with the notice that it matched, whose float is bad
-- where its units are 0.
use Rattle.paper_desk.specs.External.{is_bad, kept_after}
use Rattle.record_calls.proofs.NoPrice.{none_zero}
use Rattle.record_calls.proofs.notified.Goals as goal

pub returns-in-Bid : goal.returns-in-Bid
unfolding is_bad kept_after
returns-in-Bid c =
    c.received_as.ensures _
    (rw (c.in-Bid.is, c.units_of-bid.ensures, none_zero c.in-Bid.x))
    (rw (c.in-Bid.is, c.units_of-bid.ensures))

pub returns-in-Ask : goal.returns-in-Ask
unfolding is_bad kept_after
returns-in-Ask c =
    c.received_as-in-Ask.ensures _
    (rw (c.in-Ask.is, c.units_of-ask.ensures, none_zero c.in-Ask.x))
    (rw (c.in-Ask.is, c.units_of-ask.ensures))

pub returns-in-Withdrawal : goal.returns-in-Withdrawal
unfolding is_bad kept_after
returns-in-Withdrawal c =
    let is = c.in-Withdrawal.is in
    c.received_as-in-Withdrawal.ensures _ (rw is) (rw is)
