-- `record_monitoring::quoted` meets its contract: a shared check refuses, or 13 does, or the quote is written and its
-- alerts answered.
use mathlib.Core.Path.{ap, ◌∙◌}
use borrow.Author.Tests.{lt-ltb, le-ltb}
use Rattle.record_answers.specs.Effects.{refused_effect}
use Rattle.record_answers.proofs.Tests.{known_sound}
use Rattle.record_monitoring.proofs.Judging.{stopped_by, passed, quote_stopped, quote_earlier, quote_accepted}
use Rattle.record_monitoring.proofs.quoted.Goals as goal

pub returns-in-Err : goal.returns-in-Err
returns-in-Err c =
    let stopped = stopped_by _ _ (rw c.valid_quote.ensures at c.in-Err.ensures) in
    c.refused.ensures ∙ ap (refused_effect _) stopped.1 ∙ quote_stopped _ _ stopped.0

pub returns-then-q-r : goal.returns-then-q-r
returns-then-q-r c =
    c.refused-then-q-r.ensures
    ∙ quote_earlier _ _ (passed c.valid_quote.ensures c.in_default.ensures) (lt-ltb _ _ c.if-q-r.true)

pub near_on-n-requires : goal.near_on-n-requires
near_on-n-requires c =
    let o = passed c.valid_quote.ensures c.in_default.ensures in
    record { r_value = known_sound _ o.known; q_value = o.valid }

pub watched-requires : goal.watched-requires
watched-requires c =
    record { q_value = (passed c.valid_quote.ensures c.in_default.ensures).valid; n_value = c.near_on-n.ensures }

pub returns : goal.returns
returns c =
    rw (c.alerts_on.ensures, c.watched.ensures)
    (quote_accepted _ _ (passed c.valid_quote.ensures c.in_default.ensures) (le-ltb _ _ c.if-q-r.false))
