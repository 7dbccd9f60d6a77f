-- `record_monitoring::shared_checks` meets its contract: each return is the first check behind 1 that applies, in
-- the order 6, 10, 11, or none.
use mathlib.Core.Path.{sym, ◌∙◌}
use Rattle.paper.specs.Verdicts.{first_of, is_done}
use Rattle.record_monitoring.specs.SharedChecks.{shared_checks}
use Rattle.record_monitoring.proofs.shared_checks.Goals as goal

pub returns-then-not-in_range : goal.returns-then-not-in_range
unfolding shared_checks first_of is_done
returns-then-not-in_range c = rw (c.requires, c.if-not-in_range.true)

pub returns-then-not-is_live : goal.returns-then-not-is_live
unfolding shared_checks first_of is_done
returns-then-not-is_live c =
    rw (c.requires, c.if-not-in_range.false, sym c.is_live.ensures ∙ c.if-not-is_live.true)

pub returns-then-not-s : goal.returns-then-not-s
unfolding shared_checks first_of is_done
returns-then-not-s c =
    rw (c.requires, c.if-not-in_range.false, sym c.is_live.ensures ∙ c.if-not-is_live.false, c.if-not-s.true)

pub returns : goal.returns
unfolding shared_checks first_of is_done
returns c =
    rw (c.requires, c.if-not-in_range.false, sym c.is_live.ensures ∙ c.if-not-is_live.false, c.if-not-s.false)
