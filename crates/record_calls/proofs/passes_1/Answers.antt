-- `record_calls::passes_1` meets its contract: what the caller knows is the test's outcome.
use mathlib.Core.Path.{sym}
use Rattle.record_calls.proofs.passes_1.Goals as goal

pub returns-then-known : goal.returns-then-known
returns-then-known c = sym (c.requires c.if-known.true)

pub returns : goal.returns
returns c = c.is_known.ensures
