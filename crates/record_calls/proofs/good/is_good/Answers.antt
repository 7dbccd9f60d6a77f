-- `record_calls::good::is_good` meets its contract: a known slot has a sound record, so its moves are at most fifty.
use mathlib.Core.Path.{◌≡◌}
use mathlib.Core.Bool.{true}
use Rattle.record_answers.specs.Effects.{is_known}
use Rattle.record_answers.proofs.Tests.{tested_true, tested_false, known_sound}
use Rattle.record_soundness.proofs.Facts.{sound_facts}
use Rattle.record_calls.specs.Good.{is_good}
use mathlib.Core.Path.{ap}
use mathlib.Core.Bool.{not}
use Rattle.record_calls.proofs.good.is_good.Goals as goal
use Rattle.record_calls.proofs.good.is_good.Goals.{Else-not-is_known}

known : (c : Else-not-is_known) → is_known c.before.before.args.s ≡ true
known c = tested_true _ c.before.is_known.ensures (ap not c.if-not-is_known.false)

pub returns-then-not-is_known : goal.returns-then-not-is_known
unfolding is_good
returns-then-not-is_known c = rw (tested_false _ c.is_known.ensures (ap not c.if-not-is_known.true))

pub within_moves-requires : goal.within_moves-requires
within_moves-requires c = (sound_facts _ (known_sound _ (known (goal.at.within_moves-requires c).Else-not-is_known))).moves_upper

pub returns : goal.returns
unfolding is_good
returns c = rw (known (goal.at.returns c).Else-not-is_known) c.within_moves.ensures
