-- The checks that a quote and a move share, in the order in which each has them.
use Rattle.std.specs.Prelude.{Bool, not, List, [], ◌∷◌, Result, Ok, Err, ⊤}
use Rattle.paper.specs.declared.Record.{Record}
use Rattle.paper.specs.declared.Verdict.{Verdict}
use Rattle.paper.specs.declared.Verdict.TheVariants.{NoSuchId, OutOfRange, NotLive, NotMonitored}
use Rattle.paper.specs.Ranges.{is_live}
use Rattle.paper.specs.Lists.{pick}
use Rattle.paper.specs.Verdicts.{Check, is_done}

-- 1, 6, 10 and 11, where `in_range` is whether the call's own numbers are in range
unfoldable pub shared_checks : (there in_range : Bool) → Record → List Check
shared_checks there in_range r =
    record { verdict = NoSuchId; applies = not there }
    ∷ record { verdict = OutOfRange; applies = not in_range }
    ∷ record { verdict = NotLive; applies = not (is_live r.standing) }
    ∷ record { verdict = NotMonitored; applies = not r.statics.monitoring }
    ∷ []

-- what checks give: nothing where none applies, else the first that does
abbrev pub passed_by : (first : Verdict) → Result ⊤ Verdict
passed_by v = pick (is_done v) (Ok tt) (Err v)
