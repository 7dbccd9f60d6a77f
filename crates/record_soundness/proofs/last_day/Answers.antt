-- `record_soundness::last_day` meets its contract: the arm rewrites with either variant that it matched.
use mathlib.Core.Path.{◌≡◌}
use mathlib.Core.Logic.{◌⊎◌, inl, inr}
use Prim.Native.Nat.{ℕ}
use Rattle.paper.specs.declared.Standing.{Standing}
use Rattle.paper.specs.declared.Standing.TheVariants.{Admitted, Live}
use Rattle.paper.specs.Ranges.{last_day}
use Rattle.record_soundness.proofs.last_day.Goals as goal

day_of_either : {standing : Standing} {day : ℕ} → (standing ≡ Admitted day) ⊎ (standing ≡ Live day) → day ≡ last_day standing
unfolding last_day
day_of_either (inl e) = rw e
day_of_either (inr e) = rw e

pub returns-in-Admitted : goal.returns-in-Admitted
returns-in-Admitted c = day_of_either c.in-Admitted.is

pub returns-in-Admitted-2 : goal.returns-in-Admitted-2
returns-in-Admitted-2 c = day_of_either c.in-Admitted.is
