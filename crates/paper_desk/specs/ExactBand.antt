-- W-209, "An order at the published limit can lie outside the exact band": which prices lie in the exact band of a
-- share's term. It is said of each price, by document 01's products in whole numbers: no quotient is chosen, and none
-- is rounded.
use Rattle.std.specs.Prelude.{◌≡◌, true, ℕ, ◌%◌}
use Rattle.paper.specs.declared.Statics.{Statics}
use Rattle.paper.specs.declared.Side.{Side}
use Rattle.paper.specs.declared.Side.TheVariants.{Upper, Lower}
use Rattle.paper.specs.declared.Moves.{Moves}
use Rattle.paper.specs.declared.Limits.{Limits}
use Rattle.paper.specs.declared.Term.{Term}
use Rattle.paper.specs.Ranges.{grid_of}
use Rattle.paper_desk.specs.Limits.{Inside, Outward, farthest, monitored, count_of}
use Rattle.paper_desk.specs.Sides.{limit_on, repo_on}

-- what a band is made from: the evaluation P, S_1, the moves of each side since, and the term
pub record Banded : Type 0 where
  pub statics : Statics
  pub p : ℕ
  pub s1 : ℕ
  pub c : Moves
  pub term : Term

-- n does not pass the exact limit of a side
pub record WithinExact (b : Banded) (side : Side) (n : ℕ) : Type 0 where
  -- "P·(1 + PcH_max) and P·(1 - PcL_max)"
  pub far : Inside side n (farthest b.statics side b.p)
  -- "Monitoring yes: the upper is the lesser of that and P·(1 + e·S_1/x_pr)·(1 + RRcH·k/36500) ..; the lower the
  -- greater of that and ..": what does not pass the lesser passes neither
  pub near : b.statics.monitoring ≡ true
      → Inside side n
      (monitored b.statics b.p b.s1 b.term.k (repo_on side b.term) (count_of side b.c) side)

-- n lies in the exact band
pub record InExactBand (b : Banded) (n : ℕ) : Type 0 where
  pub lower : WithinExact b Lower n
  pub upper : WithinExact b Upper n

-- "Round the upper limit down and the lower limit up": each limit is a multiple of the grid inside the exact one, and
-- of these it is the farthest out
pub record RoundedInward (b : Banded) (x : Limits) : Type 0 where
  pub on_grid_lem : (side : Side) → limit_on side x % grid_of b.statics.lot ≡ 0
  pub inside : (side : Side) → WithinExact b side (limit_on side x)
  pub farthest_out : (side : Side) (n : ℕ) → n % grid_of b.statics.lot ≡ 0 → WithinExact b side n
      → Outward side (limit_on side x) n

-- "A band narrower than a grid step": no multiple of the grid lies in it
abbrev pub NoneOnGrid : Banded → Type 0
NoneOnGrid b = (n : ℕ) → n % grid_of b.statics.lot ≡ 0 → InExactBand b n → ⊥
