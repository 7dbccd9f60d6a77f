-- Laws of the gateway's level rate: what its test of the values says, and how large its figure can be.
use Rattle.std.specs.Prelude.{◌≡◌, Bool, true, false, ℕ, ◌≤◌}
use Rattle.std.proofs.Common.{arith, leb-true}
use Rattle.paper.specs.declared.Statics.{Statics}
use Rattle.paper.specs.Lists.{pick}
use Rattle.paper.specs.Numbers.{ahead_most}
use Rattle.paper.specs.Ranges.{valid_statics, tentative_top, valid_tentative}
use Rattle.paper_desk.specs.Rates.{minimum_of, level_rate, AtLeastRequired, HeldLeast}
use Rattle.paper_desk.specs.Gateway.{level_in_range, level_figure}
use Rattle.paper.proofs.Logic.{and_left, and_right}
use Rattle.paper_desk.proofs.Level.{level_rate_is}

-- a level's figure is at most S_max, with the model and without
pub figure_high : (st : Statics) (tentative m level : ℕ) → valid_statics st ≡ true
    → level_figure st tentative m level ≤ st.smax
unfolding level_figure
figure_high st tentative m level v = go st.ewma
  where
    is : HeldLeast st.h (minimum_of st level) st.smax (AtLeastRequired st tentative m level)
        (level_rate st tentative m level)
    is = level_rate_is st level m tentative v

    go : (b : Bool) → pick b (level_rate st tentative m level) (minimum_of st level) ≤ st.smax
    go true = is.held
    go false = omega (arith, is.low, is.held)

-- what the gateway tests is what the level's rate asks
pub record LevelInputs (st : Statics) (tentative m : ℕ) : Type 0 where
  pub high : tentative ≤ tentative_top st.h
  pub ahead : m ≤ ahead_most

pub level_inputs : (st : Statics) (tentative m level : ℕ) → level_in_range st tentative m level ≡ true
    → LevelInputs st tentative m
unfolding level_in_range valid_tentative
level_inputs st tentative m level v =
    record {
      high = leb-true tentative (tentative_top st.h) (search (v, and_left, and_right));
      ahead = leb-true m ahead_most (search (v, and_left, and_right));
    }
