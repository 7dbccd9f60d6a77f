-- The least multiple of the step is what its name says.
use mathlib.Core.Path.{◌≡◌}
use mathlib.Core.Bool.{Bool}
use Prim.Native.Nat.{ℕ, ◌*◌, ◌≤◌, ◌<◌}
use native.Mathlib.Nat.{mul-le-mul_left, mul-pos, mul-mod_left}
use native.Mathlib.Omega.{arith}
use lib.Dec.{leb}
use borrow.Author.Tests.{leb-true, le-leb}
use Rattle.paper.specs.Least.{least_multiple}
use Rattle.paper_desk.specs.Rates.{least_step, IsLeastStep}
use Rattle.paper.proofs.Search.{multiple_holds, multiple_least, multiple_is_multiple}

-- the least step is what its name says, for every factor w
pub step_is : (h w n : ℕ) → 0 < h → 0 < w → IsLeastStep h w n (least_step h w n)
unfolding least_step
step_is h w n p q =
    record {
      multiple = rw is.1 (mul-mod_left is.0 h);
      enough = leb-true n (w * least_multiple h n covers) (multiple_holds h n covers (le-leb n (w * (n * h)) last));
      least = λ j c. multiple_least h n covers j (le-leb n (w * (j * h)) c);
    }
  where
    covers : ℕ → Bool
    covers t = leb n (w * t)

    is : (j : ℕ) × (least_multiple h n covers ≡ j * h)
    is = multiple_is_multiple h n covers

    -- the last multiple tried is enough, since w and h are at least 1
    last : n ≤ w * (n * h)
    last = omega (arith, mul-le-mul_left n (mul-pos q p))
