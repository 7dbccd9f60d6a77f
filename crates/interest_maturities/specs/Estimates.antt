-- The estimates of a key maturity (14.4) from a tentative rate that the code has, and that they are the paper's.
use Rattle.std.specs.Prelude.{◌≡◌, refl, ℕ, ◌+◌, max, ℤ, pos, ◌+ℤ◌, ◌-ℤ◌}
use Rattle.paper.specs.declared.Interest.{Interest}
use Rattle.paper.specs.declared.Maturity.{Maturity}
use Rattle.paper_desk.specs.Rates.{least_step}
use Rattle.paper.specs.Roundings.{at_least_zero}
use Rattle.paper_interest.specs.Interest.{repo_tentative, estimate, upward, downward}

-- the least multiple of h at or above the greater of tentative + liquidity and a minimum
unfoldable pub estimate_of : Interest → (tentative minimum : ℕ) → ℕ
estimate_of i tentative minimum = least_step i.h 1 (max (tentative + i.liq) minimum)

-- REPOIndex - REPOrate + SECΔ
abbrev pub security_minimum : (index rate : ℤ) (sec : ℕ) → ℤ
security_minimum index rate sec = (index -ℤ rate) +ℤ pos sec

pub upward_is : (i : Interest) (k : Maturity) → estimate_of i (repo_tentative i k).bp i.mm ≡ upward i k
unfolding estimate_of upward estimate
upward_is i k = refl

pub downward_is : (i : Interest) (k : Maturity)
    → estimate_of i (repo_tentative i k).bp (at_least_zero (security_minimum k.index k.r i.sec)) ≡ downward i k
unfolding estimate_of downward estimate
downward_is i k = refl
