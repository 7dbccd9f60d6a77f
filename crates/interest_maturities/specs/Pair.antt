-- Document 02, W-201, clause 16.2 from the figures at the two terms of the pair, where the paper has the key maturities
-- that they are read off.
use Rattle.std.specs.Prelude.{◌≡◌, refl, List, ℕ, ◌+◌, ◌-◌, ◌*◌, ◌≤◌, ◌<◌, ℤ, pos, ◌+ℤ◌, ◌-ℤ◌, ◌*ℤ◌}
use Rattle.std.proofs.Math.IntN.{sub_ℕ}
use Rattle.paper.specs.declared.Interest.{Interest}
use Rattle.paper.specs.declared.Maturity.{Maturity}
use Rattle.paper.specs.declared.RepoLimits.{RepoLimits}
use Rattle.paper.specs.Lists.{pick}
use Rattle.paper.specs.Numbers.{one_in_hundredths, maturity_most}
use Rattle.paper_interest.specs.Interest.{figure_at, forward, margin, limit_from, upward, downward, upper_worked}
use Rattle.paper_interest.specs.Interest.{lower_worked, lesser_z, greater_z, is_held, upper_limit, lower_limit, InterestRange}
use Rattle.interest_maturities.specs.declared.forward.Point.{Point}
use Rattle.interest_maturities.specs.Points.{figure_most, rate_of}

-- what a limit is counted from, above the size of every limit; it is no number of the paper
abbrev pub base : ℕ
base = 1000000000

-- a pair in range and in order
pub record PairRange (i : Interest) : Type 0 where
  pub given : InterestRange i
  pub order : i.ym < i.yn

-- R(Yn)·Yn - R(Ym)·Ym, rm and rn the rates at Ym and at Yn
unfoldable pub forward_of : Interest → (rm rn : ℤ) → ℤ
forward_of i rm rn = (pos i.yn *ℤ rn) -ℤ (pos i.ym *ℤ rm)

-- the upper limit before it is held, h the upward estimate at Yn
unfoldable pub upper_of : Interest → (rm rn h : ℤ) → ℤ
upper_of i rm rn h = limit_from i ((pos i.xir *ℤ forward_of i rm rn) +ℤ (pos (one_in_hundredths * (i.yn - i.ym)) *ℤ h))

-- the lower limit before it is held, l the downward estimate at Yn
unfoldable pub lower_of : Interest → (rm rn l : ℤ) → ℤ
lower_of i rm rn l = limit_from i ((pos i.xir *ℤ forward_of i rm rn) -ℤ (pos (one_in_hundredths * (i.yn - i.ym)) *ℤ l))

unfoldable pub band_worked : Interest → (rm rn l h : ℤ) → RepoLimits
band_worked i rm rn l h = record { low = lower_of i rm rn l; high = upper_of i rm rn h }

-- the band, held where the pair is 0/1
unfoldable pub band_held : Interest → (rm rn l h : ℤ) → RepoLimits
band_held i rm rn l h =
    record {
      low = pick (is_held i) (greater_z (lower_of i rm rn l) i.secrate) (lower_of i rm rn l);
      high = pick (is_held i) (lesser_z (upper_of i rm rn h) i.money) (upper_of i rm rn h);
    }

-- these are the paper's limits, from the figures that it reads off the key maturities
pub band_is : (i : Interest) (ks : List Maturity)
    → record { low = lower_limit i ks; high = upper_limit i ks }
    ≡ band_held i (figure_at (λ k. k.r) ks i.ym) (figure_at (λ k. k.r) ks i.yn)
    (figure_at (λ k. pos (downward i k)) ks i.yn)
    (figure_at (λ k. pos (upward i k)) ks i.yn)
unfolding upper_limit lower_limit upper_worked lower_worked band_held upper_of lower_of forward_of forward margin
band_is i ks = refl

-- ---- the same on natural numbers

-- 100·(Yn - Ym)·Δ
abbrev pub margin_of : Interest → (estimate : ℕ) → ℕ
margin_of i estimate = one_in_hundredths * (i.yn - i.ym) * estimate

-- a margin is at most that of the greatest figure
pub record Margin (i : Interest) (estimate r : ℕ) : Type 0 where
  pub is : r ≡ margin_of i estimate
  pub high : r ≤ margin_of i figure_most

-- the forward rate times Yn - Ym, counted from the base: no less than any margin, and short enough for a limit
pub record Risen (i : Interest) (m n : Point) (r : ℕ) : Type 0 where
  pub is : sub_ℕ r (base * (i.yn - i.ym)) ≡ forward_of i (rate_of m) (rate_of n)
  pub low : margin_of i figure_most ≤ r
  pub high : r ≤ (base + figure_most) * maturity_most
