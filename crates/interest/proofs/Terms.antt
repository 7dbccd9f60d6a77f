-- The figures at a term (14.6), from those of the key maturities beside it, and the limits (16.2), from those at the
-- two terms.
use mathlib.Core.Path.{◌≡◌, sym, ap, ◌∙◌}
use mathlib.Core.Bool.{true}
use mathlib.Core.List.{List}
use Prim.Native.Nat.{ℕ, ◌≤◌, ◌<◌}
use native.Mathlib.Omega.{arith}
use lib.IntN.{ℤ, pos, sub_ℕ}
use Rattle.paper.specs.declared.Interest.{Interest}
use Rattle.paper.specs.declared.Maturity.{Maturity}
use Rattle.paper_interest.specs.Interest.{valid_keys, maturities_of, upward, downward, maturity_figures}
use Rattle.paper_interest.specs.Interest.{interpolated, upper_limit, lower_limit, InterestRange, KeyRange}
use Rattle.paper.proofs.Differences.{whole_is_difference}
use Rattle.paper_interest.proofs.Lifted.{lifted_is}
use Rattle.paper_interest.proofs.InterestRanges.{figures_held}
use Rattle.std.specs.Prelude.{map, get_or, slice_get, Some, None, unwrap_or}
use Rattle.std.specs.Option.{option_map}
use Rattle.std.proofs.lemmas.Option.{unwrap_or-slice_get, slice_get-map, slice_get_within, get_or_from_slice_get}
use Rattle.interest_maturities.specs.KeyLaws.{key_in_range}
use Rattle.interest_maturities.specs.declared.Nearest.TheVariants.{One, Two}
use Rattle.interest_maturities.specs.Reads.{Reads}
use Rattle.interest_maturities.specs.Lift.{lift, lifted, lifted_within}
use Rattle.interest_maturities.specs.declared.forward.Point.{Point}
use Rattle.interest_maturities.specs.Pair.{band_held, band_is}
use Rattle.interest_maturities.specs.Points.{PointRange, rate_of, linear, point_between}
use Rattle.interest_maturities.proofs.Lines.{interpolated_lifted, point_between_in_range}
use Rattle.interest.specs.Figures.{point_of, PointAt}

-- the key maturity of a number is in range, and what is read off it stands at its place
module _ (numbers : List ℤ) (n : ℕ) (k : Maturity) where
  pub found_in_range : valid_keys numbers ≡ true → slice_get (maturities_of numbers) n ≡ Some k → KeyRange k
  found_in_range v e =
      key_in_range numbers k v (n, slice_get_within (maturities_of numbers) n k e, get_or_from_slice_get (maturities_of numbers) n k k e)

module _ {A : Type 0} (f : Maturity → A) (d : A) (ks : List Maturity) (n : ℕ) where
  pub figure_found : (k : Maturity) → slice_get ks n ≡ Some k → get_or (map f ks) n d ≡ f k
  figure_found k e =
      sym (unwrap_or-slice_get (map f ks) n d) ∙ ap (λ o. unwrap_or o d) (slice_get-map f ks n ∙ ap (option_map f) e)

  pub figure_past : slice_get ks n ≡ None → get_or (map f ks) n d ≡ d
  figure_past e =
      sym (unwrap_or-slice_get (map f ks) n d) ∙ ap (λ o. unwrap_or o d) (slice_get-map f ks n ∙ ap (option_map f) e)

pub point_in_range : (i : Interest) (k : Maturity) → InterestRange i → KeyRange k → PointRange (point_of i k)
unfolding maturity_figures
point_in_range i k g h =
    let held = figures_held i k g h in
    record {
      days = h.t;
      rate = omega (arith, (lifted_within k.r h.r).0);
      up = omega (arith, held.up);
      down = omega (arith, held.down);
    }

-- the rate of a key maturity, lifted and lowered
rate_is : (i : Interest) (k : Maturity) → KeyRange k → k.r ≡ rate_of (point_of i k)
rate_is i k h = lifted_is lift k.r (omega (arith, h.r))

-- between two estimates
between_estimates : (t a u b y : ℕ) → t < y → y ≤ u → interpolated t (pos a) u (pos b) y ≡ pos (linear t a u b y)
between_estimates t a u b y h k =
    ap (λ (z : ℤ). interpolated t z u (pos b) y) (whole_is_difference a)
    ∙ ap (λ (z : ℤ). interpolated t (sub_ℕ a 0) u z y) (whole_is_difference b)
    ∙ interpolated_lifted 0 t a u b y h k
    ∙ sym (whole_is_difference (linear t a u b y))

module _ (i : Interest) (ks : List Maturity) (y : ℕ) (g : InterestRange i) where
  -- one key maturity alone
  pub point_here : (k : Maturity) → KeyRange k → Reads ks y (One k) → PointAt i ks y (point_of i k)
  point_here k h s =
      record {
        range = point_in_range i k g h;
        rate = s.reads (λ m. m.r) ∙ rate_is i k h;
        up = s.reads (λ m. pos (upward i m));
        down = s.reads (λ m. pos (downward i m));
      }

  -- between two
  pub point_between_lem : (k l : Maturity) → KeyRange k → KeyRange l → Reads ks y (Two k l)
      → PointAt i ks y (point_between (point_of i k) (point_of i l) y)
  unfolding point_between
  point_between_lem k l a b s =
      record {
        range = point_between_in_range (point_of i k) (point_of i l) y (point_in_range i k g a)
            (point_in_range i l g b) s.around.0 s.around.1;
        rate =
            s.reads (λ m. m.r)
            ∙ ap (λ (z : ℤ). interpolated k.t z l.t l.r y) (rate_is i k a)
            ∙ ap (λ (z : ℤ). interpolated k.t (rate_of (point_of i k)) l.t z y) (rate_is i l b)
            ∙ interpolated_lifted lift k.t (lifted k.r) l.t (lifted l.r) y s.around.0 s.around.1;
        up = s.reads (λ m. pos (upward i m))
            ∙ between_estimates k.t (upward i k) l.t (upward i l) y s.around.0 s.around.1;
        down = s.reads (λ m. pos (downward i m))
            ∙ between_estimates k.t (downward i k) l.t (downward i l) y s.around.0 s.around.1;
      }

-- the limits from the figures at the two terms are the paper's
module _ (i : Interest) (ks : List Maturity) (m n : Point) (p : PointAt i ks i.ym m)
    (q : PointAt i ks i.yn n) where
  pub band_held_is_of_limits : band_held i (rate_of m) (rate_of n) (pos n.down) (pos n.up)
      ≡ record { low = lower_limit i ks; high = upper_limit i ks }
  band_held_is_of_limits = rw (band_is i ks, p.rate, q.rate, q.down, q.up)
