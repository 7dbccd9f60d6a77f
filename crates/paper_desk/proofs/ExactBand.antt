-- W-209: a share's band is its exact band rounded inward, and is crossed exactly where no multiple of the grid lies in
-- the exact band. `demands` says it of every sequence of calls.
use mathlib.Core.Path.{◌≡◌, refl}
use mathlib.Core.Bool.{Bool, true, false}
use Prim.Native.Nat.{ℕ, ◌*◌, ◌%◌, ◌≤◌, ◌<◌}
use native.Mathlib.Nat.{le_trans, le_of_lt, mul-le-mul_right, le_of_mul-le-mul_left}
use native.Mathlib.Omega.{arith}
use lib.Dec.{leb}
use borrow.Author.Tests.{leb-true, leb-false, le-leb, ltb-true, ltb-false}
use Rattle.paper.specs.declared.Side.{Side}
use Rattle.paper.specs.declared.Side.TheVariants.{Upper, Lower}
use Rattle.paper.specs.declared.Limits.{Limits}
use Rattle.paper.specs.Lists.{pick}
use Rattle.paper.specs.Roundings.{Quotient, lesser_of, greater_of}
use Rattle.paper.specs.Ranges.{within, grid_of}
use Rattle.paper.specs.Verdicts.{Exactly}
use Rattle.paper_desk.specs.Limits.{share, limit_of, inward, Inside, Outward, farthest, monitored, narrower}
use Rattle.paper_desk.specs.Limits.{band_before, band_limit, band_of, crossed, count_of, LimitStatics}
use Rattle.paper_desk.specs.Sides.{limit_on, repo_on}
use Rattle.paper_desk.specs.ExactBand.{Banded, WithinExact, InExactBand, RoundedInward, NoneOnGrid}
use Rattle.paper.proofs.Logic.{not_true_and_false, and_left, and_right, and_both}
use Rattle.paper_desk.proofs.KindLaws.{farthest_positive, monitored_positive, band_positive}
use Rattle.paper_desk.proofs.LimitSizes.{limit_on_grid}
use Rattle.paper_desk.proofs.Bands.{limit_inside}
use Rattle.paper_desk.proofs.Order.{limit_around, narrower_inside}

-- ---- inside the narrower of two quotients is inside both

-- what is inside a quotient is inside one that lies farther out
inside_greater : (n : ℕ) (x y : Quotient) → 0 < x.den → x.num * y.den ≤ y.num * x.den → Inside Upper n x
    → Inside Upper n y
inside_greater n x y p l h =
    let fits : x.den * (n * y.den) ≤ x.den * y.num = omega (arith, mul-le-mul_right y.den h) in
    le_of_mul-le-mul_left fits p

inside_lesser : (n : ℕ) (x y : Quotient) → 0 < x.den → y.num * x.den ≤ x.num * y.den → Inside Lower n x
    → Inside Lower n y
inside_lesser n x y p l h =
    let fits : x.den * y.num ≤ x.den * (n * y.den) = omega (arith, mul-le-mul_right y.den h) in
    le_of_mul-le-mul_left fits p

inside_both : (side : Side) (n : ℕ) (x y : Quotient) → 0 < x.den → 0 < y.den → Inside side n (narrower side x y)
    → Inside side n x × Inside side n y
unfolding narrower lesser_of greater_of
inside_both Upper n x y p q h = go (leb (x.num * y.den) (y.num * x.den)) refl h
  where
    go : (b : Bool) → leb (x.num * y.den) (y.num * x.den) ≡ b → Inside Upper n (pick b x y)
        → Inside Upper n x × Inside Upper n y
    go true e h = (h, inside_greater n x y p (leb-true _ _ e) h)
    go false e h = (inside_greater n y x q (le_of_lt (leb-false _ _ e)) h, h)
inside_both Lower n x y p q h = go (leb (x.num * y.den) (y.num * x.den)) refl h
  where
    go : (b : Bool) → leb (x.num * y.den) (y.num * x.den) ≡ b → Inside Lower n (pick b y x)
        → Inside Lower n x × Inside Lower n y
    go true e h = (inside_lesser n y x q (leb-true _ _ e) h, h)
    go false e h = (h, inside_lesser n x y p (le_of_lt (leb-false _ _ e)) h)

-- ---- the exact limit, as the definition rounds it

module _ (b : Banded) (s : LimitStatics b.statics) where
  abbrev far : Side → Quotient
  far side = farthest b.statics side b.p

  abbrev near : Side → Quotient
  near side = monitored b.statics b.p b.s1 b.term.k (repo_on side b.term) (count_of side b.c) side

  abbrev before : Side → Quotient
  before side =
      band_before share b.statics b.p b.s1 b.term.k (repo_on side b.term) (count_of side b.c) side

  inside_within : (side : Side) (n : ℕ) → Inside side n (before side) → WithinExact b side n
  inside_within side n = go b.statics.monitoring refl
    where
      go : (on : Bool) → b.statics.monitoring ≡ on
          → Inside side n (pick on (narrower side (far side) (near side)) (far side)) → WithinExact b side n
      go true e h =
          let both = inside_both side n (far side) (near side) (farthest_positive share b.statics side b.p 0)
          (monitored_positive b.statics side b.p b.s1 (count_of side b.c) b.term.k
          (repo_on side b.term) s.divisor_low) h in
          record { far = both.0; near = λ _. both.1 }
      go false e h = record { far = h; near = λ on. absurd (not_true_and_false b.statics.monitoring on e) }

  within_inside : (side : Side) (n : ℕ) → WithinExact b side n → Inside side n (before side)
  within_inside side n w = go b.statics.monitoring refl
    where
      go : (on : Bool) → b.statics.monitoring ≡ on
          → Inside side n (pick on (narrower side (far side) (near side)) (far side))
      go true e = narrower_inside side n (far side) (near side) w.far (w.near e)
      go false e = w.far

  before_positive : (side : Side) → 0 < (before side).den
  before_positive side =
      band_positive share b.statics side b.p b.s1 (count_of side b.c) b.term.k (repo_on side b.term)
      s.divisor_low

  -- ---- a share's band is the exact one, rounded inward

  abbrev published : Limits
  published = band_of b.statics b.p b.s1 b.c b.term

  published_limit : (side : Side) → limit_on side published ≡ limit_of (inward side) b.statics (before side)
  unfolding band_of band_limit
  published_limit Upper = refl
  published_limit Lower = refl

  pub band_rounded_inward : RoundedInward b published
  band_rounded_inward =
      record {
        on_grid_lem = λ side. rw (published_limit side) (limit_on_grid (inward side) b.statics (before side));
        inside = λ side.
            inside_within side (limit_on side published)
            (rw (published_limit side) (limit_inside b.statics side (before side) (before_positive side)));
        farthest_out = λ side n e w.
            rw (published_limit side)
            (limit_around (inward side) b.statics side (before side) n (before_positive side) e
            (within_inside side n w));
      }

-- ---- what that says of orders on the grid

-- what lies farther in than a price inside the exact limit is inside it too
inside_inner : (side : Side) (n m : ℕ) (x : Quotient) → Outward side n m → Inside side n x → Inside side m x
inside_inner Upper n m x l h = le_trans (mul-le-mul_right x.den l) h
inside_inner Lower n m x l h = le_trans h (mul-le-mul_right x.den l)

within_inner : (b : Banded) (side : Side) (n m : ℕ) → Outward side n m → WithinExact b side n → WithinExact b side m
within_inner b side n m l w =
    record { far = inside_inner side n m _ l w.far; near = λ on. inside_inner side n m _ l (w.near on) }

module _ (b : Banded) (x : Limits) (r : RoundedInward b x) where
  -- an order on the grid stands at or between the limits exactly where it lies in the exact band
  pub between_exactly : (n : ℕ) → n % grid_of b.statics.lot ≡ 0
      → Exactly (within x.lower x.upper n ≡ true) (InExactBand b n)
  between_exactly n e = (
    λ h. record {
      lower = within_inner b Lower x.lower n (leb-true _ _ (and_left (leb x.lower n) _ h)) (r.inside Lower);
      upper = within_inner b Upper x.upper n (leb-true _ _ (and_right (leb x.lower n) _ h)) (r.inside Upper);
    },
    λ w. and_both _ _ (le-leb _ _ (r.farthest_out Lower n e w.lower))
        (le-leb _ _ (r.farthest_out Upper n e w.upper)),
  )

  -- so the limits themselves do, where they are not crossed
  pub limits_in_exact : crossed x ≡ false → (side : Side) → InExactBand b (limit_on side x)
  unfolding crossed
  limits_in_exact e side = (between_exactly (limit_on side x) (r.on_grid_lem side)).0 (between side)
    where
      in_order : leb x.lower x.upper ≡ true
      in_order = le-leb x.lower x.upper (ltb-false x.upper x.lower e)

      between : (side : Side) → within x.lower x.upper (limit_on side x) ≡ true
      between Upper =
          and_both (leb x.lower x.upper) (leb x.upper x.upper) in_order
          (le-leb x.upper x.upper (omega arith))
      between Lower =
          and_both (leb x.lower x.lower) (leb x.lower x.upper)
          (le-leb x.lower x.lower (omega arith)) in_order

  -- and they are crossed exactly where no multiple of the grid does
  pub crossed_exactly : Exactly (crossed x ≡ true) (NoneOnGrid b)
  unfolding crossed
  crossed_exactly = (
    λ e n on w.
        omega (
          arith,
          ltb-true x.upper x.lower e,
          r.farthest_out Lower n on w.lower,
          r.farthest_out Upper n on w.upper,
        ),
    λ none. go none (crossed x) refl,
  )
    where
      go : NoneOnGrid b → (c : Bool) → crossed x ≡ c → c ≡ true
      go none true e = refl
      go none false e = absurd (none x.lower (r.on_grid_lem Lower) (limits_in_exact e Lower))
