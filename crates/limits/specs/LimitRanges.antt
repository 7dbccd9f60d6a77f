-- What a limit is worked out in: the ranges of document 01 that the limit rules ask for. Each follows from a test of
-- the paper.
use Rattle.std.specs.Prelude.{◌≡◌, true, List, ℕ, ◌+◌, ◌*◌, ◌^◌, ◌≤◌, ◌<◌, ℤ}
use Rattle.std.proofs.Common.{arith, to_z, of_z, to_z-of_z, leb-true}
use Rattle.std.specs.Int.Signed.{mag}
use Rattle.std.specs.Int.{w64}
use Rattle.paper.specs.declared.Price.{Price}
use Rattle.paper.specs.declared.Rate.{Rate}
use Rattle.paper.specs.declared.Statics.{Statics}
use Rattle.paper.specs.declared.Side.{Side}
use Rattle.paper.specs.declared.Side.TheVariants.{Upper, Lower}
use Rattle.paper.specs.declared.Moves.{Moves}
use Rattle.paper.specs.declared.Term.{Term}
use Rattle.paper.specs.Lists.{all_three}
use Rattle.paper.specs.Numbers.{one_in_bp, price_most, rate_most, moves_most, term_days_most, repo_least, repo_most}
use Rattle.paper.specs.Ranges.{valid_term, term_at, is_price, is_grid_price, is_rate}
use Rattle.paper_desk.specs.Limits.{count_of}
use Rattle.paper_desk.specs.Gateway.{range_in_range, band_in_range}
pub use Rattle.paper_desk.specs.Limits.{LimitStatics}
use Rattle.paper.proofs.Logic.{and_left, and_right, order_trans, each_of_three}
pub use Rattle.paper_desk.proofs.LimitSizes.{valid_limit_statics, one_more_high}
use Rattle.exact.specs.SignedLaws.{between_repo_ends_within_most}
use Rattle.exact.specs.Wide.{year_most}
use Rattle.limits.specs.Sides.{repo_of}

-- ---- the ranges

-- of a range limit, and of delta: the evaluation P and a rate
pub record RangeInputs (p : Price) (rate : Rate) : Type 0 where
  pub price : p.units ≤ price_most
  pub rate_high : rate.bp ≤ rate_most

-- P·(1 + rate) in ten-thousandths of a unit, at its most
abbrev pub shifted_most : ℕ
shifted_most = price_most * (one_in_bp + rate_most)

-- of a band limit: the evaluation P, S_1, the moves c, the days k and that side's repo rate
pub record BandInputs (p : Price) (s1 : Rate) (c k : ℕ) (repo : ℤ) : Type 0 where
  pub price : p.units ≤ price_most
  pub rate_high : s1.bp ≤ rate_most
  pub moves_high : c ≤ moves_most
  pub days : k ≤ term_days_most
  pub repo_high : mag repo ≤ mag repo_most

-- of a term's band
pub record TermInputs (p : Price) (s1 : Rate) (c : Moves) (x : Term) : Type 0 where
  pub price : p.units ≤ price_most
  pub rate_high : s1.bp ≤ rate_most
  pub upper_moves : c.upper ≤ moves_most
  pub lower_moves : c.lower ≤ moves_most
  pub term : valid_term x ≡ true

-- a fact of each of three places
abbrev pub EachOfThree : (ℕ → Type 0) → Type 0
EachOfThree P = P 0 × P 1 × P 2

pub at_three : (P : ℕ → Type 0) → ((i : ℕ) → i < 3 → P i) → EachOfThree P
at_three P f = (f 0 (omega arith), f 1 (omega arith), f 2 (omega arith))

-- of three bands: the evaluation P, S_1, the moves and each term
abbrev pub BandsAsked : Price → Rate → Moves → List Term → Type 0
BandsAsked p s1 c terms = EachOfThree (λ k. TermInputs p s1 c (term_at terms k))

-- a price and a rate in range, counts that 50 holds and three valid terms are that
pub bands_asked : (p : Price) (s1 : Rate) (c : Moves) (terms : List Term) → RangeInputs p s1
    → (c.upper ≤ moves_most) × (c.lower ≤ moves_most)
    → all_three (λ k. valid_term (term_at terms k)) ≡ true → BandsAsked p s1 c terms
bands_asked p s1 c terms r m v = at_three (λ k. TermInputs p s1 c (term_at terms k)) one
  where
    one : (k : ℕ) → k < 3 → TermInputs p s1 c (term_at terms k)
    one k l =
        record {
          price = r.price;
          rate_high = r.rate_high;
          upper_moves = m.0;
          lower_moves = m.1;
          term = each_of_three (λ k. valid_term (term_at terms k)) v k l;
        }

-- the greatest P·(x_pr + S_1) with which a monitored limit is made in 64 bits
abbrev pub whole_product_most : ℕ
whole_product_most = 4000000000000

-- of a monitored limit before the first move: the grid, the divisor and P·(x_pr ± S_1), whose product with the greatest
-- year leaves room for a step of the grid in 64 bits
pub record UnmovedInputs (g divisor unmoved : ℕ) : Type 0 where
  pub grid : 0 < g
  pub divisor_low : 0 < divisor
  pub whole : unmoved * year_most + divisor * g < 2 ^ 64

-- ---- each side of a term's band is a band limit in range

pub term_repo_within_most : (side : Side) (x : Term) → valid_term x ≡ true → mag (repo_of side x) ≤ mag repo_most
unfolding valid_term
term_repo_within_most Upper x v =
    between_repo_ends_within_most x.high
    (order_trans repo_least x.low x.high (search (v, and_left, and_right)) (search (v, and_left, and_right)))
    (search (v, and_left, and_right))
term_repo_within_most Lower x v =
    between_repo_ends_within_most x.low (search (v, and_left, and_right))
    (order_trans x.low x.high repo_most (search (v, and_left, and_right)) (search (v, and_left, and_right)))

-- a repo rate is its own bits read back
pub term_repo_bits : (side : Side) (x : Term) → valid_term x ≡ true → to_z w64 (of_z w64 (repo_of side x)) ≡ repo_of side x
term_repo_bits side x v = to_z-of_z {w = w64} (record { sfits = omega (arith, term_repo_within_most side x v) })

pub term_days_within_most : (x : Term) → valid_term x ≡ true → x.k ≤ term_days_most
unfolding valid_term
term_days_within_most x v = leb-true _ _ (search (v, and_left, and_right))

moves_high : (p : Price) (s1 : Rate) (side : Side) (c : Moves) (x : Term) → TermInputs p s1 c x
    → count_of side c ≤ moves_most
moves_high p s1 Upper c x r = r.upper_moves
moves_high p s1 Lower c x r = r.lower_moves

pub term_has_band_inputs : (p : Price) (s1 : Rate) (side : Side) (c : Moves) (x : Term) → TermInputs p s1 c x
    → BandInputs p s1 (count_of side c) x.k (repo_of side x)
term_has_band_inputs p s1 side c x r =
    record {
      price = r.price;
      rate_high = r.rate_high;
      moves_high = moves_high p s1 side c x r;
      days = term_days_within_most x r.term;
      repo_high = term_repo_within_most side x r.term;
    }

-- ---- what the gateway tests is what its limits ask

pub range_has_range_inputs : (st : Statics) (p : Price) (rate : Rate) (side : ℕ)
    → range_in_range st p.units rate.bp side ≡ true → RangeInputs p rate
unfolding range_in_range is_grid_price is_price is_rate
range_has_range_inputs st p rate side v =
    record {
      price = leb-true p.units price_most (search (v, and_left, and_right));
      rate_high = leb-true rate.bp rate_most (search (v, and_left, and_right));
    }

pub band_has_band_inputs : (st : Statics) (p : Price) (s1 : Rate) (k : ℕ) (repo : ℤ) (c side : ℕ)
    → band_in_range st p.units s1.bp k repo c side ≡ true → BandInputs p s1 c k repo
unfolding band_in_range is_grid_price is_price is_rate
band_has_band_inputs st p s1 k repo c side v =
    record {
      price = leb-true p.units price_most (search (v, and_left, and_right) depth 10);
      rate_high = leb-true s1.bp rate_most (search (v, and_left, and_right));
      moves_high = leb-true c moves_most (search (v, and_left, and_right));
      days = leb-true k term_days_most (search (v, and_left, and_right));
      repo_high = between_repo_ends_within_most repo (search (v, and_left, and_right))
          (search (v, and_left, and_right));
    }
