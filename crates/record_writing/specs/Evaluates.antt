-- What an evaluation makes and writes, by its price: the paper works from the day's rows, of which the price is all
-- that a record takes.
use Rattle.std.specs.Prelude.{◌≡◌, true, List, ℕ, ℤ, get_or}
use Rattle.paper.specs.declared.Record.{Record}
use Rattle.paper.specs.declared.Day.{Day}
use Rattle.paper.specs.declared.Price.{Price}
use Rattle.paper.specs.declared.Rate.{Rate}
use Rattle.paper.specs.Ranges.{no_rate, is_price, sound, valid_day_numbers, rate_at}
use Rattle.paper_desk.specs.Rates.{move_of, figures_of}
use Rattle.paper_desk.specs.Desk.{price_on, evaluated}
use Rattle.paper.specs.declared.Figures.{Figures}
use Rattle.limits.specs.LimitRanges.{RangeInputs, EachOfThree}
use Rattle.record_writing.specs.declared.figures.Made.{Made}

-- of three ranges: the evaluation P and each rate
abbrev pub RangesAsked : Price → List Rate → Type 0
RangesAsked p rates = EachOfThree (λ i. RangeInputs p (get_or rates i no_rate))

-- the move to P and the figures of 7.1 at P
unfoldable pub move_to : Record → (p : ℕ) → ℕ
move_to r p = move_of p r.p1.units r.p2.units

unfoldable pub figures_at : Record → Day → (price : ℕ) → Figures
figures_at r d p = figures_of r.statics d.b d.m (rate_at r.rates 0) (move_to r p) r.s r.tentative

-- what is known when a record is written: 1, 6 and 7 do not apply, and the figures are those at P
pub record Evaluating (r : Record) (d : Day) (p : Price) (f : Figures) : Type 0 where
  pub sound_record : sound r ≡ true
  pub day : valid_day_numbers d ≡ true
  pub price : is_price p.units ≡ true
  pub figures : f ≡ figures_at r d p.units

-- what an evaluation made of the record after it
abbrev pub made_of : (after : Record) → Made
made_of o =
    record {
      p1 = o.p1;
      s = o.s;
      tentative = o.tentative;
      rates = o.rates;
      ranges = o.ranges;
      bands = o.bands;
    }

-- m is what a day of any rows makes whose evaluation is p
abbrev pub Makes : (before : Record) → Day → (price : ℕ) → Made → Type 0
Makes r d p m = (rows : List ℤ) → price_on r rows ≡ p → m ≡ made_of (evaluated r d rows)

-- o is the record after a day of any rows that makes m
abbrev pub Evaluates : (before : Record) → Day → Made → (after : Record) → Type 0
Evaluates r d m o = (rows : List ℤ) → m ≡ made_of (evaluated r d rows) → o ≡ evaluated r d rows
