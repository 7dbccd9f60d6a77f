-- The book that the code keeps of the rows, row by row, and what of it the evaluation asks for.
use Rattle.std.specs.Prelude.{◌≡◌, Bool, true, false, not, ◌&&◌, List, map, ℕ, ◌+◌, ◌*◌, ◌≤◌, max, eqb, ℤ, Option, Result, Ok, Err}
use Rattle.paper.specs.declared.External.{External}
use Rattle.paper.specs.declared.Row.{Row}
use Rattle.paper.specs.declared.Roubles.{Roubles}
use Rattle.paper.specs.Lists.{pick, every}
use Rattle.paper.specs.Numbers.{price_most, volume_most}
use Rattle.paper.specs.Roundings.{half_up}
use Rattle.paper.specs.Ranges.{valid_rows}
use Rattle.paper_desk.specs.Evaluation.{weights, worth, best_bid, lesser_ask, best_ask, roubles_of, day_rows, is_crossed_row}
use Rattle.paper_desk.specs.Evaluation.{has_crossed_row, row_fits}
use Rattle.evaluation.specs.declared.Book.{Book}
use Rattle.evaluation.specs.declared.PriceFigures.{PriceFigures}
use Rattle.evaluation.specs.declared.Priced.{Priced}
use Rattle.evaluation.specs.declared.RowsRefused.{RowsRefused}
use Rattle.evaluation.specs.declared.RowsRefused.TheVariants.{OutOfRange, Crossed, Beyond}
use Rattle.evaluation.specs.Evaluation.{evaluation_made}

-- the book of all rows
unfoldable pub book_of : List Roubles → Book
book_of rs = record { weight = weights rs; worth = worth rs; bid = best_bid rs; ask = best_ask rs }

-- the book with one row more
unfoldable pub added : Book → Roubles → Book
added b r =
    record {
      weight = b.weight + r.weight;
      worth = b.worth + r.weight * r.close;
      bid = max b.bid r.bid;
      ask = lesser_ask b.ask r.ask;
    }

-- one row more fits 64 bits: fifteen rows are in the book at most
pub record Room (b : Book) (r : Roubles) : Type 0 where
  pub sum : b.weight ≤ 15 * volume_most
  pub mean : b.worth ≤ price_most * b.weight
  pub weight : r.weight ≤ volume_most
  pub close : r.close ≤ price_most

-- the close from a book: "With no such row it is the previous evaluation"
unfoldable pub close_in : (previous : ℕ) → Book → ℕ
close_in previous b = pick (eqb b.weight 0) previous (half_up b.worth b.weight)

-- the figures that a price is chosen from, from a book and the outside prices that count
abbrev pub figures_in : (previous : ℕ) → (used : External) → Book → PriceFigures
figures_in previous used b =
    record {
      weight = b.weight;
      close = close_in previous b;
      bid = max b.bid used.bid;
      ask = lesser_ask b.ask used.ask;
    }

-- a row that neither 16 nor 7 refuses
abbrev pub is_taken : Row → Bool
is_taken row = not (is_crossed_row row) && row_fits row

-- what the rows come to: the first of 6, 16 and 7 that refuses them, else their book
unfoldable pub gathered_of : (numbers : List ℤ) → Result Book RowsRefused
gathered_of numbers =
    let rows : List Row = day_rows numbers in
    pick (valid_rows numbers)
    (pick (has_crossed_row rows) (Err Crossed)
    (pick (every row_fits rows) (Ok (book_of (map roubles_of rows))) (Err Beyond)))
    (Err OutOfRange)

-- whether 6 does not refuse them, and whether 16 does
abbrev pub is_in_range : Result Book RowsRefused → Bool
is_in_range (Err OutOfRange) = false
is_in_range (Err Crossed) = true
is_in_range (Err Beyond) = true
is_in_range (Ok b) = true

abbrev pub is_crossed : Result Book RowsRefused → Bool
is_crossed (Err OutOfRange) = false
is_crossed (Err Crossed) = true
is_crossed (Err Beyond) = false
is_crossed (Ok b) = false

-- what a book's figures keep to
pub record Bounded (b : Book) : Type 0 where
  pub mean : b.worth ≤ price_most * b.weight
  pub bid : b.bid ≤ price_most
  pub ask : b.ask ≤ price_most

pub record Bound (r : Result Book RowsRefused) : Type 0 where
  pub bounded : (b : Book) → r ≡ Ok b → Bounded b

pub record Gathers (numbers : List ℤ) (r : Result Book RowsRefused) : Type 0 where
  pub is : r ≡ gathered_of numbers
  pub bound : Bound r

-- e is the evaluation of any rows that were gathered so and that neither 6 nor 16 refuses
abbrev pub EvaluatesTo : (g previous : ℕ) → (used : External) → Result Book RowsRefused → Option Priced → Type 0
EvaluatesTo g previous used r e =
    (numbers : List ℤ) → r ≡ gathered_of numbers → valid_rows numbers ≡ true → has_crossed_row (day_rows numbers) ≡ false
    → e ≡ evaluation_made g previous used (day_rows numbers)
