-- The answer by cases, from what the code has in hand at each of its returns.
use mathlib.Core.Path.{◌≡◌, refl, ap, ◌∙◌}
use mathlib.Core.Bool.{Bool, true, false, ◌&&◌}
use mathlib.Core.List.{List, map}
use Prim.Native.Nat.{ℕ, zero, suc, ◌*◌, ◌≤◌, max}
use native.Mathlib.Nat.{pos_of_ne-zero, max-le, le_trans, min-le_left, min-le_right}
use native.Mathlib.Omega.{arith}
use lib.Dec.{eqb}
use lib.IntN.{ℤ}
use borrow.Author.Tests.{eqb-false}
use Rattle.paper.specs.declared.External.{External}
use Rattle.paper.specs.declared.Price.{Price}
use Rattle.std.specs.declared.option.Option.{Option}
use Rattle.std.specs.declared.option.Option.TheVariants.{None, Some}
use Rattle.paper.specs.declared.Row.{Row}
use Rattle.paper.specs.declared.Roubles.{Roubles}
use Rattle.paper.specs.Lists.{pick, every}
use Rattle.paper.specs.Roundings.{half_up, to_grid}
use Rattle.paper.specs.Ranges.{is_price, valid_rows, price_made}
use Rattle.paper_desk.specs.Evaluation.{weights, bid_of, ask_of, roubles_of, day_rows, has_crossed_row, row_fits, median}
use Rattle.paper_desk.specs.Evaluation.{between, evaluation_of, evaluation_fits}
use Rattle.paper.proofs.Logic.{not_true_and_false}
use Rattle.paper.proofs.Roundings.{half_le}
use Rattle.evaluation.specs.declared.Book.{Book}
use Rattle.evaluation.specs.declared.PriceFigures.{PriceFigures}
use Rattle.std.specs.declared.result.Result.{Result}
use Rattle.std.specs.declared.result.Result.TheVariants.{Ok, Err}
use Rattle.evaluation.specs.declared.Priced.{Priced}
use Rattle.evaluation.specs.declared.RowsRefused.{RowsRefused}
use Rattle.evaluation.specs.declared.RowsRefused.TheVariants.{Beyond}
use Rattle.evaluation.specs.Evaluation.{price_figures, priced_of, evaluation_from, evaluation_made}
use Rattle.evaluation.specs.Book.{book_of, close_in, figures_in, gathered_of}
use Rattle.std.specs.Prelude.{is_ok}
use Rattle.evaluation.proofs.Books.{close_of_book}

-- what is gathered where neither 6 nor 16 refuses
abbrev fitted_of : List Row → Result Book RowsRefused
fitted_of rows = pick (every row_fits rows) (Ok (book_of (map roubles_of rows))) (Err Beyond)

pub gathered_fitted : (numbers : List ℤ) (r : Result Book RowsRefused) → r ≡ gathered_of numbers → valid_rows numbers ≡ true
    → has_crossed_row (day_rows numbers) ≡ false
    → r ≡ fitted_of (day_rows numbers)
unfolding gathered_of
gathered_fitted numbers r e v c = rw (v, c) at e

module _ (g previous : ℕ) (used : External) (rows : List Row) where
  -- the price that a book's figures give
  abbrev pub chosen_in : Book → ℕ
  chosen_in b = between (figures_in previous used b).bid (close_in previous b) (figures_in previous used b).ask

  -- the evaluation from the book
  book_gives_evaluation : (b : Book) → b ≡ book_of (map roubles_of rows)
      → to_grid g (chosen_in b) 1 ≡ evaluation_of g previous used rows
  unfolding evaluation_of book_of bid_of ask_of
  book_gives_evaluation b p =
      let rs : List Roubles = map roubles_of rows in
      ap (λ (z : Book). to_grid g (chosen_in z) 1) p
      ∙ ap (λ (z : ℕ). to_grid g (between (bid_of used rs) z (ask_of used rs)) 1) (close_of_book previous rs)

  -- the figures that it is chosen from
  figures_of_book : (b : Book) → b ≡ book_of (map roubles_of rows)
      → figures_in previous used b ≡ price_figures previous used (map roubles_of rows)
  unfolding book_of price_figures bid_of ask_of
  figures_of_book b p =
      let rs : List Roubles = map roubles_of rows in
      ap (figures_in previous used) p
      ∙ ap (λ (z : ℕ). record { weight = weights rs; close = z; bid = bid_of used rs; ask = ask_of used rs })
      (close_of_book previous rs)

  -- 7 for a row
  pub no_book_makes_beyond : (r : Result Book RowsRefused) → is_ok r ≡ false → r ≡ fitted_of rows
      → None ≡ evaluation_made g previous used rows
  unfolding evaluation_made evaluation_fits
  no_book_makes_beyond r n k = step (every row_fits rows) k
    where
      step : (t : Bool) → r ≡ pick t (Ok (book_of (map roubles_of rows))) (Err Beyond)
          → ◌≡◌ {A = Option Priced} None (pick (t && is_price (evaluation_of g previous used rows)) (Some (priced_of g previous used rows)) None)
      step true p = absurd (not_true_and_false (is_ok r) (ap is_ok p) n)
      step false p = refl

  -- the evaluation, or 7 for it
  pub book_makes_evaluation : (b : Book) → Ok b ≡ fitted_of rows
      → evaluation_from (to_grid g (chosen_in b) 1) (figures_in previous used b) ≡ evaluation_made g previous used rows
  unfolding evaluation_made evaluation_fits evaluation_from priced_of
  book_makes_evaluation b k = step (every row_fits rows) k
    where
      step : (t : Bool) → Ok b ≡ pick t (Ok (book_of (map roubles_of rows))) (Err Beyond)
          → evaluation_from (to_grid g (chosen_in b) 1) (figures_in previous used b)
          ≡ pick (t && is_price (evaluation_of g previous used rows)) (Some (priced_of g previous used rows)) None
      step true p = rw (book_gives_evaluation b (cc), figures_of_book b (cc))
      step false p = absurd (let z : ◌≡◌ {A = ℕ} 0 1 = cc in omega arith)

-- the evaluation as the price's constructor has it
pub made_price_is_evaluated : (units : ℕ) (p : Price) (f : PriceFigures) → Some p ≡ price_made units
    → Some (record { price = p; figures = f }) ≡ evaluation_from units f
unfolding price_made evaluation_from
made_price_is_evaluated units p f k = step (is_price units) k
  where
    step : (t : Bool) → Some p ≡ pick t (Some (record { units = units })) None
        → ◌≡◌ {A = Option Priced} (Some (record { price = p; figures = f }))
        (pick t (Some (record { price = record { units = units }; figures = f })) None)
    step true q = let same : p ≡ record { units = units } = cc in rw same
    step false q = absurd (let z : ◌≡◌ {A = ℕ} 0 1 = cc in omega arith)

pub price_out_of_range_is_beyond : (units : ℕ) (f : PriceFigures) → None ≡ price_made units
    → None ≡ evaluation_from units f
unfolding price_made evaluation_from
price_out_of_range_is_beyond units f k = step (is_price units) k
  where
    step : (t : Bool) → ◌≡◌ {A = Option Price} None (pick t (Some (record { units = units })) None)
        → ◌≡◌ {A = Option Priced} None (pick t (Some (record { price = record { units = units }; figures = f })) None)
    step true q = absurd (let z : ◌≡◌ {A = ℕ} 0 1 = cc in omega arith)
    step false q = refl

-- ---- sizes

pub close_le : (previous n : ℕ) (b : Book) → previous ≤ n → b.worth ≤ n * b.weight → close_in previous b ≤ n
unfolding close_in
close_le previous n b p q = step (eqb b.weight 0) refl
  where
    step : (t : Bool) → eqb b.weight 0 ≡ t → pick t previous (half_up b.worth b.weight) ≤ n
    step true e = p
    step false e = half_le b.worth b.weight n (pos_of_ne-zero (eqb-false b.weight 0 e)) q

pub between_le : (bid close ask n : ℕ) → bid ≤ n → close ≤ n → ask ≤ n → between bid close ask ≤ n
unfolding between median
between_le zero close zero n p q r = q
between_le zero close (suc ask) n p q r = omega arith
between_le (suc bid) close zero n p q r = omega arith
between_le (suc bid) close (suc ask) n p q r =
    max-le (le_trans (min-le_left (suc bid) close) p) (le_trans (min-le_right (max (suc bid) close) (suc ask)) r)
