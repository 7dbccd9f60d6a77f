-- What an answer says of the paper's figures, for those who call: the evaluation is the paper's, on the grid and in
-- range, or 7 refuses; and what gathered rows say of 6 and 16.
use Rattle.std.proofs.Math.Path.{◌≡◌, refl}
use Rattle.std.specs.Prelude.{Bool, List, map, ℕ, ◌%◌, eqb, ℤ, Option, Some, None, Ok, Err}
use Rattle.std.proofs.Math.Bool.{true, false}
use Rattle.std.proofs.Math.Nat.{mul-mod_left}
use Rattle.std.proofs.Common.{arith, eq-eqb}
use Rattle.paper.specs.declared.External.{External}
use Rattle.paper.specs.declared.Row.{Row}
use Rattle.paper.specs.Lists.{pick, every}
use Rattle.paper.specs.Roundings.{to_grid}
use Rattle.paper.specs.Ranges.{is_price, is_grid_price, valid_rows}
use Rattle.paper_desk.specs.Evaluation.{roubles_of, day_rows, has_crossed_row, row_fits, evaluation_of, evaluation_fits}
use Rattle.paper.proofs.Logic.{and_right, and_both}
use Rattle.evaluation.specs.declared.Priced.{Priced}
use Rattle.evaluation.specs.declared.RowsRefused.TheVariants.{OutOfRange, Crossed, Beyond}
use Rattle.evaluation.specs.Evaluation.{priced_of, evaluation_made}
use Rattle.evaluation.specs.Book.{book_of, gathered_of, is_in_range, is_crossed}

module _ (g previous : ℕ) (used : External) (rows : List Row) where
  pub evaluated_fits : (p : Priced) → Some p ≡ evaluation_made g previous used rows
      → evaluation_fits g previous used rows ≡ true
  unfolding evaluation_made
  evaluated_fits p e = step (evaluation_fits g previous used rows) e
    where
      step : (t : Bool) → Some p ≡ pick t (Some (priced_of g previous used rows)) None → t ≡ true
      step true q = refl
      step false q = absurd (let z : ◌≡◌ {A = ℕ} 0 1 = cc in omega arith)

  pub evaluated_is : (p : Priced) → Some p ≡ evaluation_made g previous used rows
      → p ≡ priced_of g previous used rows
  unfolding evaluation_made
  evaluated_is p e = step (evaluation_fits g previous used rows) e
    where
      step : (t : Bool) → Some p ≡ pick t (Some (priced_of g previous used rows)) None
          → p ≡ priced_of g previous used rows
      step true q = cc
      step false q = absurd (let z : ◌≡◌ {A = ℕ} 0 1 = cc in omega arith)

  pub beyond_refused : None ≡ evaluation_made g previous used rows → evaluation_fits g previous used rows ≡ false
  unfolding evaluation_made
  beyond_refused e = step (evaluation_fits g previous used rows) e
    where
      step : (t : Bool) → ◌≡◌ {A = Option Priced} None (pick t (Some (priced_of g previous used rows)) None) → t ≡ false
      step true q = absurd (let z : ◌≡◌ {A = ℕ} 0 1 = cc in omega arith)
      step false q = refl

  whole : evaluation_of g previous used rows % g ≡ 0
  unfolding evaluation_of to_grid
  whole = mul-mod_left _ g

  -- an evaluation that is not refused can stand in a record
  pub evaluation_sound : evaluation_fits g previous used rows ≡ true
      → is_grid_price g (evaluation_of g previous used rows) ≡ true
  unfolding evaluation_fits is_grid_price
  evaluation_sound e =
      and_both (is_price (evaluation_of g previous used rows)) (eqb (evaluation_of g previous used rows % g) 0)
      (and_right (every row_fits rows) (is_price (evaluation_of g previous used rows)) e)
      (eq-eqb (evaluation_of g previous used rows % g) 0 whole)

-- ---- what was gathered says what 6 and 16 ask

pub in_range_is : (numbers : List ℤ) → is_in_range (gathered_of numbers) ≡ valid_rows numbers
unfolding gathered_of
in_range_is numbers = step (valid_rows numbers) (has_crossed_row (day_rows numbers)) (every row_fits (day_rows numbers))
  where
    step : (v c f : Bool) → is_in_range (pick v
        (pick c (Err Crossed) (pick f (Ok (book_of (map roubles_of (day_rows numbers)))) (Err Beyond))) (Err OutOfRange)) ≡ v
    step false c f = refl
    step true true f = refl
    step true false true = refl
    step true false false = refl

pub crossed_is : (numbers : List ℤ) → valid_rows numbers ≡ true
    → is_crossed (gathered_of numbers) ≡ has_crossed_row (day_rows numbers)
unfolding gathered_of
crossed_is numbers v = rw v (step (has_crossed_row (day_rows numbers)) (every row_fits (day_rows numbers)))
  where
    step : (c f : Bool)
        → is_crossed (pick c (Err Crossed) (pick f (Ok (book_of (map roubles_of (day_rows numbers)))) (Err Beyond))) ≡ c
    step true f = refl
    step false true = refl
    step false false = refl
