-- What an evaluation in hand says of 7, and what a day and a record in range are to the prices.
use mathlib.Core.Path.{◌≡◌, refl, sym, subst, ◌∙◌}
use mathlib.Core.Bool.{Bool, true, false, ◌&&◌}
use mathlib.Core.List.{List}
use Prim.Native.Nat.{ℕ, ◌≤◌}
use native.Mathlib.Omega.{arith}
use lib.IntN.{ℤ}
use Rattle.paper.specs.declared.Day.{Day}
use Rattle.paper.specs.declared.External.{External}
use Rattle.paper.specs.declared.Row.{Row}
use Rattle.paper.specs.declared.Record.{Record}
use Rattle.paper.specs.Lists.{pick, every}
use Rattle.paper.specs.Numbers.{price_most}
use Rattle.paper.specs.Ranges.{is_price, is_grid_price, valid_day, valid_rows, sound, valid_day_numbers, no_external}
use Rattle.paper_desk.specs.Evaluation.{evaluation_of, day_rows, has_crossed_row, row_fits, evaluation_fits, used_pair}
use Rattle.paper_desk.specs.Desk.{used_by}
use Rattle.paper.proofs.Logic.{and_left, and_right}
use Rattle.inputs.proofs.Tests.{day_in_parts}
use Rattle.record_soundness.proofs.Facts.{sound_facts}
use Rattle.std.specs.declared.option.Option.{Option}
use Rattle.std.specs.declared.option.Option.TheVariants.{None, Some}
use Rattle.std.specs.declared.result.Result.{Result}
use Rattle.evaluation.specs.declared.Book.{Book}
use Rattle.evaluation.specs.declared.RowsRefused.{RowsRefused}
use Rattle.evaluation.specs.declared.Priced.{Priced}
use Rattle.evaluation.specs.Evaluation.{priced_of, evaluation_made}
use Rattle.evaluation.specs.Book.{gathered_of, is_in_range, is_crossed}
use Rattle.evaluation.specs.EvaluationLaws.{in_range_is, crossed_is}

pub sound_prices_valid : (r : Record) → sound r ≡ true → (is_price r.p1.units ≡ true)
    × (is_price r.p2.units ≡ true)
unfolding sound is_grid_price
sound_prices_valid r v = (search (v, and_left, and_right) depth 40, search (v, and_left, and_right) depth 40)

pub day_valid_parts : (d : Day) (rows : List ℤ) → valid_day d rows ≡ true
    → (valid_day_numbers d ≡ true) × (valid_rows rows ≡ true)
day_valid_parts d rows v =
    let both = sym (day_in_parts d rows) ∙ v in
    (and_left (valid_day_numbers d) (valid_rows rows) both, and_right (valid_day_numbers d) (valid_rows rows) both)

-- what was gathered says what 6 and 16 ask of the rows (W-214)
pub day_gathered : (d : Day) (rows : List ℤ) (r : Result Book RowsRefused) → r ≡ gathered_of rows
    → (valid_day_numbers d && is_in_range r) ≡ valid_day d rows
day_gathered d rows r e = rw (e, in_range_is rows) (sym (day_in_parts d rows))

pub crossed_gathered : (rows : List ℤ) (r : Result Book RowsRefused) → r ≡ gathered_of rows → valid_rows rows ≡ true
    → is_crossed r ≡ has_crossed_row (day_rows rows)
crossed_gathered rows r e v = rw e (crossed_is rows v)

-- the outside prices that count are prices, or none
pub used_prices_within_most : (r : Record) → sound r ≡ true → ((used_by r).bid ≤ price_most) × ((used_by r).ask ≤ price_most)
unfolding used_by used_pair
used_prices_within_most r v = go r.statics.useexternal
  where
    go : (b : Bool)
        → ((pick b r.external no_external).bid ≤ price_most) × ((pick b r.external no_external).ask ≤ price_most)
    go true = let kept = (sound_facts r v).external in (kept.bid, kept.ask)
    go false = (omega arith, omega arith)

pub beyond_does_not_fit : (g previous : ℕ) (used : External) (rows : List Row) → evaluation_made g previous used rows
    ≡ None
    → evaluation_fits g previous used rows ≡ false
unfolding evaluation_made
beyond_does_not_fit g previous used rows e = go (evaluation_fits g previous used rows) e
  where
    go : (b : Bool) → ◌≡◌ {A = Option Priced} (pick b (Some (priced_of g previous used rows)) None) None → b ≡ false
    go true q = let z : ◌≡◌ {A = ℕ} 0 1 = cc in absurd (omega arith)
    go false q = refl

-- an evaluation that was made is the paper's, and fits
pub record Fitting (g previous : ℕ) (used : External) (rows : List Row) (e : Priced) : Type 0 where
  pub fits : evaluation_fits g previous used rows ≡ true
  pub is : priced_of g previous used rows ≡ e
  pub price : is_price e.price.units ≡ true

pub evaluated_is_fitting : (g previous : ℕ) (used : External) (rows : List Row) (e : Priced)
    → evaluation_made g previous used rows ≡ Some e → Fitting g previous used rows e
unfolding evaluation_made evaluation_fits priced_of
evaluated_is_fitting g previous used rows e m = go (evaluation_fits g previous used rows) refl m
  where
    go : (b : Bool) → evaluation_fits g previous used rows ≡ b
        → pick b (Some (priced_of g previous used rows)) None ≡ Some e → Fitting g previous used rows e
    go true f q =
        let same : priced_of g previous used rows ≡ e = cc in
        record {
          fits = f;
          is = same;
          price =
              subst (λ (z : Priced). is_price z.price.units ≡ true) same
              (and_right (every row_fits rows) (is_price (evaluation_of g previous used rows)) f);
        }
    go false f q = let z : ◌≡◌ {A = ℕ} 0 1 = cc in absurd (omega arith)
