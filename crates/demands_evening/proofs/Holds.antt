-- One theorem for every evening: whatever bytes it is delivered, the demands hold of the table behind their lines, and
-- each line that says a call is told what the history of its security gives.
use mathlib.Core.Path.{◌≡◌}
use mathlib.Core.List.{List, [], ◌∷◌, ◌++◌}
use Prim.Native.Nat.{ℕ}
use Rattle.text_bytes.specs.Bytes.{lines}
use Rattle.text_evening.specs.declared.Telling.{Telling}
use Rattle.text_evening.specs.Evening.{start_evening, answer, answers}
use Rattle.demands_evening.specs.Holds.{own_table, evening_behind, table_behind, calls_behind, told_of, EveningHolds}
use Rattle.demands.proofs.Order.{live_in_order}
use Rattle.demands.proofs.Inside.{live_bands_inside, nine_at_crossed}
use Rattle.demands.proofs.Demands.{table_kept, bands_in_order, demand_1, demand_3}
use Rattle.text_evening.proofs.OneMore.{after_one_more, told_at}
use Rattle.demands_evening.proofs.Tables.{own_table_fresh, table_made, demand_2_behind}
use Rattle.demands_evening.proofs.Lines.{line_holds}

-- what is told of a line stands behind what is told of the lines before it
told_in_place : (got : List ℕ) (before later : List (List ℕ)) (l : List ℕ) → lines got ≡ before ++ l ∷ later
    → (telling : Telling)
    → told_of telling (lines got)
    ≡ told_of telling before ++ answer telling l (evening_behind before)
    ++ answers telling later (evening_behind (before ++ l ∷ []))
told_in_place got before later l e telling =
    rw (e, after_one_more before l (start_evening own_table)) (told_at telling before later l (start_evening own_table))

-- FOR EVERY BYTES THAT AN EVENING IS DELIVERED
pub evening_holds : (got : List ℕ) → EveningHolds got (table_behind (lines got))
evening_holds got =
    record {
      fresh = own_table_fresh;
      made = table_made (lines got);
      demand_1 = λ c. demand_1 c (table_behind (lines got));
      demand_2 = demand_2_behind (lines got);
      demand_3 = λ id a es e on.
          rw (table_made (lines got)) (demand_3.share id (calls_behind (lines got)) own_table own_table_fresh a es e on);
      table_kept = table_kept (calls_behind (lines got)) own_table own_table_fresh;
      bands_in_order = λ id a es e.
          rw (table_made (lines got)) (bands_in_order id (calls_behind (lines got)) own_table own_table_fresh a es e);
      bands_inside = λ id a es e.
          rw (table_made (lines got)) (live_bands_inside id (calls_behind (lines got)) own_table own_table_fresh a es e);
      nine_exactly = λ id a es e.
          rw (table_made (lines got)) (nine_at_crossed id (calls_behind (lines got)) own_table own_table_fresh a es e);
      live_in_order = rw (table_made (lines got)) (live_in_order (calls_behind (lines got)) own_table own_table_fresh);
      place_told = told_in_place got;
      each_line = λ before later l e c asked. line_holds before l c asked;
    }
