-- The programs' own table is a fresh one, so that the demands hold of the table behind any lines: it is the one that
-- their calls make.
use mathlib.Core.Path.{◌≡◌, refl, sym, ◌∙◌, ap}
use mathlib.Core.Bool.{Bool, true, false}
use mathlib.Core.List.{List}
use Prim.Native.Nat.{ℕ, zero, suc}
use lib.Dec.{eqb}
use lib.ListN.{replicate, length-replicate}
use Rattle.paper.specs.declared.Record.{Record}
use Rattle.paper.specs.declared.Admission.{Admission}
use Rattle.paper.specs.Lists.{every}
use Rattle.paper.specs.Numbers.{slots_most}
use Rattle.paper.specs.Ranges.{valid_slots}
use Rattle.paper_desk.specs.Desk.{Ask, blank, known, run, fresh}
use Rattle.paper_desk.specs.History.{FreshTable, History, unknown, since, was_admitted}
use Rattle.demands.specs.Demands.{Demand2}
use Rattle.text_evening.specs.Evening.{start_evening}
use Rattle.demands_evening.specs.Holds.{own_table, table_behind, calls_behind, history_behind, HistoryHolds}
use Rattle.paper.proofs.Logic.{not_true_and_false, and_both}
use Rattle.demands.proofs.Known.{known_admitted}
use Rattle.demands.proofs.Demands.{demand_2}
use Rattle.demands_evening.proofs.Calls.{lines_run}

-- ---- the programs' own table

copies_pass : (p : Record → Bool) (n : ℕ) (r : Record) → p r ≡ true → every p (replicate n r) ≡ true
unfolding every
copies_pass p zero r e = refl
copies_pass p (suc n) r e = and_both (p r) (every p (replicate n r)) e (copies_pass p n r e)

-- THE PROGRAMS' OWN TABLE IS FRESH
pub own_table_fresh : FreshTable own_table
unfolding own_table valid_slots fresh blank
own_table_fresh =
    record {
      slots = ap valid_slots (length-replicate slots_most blank);
      empty = copies_pass (λ (r : Record). eqb r.id 0) slots_most blank refl;
    }

-- ---- the table behind lines

pub table_made : (ls : List (List ℕ)) → table_behind ls ≡ run (calls_behind ls) own_table
table_made ls = lines_run ls (start_evening own_table)

pub demand_2_behind : (ls : List (List ℕ)) (id : ℕ) (a : Admission) (es : List Ask)
    → history_behind ls id ≡ since a es → Demand2 id a es (table_behind ls)
demand_2_behind ls id a es e = rw (table_made ls) (demand_2 id (calls_behind ls) own_table own_table_fresh a es e)

-- an id that is known was admitted by one of the lines
admitted_since : (h : History) → was_admitted h ≡ true → (a : Admission) × (es : List Ask) × (h ≡ since a es)
unfolding was_admitted
admitted_since unknown e = absurd (not_true_and_false false e refl)
admitted_since (since a es) e = (a, es, refl)

pub known_holds : (ls : List (List ℕ)) (id : ℕ) → known (table_behind ls) id ≡ true → HistoryHolds ls id
known_holds ls id there =
    let k =
    admitted_since (history_behind ls id)
    (sym (known_admitted (calls_behind ls) own_table own_table_fresh.slots own_table_fresh.empty id)
    ∙ (rw (table_made ls) at there)) in
    record {
      admission = k.0;
      events = k.1;
      history = k.2;
      demand_2 = demand_2_behind ls id k.0 k.1 k.2;
    }
