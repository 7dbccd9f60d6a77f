-- Lines lead to the table to which their calls lead: a line's deed changes the table as the calls in it do, one line
-- after the other.
use mathlib.Core.Path.{◌≡◌, refl, sym, ◌∙◌, ap}
use mathlib.Core.List.{List, [], ◌∷◌, ◌++◌, append_assoc}
use Prim.Native.Nat.{ℕ}
use Rattle.paper.specs.declared.Record.{Record}
use Rattle.paper_desk.specs.Desk.{Call, step, run}
use Rattle.text_protocol.specs.Calls.{Deed, nothing, no_call, call, interest, bond}
use Rattle.text_evening.specs.Evening.{Evening, table_after, asked_by, after, after_all}
use Rattle.demands_evening.specs.Calls.{calls_in, calls_of}

-- ---- the table

deed_runs : (d : Deed) (t : List Record) → table_after d t ≡ run (calls_in d) t
unfolding table_after calls_in run
deed_runs nothing t = refl
deed_runs no_call t = refl
deed_runs (call c) t = refl
deed_runs (interest i keys) t = refl
deed_runs (bond b flows) t = refl

run_append : (cs ds : List Call) (t : List Record) → run (cs ++ ds) t ≡ run ds (run cs t)
unfolding run
run_append [] ds t = refl
run_append (c ∷ cs) ds t = run_append cs ds (step c t).table

-- THE TABLE AFTER LINES IS THE TABLE AFTER THEIR CALLS
pub lines_run : (ls : List (List ℕ)) (e : Evening) → (after_all ls e).table ≡ run (calls_of ls e) e.table
unfolding after_all calls_of after run
lines_run [] e = refl
lines_run (l ∷ ls) e =
    lines_run ls (after l e)
    ∙ ap (run (calls_of ls (after l e))) (deed_runs (asked_by l e) e.table)
    ∙ sym (run_append (calls_in (asked_by l e)) (calls_of ls (after l e)) e.table)

-- ---- a line behind others

-- where it says the call c, that is the last of their calls
pub calls_one_more : (before : List (List ℕ)) (l : List ℕ) (e : Evening) (c : Call)
    → asked_by l (after_all before e) ≡ call c → calls_of (before ++ l ∷ []) e ≡ calls_of before e ++ c ∷ []
unfolding after_all calls_of calls_in
calls_one_more [] l e c asked = rw asked
calls_one_more (k ∷ before) l e c asked =
    ap (λ (cs : List Call). calls_in (asked_by k e) ++ cs) (calls_one_more before l (after k e) c asked)
    ∙ sym (append_assoc (calls_in (asked_by k e)) (calls_of before (after k e)) (c ∷ []))
