-- Whatever slot of a table that calls made of a fresh one is full, its record has a history: an admission in range and
-- calls that were accepted in their turn (Histories).
use mathlib.Core.Path.{◌≡◌, refl, ap, subst}
use mathlib.Core.Logic.{◌≢◌}
use mathlib.Core.Bool.{true}
use mathlib.Core.List.{List, [], ◌∷◌}
use Prim.Native.Nat.{ℕ, zero, suc}
use native.Mathlib.Omega.{arith}
use lib.Dec.{leb, eqb}
use lib.ListN.{length, set}
use borrow.Author.Tests.{leb-true, eqb-true}
use Rattle.paper.specs.declared.Record.{Record}
use Rattle.paper.specs.declared.Admission.{Admission}
use Rattle.paper.specs.Lists.{every}
use Rattle.paper.specs.Numbers.{id_most}
use Rattle.paper.specs.Ranges.{valid_admission, valid_slots}
use Rattle.paper.specs.Verdicts.{NoneApplies, also}
use Rattle.paper_desk.specs.Desk.{Ask, Call, admit, about, blank, place, found, known, rule_of, checks_of, admit_checks}
use Rattle.paper_desk.specs.Desk.{accepted_of, step, run, fresh}
use Rattle.paper_desk.specs.History.{FreshTable}
use Rattle.demands.specs.Order.{slot_at}
use Rattle.paper.proofs.Logic.{and_left, and_right, not_false}
use Rattle.paper_desk.proofs.Others.{holds_after_step}
use Rattle.paper_desk.proofs.Slots.{known_sound}
use Rattle.paper_kept.proofs.Sound.{sound_has_parts, stored_holds}
use Rattle.demands.proofs.Histories.{record_of, Lawful}

pub record Made (r : Record) : Type 0 where
  pub admission : Admission
  pub events : List Ask
  pub same : r ≡ record_of admission events
  pub lawful : Lawful admission events

abbrev SlotsMade : List Record → Type 0
SlotsMade t = (slot : ℕ) → (slot_at t slot).id ≢ 0 → Made (slot_at t slot)

-- every slot of a fresh table is empty
fresh_slot_empty : (t : List Record) (slot : ℕ) → fresh t ≡ true → (slot_at t slot).id ≡ 0
unfolding fresh every blank
fresh_slot_empty [] slot f = refl
fresh_slot_empty (r ∷ t) zero f = eqb-true r.id 0 (and_left (eqb r.id 0) _ f)
fresh_slot_empty (r ∷ t) (suc slot) f = fresh_slot_empty t slot (and_right (eqb r.id 0) _ f)

-- a known id is not 0, so that its slot is full
pub known_has_id : (t : List Record) (i : ℕ) → known t i ≡ true → (found t i).id ≢ 0
known_has_id t i e w =
    let low : leb 1 (found t i).id ≡ true =
    and_left (leb 1 (found t i).id) (leb (found t i).id id_most)
    (sound_has_parts (found t i) (known_sound t i e)).id in
    omega (arith, leb-true 1 (found t i).id low)

-- one more accepted call
made_after : (r : Record) (x : Ask) → Made r → NoneApplies ((rule_of x).checks r) → Made ((rule_of x).made r)
unfolding record_of
made_after r x k n =
    record {
      admission = k.admission;
      events = x ∷ k.events;
      same = ap (rule_of x).made k.same;
      lawful = (k.lawful, subst (λ (y : Record). NoneApplies ((rule_of x).checks y)) k.same n);
    }

made_kept : (c : Call) (t : List Record) → SlotsMade t → SlotsMade (step c t).table
unfolding accepted_of checks_of admit_checks record_of found
made_kept c t w = holds_after_step SlotsMade c t w (λ _ n. accepted c n)
  where
    stored : (j : ℕ) (x : Record) → Made x → SlotsMade (set t j x)
    stored j x k slot = stored_holds (λ (r : Record). r.id ≢ 0 → Made r) t j x blank slot (λ _. k) (w slot)

    accepted : (c : Call) → NoneApplies (checks_of c t) → SlotsMade (accepted_of c t).table
    accepted (admit a) (also v rest) =
        stored (place t 0) _
        (record {
          admission = a;
          events = [];
          same = refl;
          lawful = and_right (valid_slots (length t)) (valid_admission a) (not_false _ v);
        })
    accepted (about i x) (also q n) =
        stored (place t i) ((rule_of x).made (found t i))
        (made_after (found t i) x (w (place t i) (known_has_id t i (not_false (known t i) q))) n)

run_made : (cs : List Call) (t : List Record) → SlotsMade t → SlotsMade (run cs t)
unfolding run
run_made [] t w = w
run_made (c ∷ cs) t w = run_made cs (step c t).table (made_kept c t w)

pub full_slot_made : (cs : List Call) (t : List Record) → FreshTable t → (slot : ℕ) → (slot_at (run cs t) slot).id ≢ 0
    → Made (slot_at (run cs t) slot)
full_slot_made cs t f = run_made cs t (λ slot full. absurd (full (fresh_slot_empty t slot f.empty)))
