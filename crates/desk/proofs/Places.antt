-- Laws of the first slot with an id.
use mathlib.Core.Path.{◌≡◌, refl, sym, ◌∙◌, ap}
use mathlib.Core.Bool.{Bool, true, false, cond}
use mathlib.Core.List.{List, [], ◌∷◌}
use Prim.Native.Nat.{ℕ, suc, ◌+◌, ◌≤◌, zero-le}
use native.Mathlib.Nat.{le_antisymm}
use native.Mathlib.Omega.{arith}
use lib.Dec.{eqb, ltb}
use lib.ListN.{length, get_or, get_or-eq_default}
use Rattle.std.specs.Prelude.{Option, Some, None}
use Rattle.std.specs.Option.{unwrap_or}
use Rattle.std.specs.List.{position, position_or_len}
use Rattle.std.proofs.lemmas.List.Recursion.{is_position_or_len}
use Rattle.paper.specs.declared.Record.{Record}
use Rattle.paper.specs.Lists.{pick}
use Rattle.paper_desk.specs.Desk.{blank, place, found}
use Rattle.record_answers.specs.declared.Slot.{Slot}
use Rattle.record_answers.specs.Effects.{slot_found}

-- the place is what `position` finds, or the number of slots
place_is_position_or_len : (t : List Record) (id : ℕ) → place t id ≡ position_or_len (λ (r : Record). eqb r.id id) t
unfolding place
place_is_position_or_len t id =
    is_position_or_len (λ (u : List Record). place u id) (λ (r : Record). eqb r.id id) refl
    (λ r u. step (eqb r.id id) (place u id)) t
  where
    step : (b : Bool) (n : ℕ) → pick b 0 (suc n) ≡ cond b 0 (1 + n)
    step true n = refl
    step false n = omega arith

pub place_within : (t : List Record) (id : ℕ) → place t id ≤ length t
unfolding place
place_within [] id = zero-le
place_within (r ∷ t) id = go (eqb r.id id) (place_within t id)
  where
    go : (b : Bool) → place t id ≤ length t → pick b 0 (suc (place t id)) ≤ suc (length t)
    go true h = zero-le
    go false h = omega (arith, h)

pub found_or_past : (t : List Record) (id : ℕ) (found : Option ℕ)
    → found ≡ position (λ (r : Record). eqb r.id id) t → unwrap_or found (length t) ≡ place t id
found_or_past t id found e =
    rw (e, ← place_is_position_or_len t id) (go (ltb (place t id) (length t)) refl)
  where
    go : (b : Bool) → b ≡ ltb (place t id) (length t)
        → unwrap_or (cond b (Some (place t id)) None) (length t) ≡ place t id
    go true h = refl
    go false h = grind (arith, place_within t id)

-- the slot that is handed out where the id is found
pub slot_at_place : (t : List Record) (id : ℕ)
    → record { count = length t; at = place t id; rec = get_or t (place t id) blank } ≡ slot_found t id
unfolding slot_found found
slot_at_place t id = refl

-- what is handed out where none of n slots has the id
abbrev pub absent_of : ℕ → Slot
absent_of n = record { count = n; at = n; rec = blank }

pub slot_absent : (t : List Record) (id : ℕ) → length t ≤ place t id → absent_of (place t id) ≡ slot_found t id
unfolding slot_found found
slot_absent t id past =
    ap (λ (n : ℕ). record { count = n; at = place t id; rec = blank }) (le_antisymm (place_within t id) past)
    ∙ ap (λ (r : Record). record { count = length t; at = place t id; rec = r })
    (sym (get_or-eq_default t blank past))
