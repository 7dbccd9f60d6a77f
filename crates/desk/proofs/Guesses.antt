-- Laws of the slot at a place, and of a place that is guessed.
use mathlib.Core.Path.{◌≡◌, refl, sym, ◌∙◌, ap, subst}
use mathlib.Core.Bool.{Bool, true, false, not}
use mathlib.Core.List.{List}
use Prim.Native.Nat.{ℕ, ◌≤◌}
use native.Mathlib.Nat.{le_antisymm}
use lib.Dec.{T, ltb, eqb, nltb→le}
use lib.ListN.{length, get_or}
use Rattle.paper.specs.declared.Record.{Record}
use Rattle.paper.specs.Lists.{pick}
use Rattle.paper_desk.specs.Desk.{blank, place}
use Rattle.record_answers.specs.Effects.{slot_found}
use Rattle.desk.specs.Guesses.{slot_at, is_of, place_near}
use Rattle.desk.proofs.Places.{absent_of, place_within, slot_at_place, slot_absent}

-- what a test picks
picked : {X : Type 0} (b : Bool) (x y : X) → T b → x ≡ pick b x y
picked true x y h = refl
picked false x y h = absurd h

left : {X : Type 0} (b : Bool) (x y : X) → T (not b) → y ≡ pick b x y
left true x y h = absurd h
left false x y h = refl

-- before the end, and past it
pub slot_here : (t : List Record) (i : ℕ) → T (ltb i (length t))
    → record { count = length t; at = i; rec = get_or t i blank } ≡ slot_at t i
unfolding slot_at
slot_here t i h = picked (ltb i (length t)) _ _ h

pub slot_past : (t : List Record) (i : ℕ) → T (not (ltb i (length t))) → absent_of (length t) ≡ slot_at t i
unfolding slot_at
slot_past t i h = left (ltb i (length t)) _ _ h

-- at the place of an id it is the first slot with the id
pub slot_at_first : (t : List Record) (id : ℕ) → slot_at t (place t id) ≡ slot_found t id
slot_at_first t id = go (ltb (place t id) (length t)) refl
  where
    go : (b : Bool) → ltb (place t id) (length t) ≡ b → slot_at t (place t id) ≡ slot_found t id
    go true e = sym (slot_here t (place t id) (subst T (sym e) tt)) ∙ slot_at_place t id
    go false e =
        let over : T (not (ltb (place t id) (length t))) = subst (λ (b : Bool). T (not b)) (sym e) tt in
        let past : length t ≤ place t id = nltb→le (place t id) (length t) over in
        sym (slot_past t (place t id) over) ∙ ap absent_of (le_antisymm past (place_within t id)) ∙ slot_absent t id past

-- of the id 0 there is no place
pub guess_none : (t : List Record) (guess id : ℕ) → T (eqb id 0) → length t ≡ place_near t guess id
unfolding place_near
guess_none t guess id h = picked (eqb id 0) _ _ h

-- a guess that has the id is taken, and another is not
pub guess_taken : (t : List Record) (guess id : ℕ) → T (not (eqb id 0)) → T (is_of (slot_at t guess) id)
    → guess ≡ place_near t guess id
unfolding place_near
guess_taken t guess id full h =
    picked (is_of (slot_at t guess) id) guess (place t id) h ∙ left (eqb id 0) _ _ full

pub guess_left : (t : List Record) (guess id : ℕ) → T (not (eqb id 0)) → T (not (is_of (slot_at t guess) id))
    → place t id ≡ place_near t guess id
unfolding place_near
guess_left t guess id full h = left (is_of (slot_at t guess) id) guess (place t id) h ∙ left (eqb id 0) _ _ full
