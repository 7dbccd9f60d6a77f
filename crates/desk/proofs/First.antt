-- What a guess is worth: on any table, damaged ones among them, a sound guess (`First`) that has an id is the place of
-- the id (`near_is_place`), so that what is done at the place that `place_near` gives is what is promised of the id
-- (`near_promised`). The first slot is a sound guess of every table (`zero_first`), what `place_near` gives is one
-- (`near_first`), and every call keeps one (`first_kept`).
use mathlib.Core.Path.{◌≡◌, refl, sym, ◌∙◌, ap, subst}
use mathlib.Core.Logic.{◌⊎◌, inl, inr}
use mathlib.Core.Bool.{Bool, true, false, not, ◌&&◌}
use mathlib.Core.List.{List, [], ◌∷◌}
use Prim.Native.Nat.{ℕ, suc, ◌<◌, ◌≤◌}
use native.Mathlib.Omega.{arith}
use lib.Dec.{T, ltb, eqb}
use lib.ListN.{length, get_or, set, length-set}
use lib.Seq.{get_or-set_same, get_or-set_other}
use borrow.Author.Tests.{ltb-true, lt-ltb, eqb-true, eqb-false, le-ltb}
use Rattle.paper.specs.declared.Record.{Record}
use Rattle.paper.specs.declared.Answer.{Answer}
use Rattle.paper.specs.declared.Verdict.TheVariants.{NoSuchId}
use Rattle.paper.specs.Lists.{pick}
use Rattle.paper.specs.Ranges.{valid_slots, sound}
use Rattle.paper.specs.Verdicts.{NoneApplies, also, is_done, first_of}
use Rattle.paper_desk.specs.Desk.{Ask, Call, admit, about, Outcome, blank, admitted, place, stands, found, known}
use Rattle.paper_desk.specs.Desk.{rule_of, admit_checks, checks_of, accepted_of, step}
use Rattle.paper.proofs.Logic.{and_left, and_right, not_false, not_true_and_false, le_or_lt}
use Rattle.paper_desk.proofs.Slots.{found_id, known_stands}
use Rattle.paper_desk.proofs.Rules.{rule_holds}
use Rattle.paper_desk.proofs.Others.{holds_after_step}
use Rattle.paper_desk.proofs.PinnedLaws.{none_before_first}
use Rattle.record_answers.specs.declared.Slot.{Slot}
use Rattle.record_answers.specs.Effects.{slot_found, holds, is_known, refused_effect, judged_effect, effect_of, done_by}
use Rattle.desk.specs.Promises.{Promised}
use Rattle.desk.specs.Guesses.{slot_at, is_of, place_near, First, DoneAt}
use Rattle.desk.proofs.Places.{absent_of}
use Rattle.desk.proofs.Steps.{ask_steps}
use Rattle.desk.proofs.Guesses.{slot_here, slot_past, slot_at_first, guess_none, guess_taken, guess_left}

-- ---- the first slot with an id

-- it is not behind another slot with the id
first_before : (t : List Record) (id i : ℕ) → (get_or t i blank).id ≡ id → place t id ≤ i
first_before t id i e = go (le_or_lt (place t id) i)
  where
    go : (place t id ≤ i) ⊎ (i < place t id) → place t id ≤ i
    go (inl h) = h
    go (inr l) = absurd (none_before_first t id i l e)

first_has : (t : List Record) (id : ℕ) → place t id < length t → (get_or t (place t id) blank).id ≡ id
unfolding stands found
first_has t id l = found_id t id (lt-ltb _ _ l)

-- ---- a guess

record Has (t : List Record) (i id : ℕ) : Type 0 where
  within : i < length t
  has : (get_or t i blank).id ≡ id

guess_has : (t : List Record) (i id : ℕ) → is_of (slot_at t i) id ≡ true → Has t i id
unfolding is_of holds
guess_has t i id h = go (ltb i (length t)) refl
  where
    go : (b : Bool) → ltb i (length t) ≡ b → Has t i id
    go true e =
        let here : is_of (record { count = length t; at = i; rec = get_or t i blank }) id ≡ true =
        ap (λ (s : Slot). is_of s id) (slot_here t i (subst T (sym e) tt)) ∙ h in
        record { within = ltb-true i (length t) e; has = eqb-true _ _ (and_right (ltb i (length t)) _ here) }
    go false e =
        let past : is_of (absent_of (length t)) id ≡ true =
        ap (λ (s : Slot). is_of s id) (slot_past t i (subst (λ (b : Bool). T (not b)) (sym e) tt)) ∙ h in
        let less : length t < length t =
        ltb-true _ _ (and_left (ltb (length t) (length t)) _ past) in
        omega (arith, less)

-- A SOUND GUESS THAT HAS THE ID IS ITS PLACE
pub near_is_place : (t : List Record) (guess id : ℕ) → First t guess → eqb id 0 ≡ false
    → place_near t guess id ≡ place t id
near_is_place t guess id first full = go (is_of (slot_at t guess) id) refl
  where
    is_full : T (not (eqb id 0))
    is_full = subst (λ (b : Bool). T (not b)) (sym full) tt

    go : (b : Bool) → is_of (slot_at t guess) id ≡ b → place_near t guess id ≡ place t id
    go true e = sym (guess_taken t guess id is_full (subst T (sym e) tt)) ∙ same (le_or_lt guess (place t id))
      where
        h : Has t guess id
        h = guess_has t guess id e

        same : (guess ≤ place t id) ⊎ (place t id < guess) → guess ≡ place t id
        same (inl l) = let before : place t id ≤ guess = first_before t id guess h.has in omega (arith, l, before)
        same (inr l) =
            let there : place t id < length t = omega (arith, l, h.within) in
            absurd (first h.within (λ z. eqb-false id 0 full (sym h.has ∙ z)) (place t id) l
            (first_has t id there ∙ sym h.has))
    go false e = sym (guess_left t guess id is_full (subst (λ (b : Bool). T (not b)) (sym e) tt))

-- ---- sound guesses

pub zero_first : (t : List Record) → First t 0
zero_first t l n k m = let z : ⊥ = omega (arith, m) in absurd z

end_first : (t : List Record) → First t (length t)
end_first t l = let z : ⊥ = omega (arith, l) in absurd z

place_first : (t : List Record) (id : ℕ) → First t (place t id)
place_first t id l n k m e = none_before_first t id k m (e ∙ first_has t id l)

pub near_first : (t : List Record) (guess id : ℕ) → First t guess → First t (place_near t guess id)
near_first t guess id first = go (eqb id 0) refl
  where
    go : (b : Bool) → eqb id 0 ≡ b → First t (place_near t guess id)
    go true e = subst (λ (i : ℕ). First t i) (guess_none t guess id (subst T (sym e) tt)) (end_first t)
    go false e = subst (λ (i : ℕ). First t i) (sym (near_is_place t guess id first e)) (place_first t id)

-- ---- what is done at a place

-- no security has the id 0: whatever is asked of it is refused, whichever empty slot is taken
zero_unsound : (r : Record) → r.id ≡ 0 → sound r ≡ false
unfolding sound
zero_unsound r e = rw e

empty_unknown : (s : Slot) → s.rec.id ≡ 0 → is_known s ≡ false
unfolding is_known
empty_unknown s e =
    let there : Bool = valid_slots s.count && holds s in
    ap (λ (b : Bool). there && b) (zero_unsound s.rec e) ∙ refused there
  where
    refused : (b : Bool) → (b && false) ≡ false
    refused true = refl
    refused false = refl

unknown_refused : (s : Slot) (x : Ask) → is_known s ≡ false → effect_of s x ≡ refused_effect s.count NoSuchId
unfolding effect_of judged_effect first_of is_done
unknown_refused s x e = rw e

found_empty : (t : List Record) → (found t 0).id ≡ 0
unfolding found place blank
found_empty [] = refl
found_empty (r ∷ t) = go (eqb r.id 0) refl (found_empty t)
  where
    go : (b : Bool) → eqb r.id 0 ≡ b → (get_or t (place t 0) blank).id ≡ 0
        → (get_or (r ∷ t) (pick b 0 (suc (place t 0))) blank).id ≡ 0
    go true e rest = eqb-true r.id 0 e
    go false e rest = rest

-- past the end what is asked of the id 0 is done
none_done : (t : List Record) (x : Ask) → done_by t (effect_of (slot_at t (length t)) x) ≡ step (about 0 x) t
unfolding slot_found blank
none_done t x =
    let past : absent_of (length t) ≡ slot_at t (length t) =
    slot_past t (length t) (subst (λ (b : Bool). T (not b)) (sym (le-ltb (length t) (length t) (omega arith))) tt) in
    ap (λ (s : Slot). done_by t (effect_of s x)) (sym past)
    ∙ ap (done_by t) (unknown_refused (absent_of (length t)) x (empty_unknown (absent_of (length t)) refl)
    ∙ sym (unknown_refused (slot_found t 0) x (empty_unknown (slot_found t 0) (found_empty t)))) ∙ ask_steps t 0 x

done_there : (t : List Record) (guess id : ℕ) (x : Ask) → First t guess
    → done_by t (effect_of (slot_at t (place_near t guess id)) x) ≡ step (about id x) t
done_there t guess id x first = go (eqb id 0) refl
  where
    go : (b : Bool) → eqb id 0 ≡ b → done_by t (effect_of (slot_at t (place_near t guess id)) x) ≡ step (about id x) t
    go true e =
        ap (λ (i : ℕ). done_by t (effect_of (slot_at t i) x)) (sym (guess_none t guess id (subst T (sym e) tt)))
        ∙ none_done t x ∙ ap (λ (j : ℕ). step (about j x) t) (sym (eqb-true id 0 e))
    go false e =
        ap (λ (i : ℕ). done_by t (effect_of (slot_at t i) x)) (near_is_place t guess id first e)
        ∙ ap (λ (s : Slot). done_by t (effect_of s x)) (slot_at_first t id) ∙ ask_steps t id x

-- AT THE PLACE THAT A SOUND GUESS GIVES IS DONE WHAT IS PROMISED OF THE ID
pub near_promised : (t u : List Record) (guess id : ℕ) (x : Ask) (r : Answer) → First t guess
    → DoneAt (place_near t guess id) x t r u → Promised (about id x) t r u
near_promised t u guess id x r first d =
    let same = done_there t guess id x first in
    record {
      answer = d.answer ∙ ap (λ (o : Outcome). o.answer) same;
      table = d.table ∙ ap (λ (o : Outcome). o.table) same;
    }

-- ---- every call keeps a sound guess

same_ids_first : (t u : List Record) → length u ≡ length t
    → ((k : ℕ) → (get_or u k blank).id ≡ (get_or t k blank).id) → (i : ℕ) → First t i → First u i
same_ids_first t u len ids i first l n k m e =
    first (subst (λ (m : ℕ). i < m) len l) (λ z. n (ids i ∙ z)) k m (sym (ids k) ∙ e ∙ ids i)

-- a record of the same id is stored
stored_ids : (t : List Record) (p : ℕ) (x : Record) → p < length t → x.id ≡ (get_or t p blank).id → (k : ℕ)
    → (get_or (set t p x) k blank).id ≡ (get_or t k blank).id
stored_ids t p x l same k = go (eqb k p) refl
  where
    go : (b : Bool) → eqb k p ≡ b → (get_or (set t p x) k blank).id ≡ (get_or t k blank).id
    go true e =
        let at : k ≡ p = eqb-true k p e in
        subst (λ (j : ℕ). (get_or (set t p x) j blank).id ≡ (get_or t j blank).id) (sym at)
        (ap (λ (r : Record). r.id) (get_or-set_same t p x blank l) ∙ same)
    go false e = ap (λ (r : Record). r.id) (get_or-set_other t p k x blank (eqb-false k p e))

-- a record of an id that no slot has is stored
new_first : (t : List Record) (p : ℕ) (x : Record) → p < length t → stands t x.id ≡ false → (i : ℕ) → First t i
    → First (set t p x) i
unfolding stands
new_first t p x l absent i first li n k m e = go (eqb i p) (eqb k p) refl refl
  where
    own : (get_or (set t p x) p blank).id ≡ x.id
    own = ap (λ (r : Record). r.id) (get_or-set_same t p x blank l)

    at_own : (j : ℕ) → eqb j p ≡ true → (get_or (set t p x) j blank).id ≡ x.id
    at_own j q = subst (λ (h : ℕ). (get_or (set t p x) h blank).id ≡ x.id) (sym (eqb-true j p q)) own

    other : (j : ℕ) → eqb j p ≡ false → (get_or (set t p x) j blank).id ≡ (get_or t j blank).id
    other j q = ap (λ (r : Record). r.id) (get_or-set_other t p j x blank (eqb-false j p q))

    nowhere : (j : ℕ) → j < length t → (get_or t j blank).id ≡ x.id → ⊥
    nowhere j lj same =
        let before : place t x.id ≤ j = first_before t x.id j same in
        not_true_and_false _ (lt-ltb (place t x.id) (length t) (omega (arith, before, lj))) absent

    within : i < length t
    within = subst (λ (m : ℕ). i < m) (length-set t p x) li

    go : (a b : Bool) → eqb i p ≡ a → eqb k p ≡ b → ⊥
    go true true q w = let same : i ≡ k = eqb-true i p q ∙ sym (eqb-true k p w) in omega (arith, same, m)
    go true false q w = nowhere k (omega (arith, m, within)) (sym (other k w) ∙ e ∙ at_own i q)
    go false true q w = nowhere i within (sym (other i q) ∙ sym e ∙ at_own k w)
    go false false q w = first within (λ z. n (other i q ∙ z)) k m (sym (other k w) ∙ e ∙ other i q)

pub first_kept : (c : Call) (t : List Record) (i : ℕ) → First t i → First (step c t).table i
unfolding accepted_of checks_of admit_checks admitted stands found
first_kept c t i first = holds_after_step (λ (u : List Record). First u i) c t first (λ _ w. accepted c w)
  where
    accepted : (c : Call) → NoneApplies (checks_of c t) → First (accepted_of c t).table i
    accepted (admit a) (also q (also twice (also full w))) =
        new_first t (place t 0) (admitted a) (ltb-true _ _ (not_false (stands t 0) full)) twice i first
    accepted (about id x) (also q w) =
        let made : Record = (rule_of x).made (found t id) in
        let l : place t id < length t = ltb-true _ _ (known_stands t id (not_false (known t id) q)) in
        same_ids_first t (set t (place t id) made) (length-set t (place t id) made)
        (stored_ids t (place t id) made l ((rule_holds x).id (found t id))) i first
