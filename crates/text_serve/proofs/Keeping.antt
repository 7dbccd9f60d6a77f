-- A good slot stays good: whatever call is performed leaves it as it was, or writes a good record there (`good_stays`).
-- `paper_kept` says what an accepted call makes of a good record.
use mathlib.Core.Path.{◌≡◌, refl, sym, ◌∙◌, ap, subst}
use mathlib.Core.Bool.{Bool, true, false, not, ◌&&◌}
use mathlib.Core.List.{List}
use Prim.Native.Nat.{ℕ, ◌<◌}
use native.Mathlib.Omega.{arith}
use lib.Dec.{T, ltb, eqb}
use lib.ListN.{length, get_or, set, length-set}
use lib.Seq.{get_or-set_same, get_or-set_other}
use borrow.Author.Tests.{ltb-true, lt-ltb, eqb-true, eqb-false}
use Rattle.paper.specs.declared.Record.{Record}
use Rattle.paper.specs.Ranges.{valid_slots, valid_admission, sound}
use Rattle.paper.specs.Verdicts.{NoneApplies, also}
use Rattle.paper_desk.specs.Desk.{Call, admit, about, blank, admitted, place, found, rule_of, checks_of, admit_checks}
use Rattle.paper_desk.specs.Desk.{accepted_of, step}
use Rattle.paper_desk.specs.Kept.{within_moves, good}
use Rattle.paper.proofs.Logic.{and_left, and_right, and_both, not_false}
use Rattle.paper_desk.proofs.Others.{holds_after_step}
use Rattle.paper_kept.proofs.Good.{admitted_good}
use Rattle.paper_kept.proofs.Made.{made_good}
use Rattle.record_answers.specs.declared.Slot.{Slot}
use Rattle.record_answers.specs.Effects.{holds, is_known}
use Rattle.record_calls.specs.Good.{is_good}
use Rattle.desk.specs.Guesses.{slot_at}
use Rattle.desk.proofs.Places.{absent_of}
use Rattle.desk.proofs.Guesses.{slot_here, slot_past}

-- a good slot in its parts
record GoodSlot (t : List Record) (i : ℕ) : Type 0 where
  within : i < length t
  slots : valid_slots (length t) ≡ true
  is_good_lem : good (get_or t i blank) ≡ true

-- the slot at a place before the end
abbrev here : List Record → ℕ → Slot
here t i = record { count = length t; at = i; rec = get_or t i blank }

slot_parts : (t : List Record) (i : ℕ) → is_good (slot_at t i) ≡ true → GoodSlot t i
unfolding is_good is_known holds good
slot_parts t i h = go (ltb i (length t)) refl
  where
    go : (b : Bool) → ltb i (length t) ≡ b → GoodSlot t i
    go true e =
        let r : Record = get_or t i blank in
        let v : is_good (here t i) ≡ true = ap is_good (slot_here t i (subst T (sym e) tt)) ∙ h in
        let k : is_known (here t i) ≡ true = and_left (is_known (here t i)) (within_moves r) v in
        record {
          within = ltb-true i (length t) e;
          slots = and_left (valid_slots (length t)) _ (and_left (valid_slots (length t) && ltb i (length t)) (sound r) k);
          is_good_lem =
              and_both (sound r) (within_moves r) (and_right (valid_slots (length t) && ltb i (length t)) (sound r) k)
              (and_right (is_known (here t i)) (within_moves r) v);
        }
    go false e =
        let past : is_good (absent_of (length t)) ≡ true =
        ap is_good (slot_past t i (subst (λ (b : Bool). T (not b)) (sym e) tt)) ∙ h in
        let k : is_known (absent_of (length t)) ≡ true = and_left (is_known (absent_of (length t))) _ past in
        let n : ℕ = length t in
        let less : n < n = ltb-true n n (and_right (valid_slots n) _ (and_left (valid_slots n && ltb n n) _ k)) in
        let z : ⊥ = omega (arith, less) in
        absurd z

slot_of_parts : (t : List Record) (i : ℕ) → GoodSlot t i → is_good (slot_at t i) ≡ true
unfolding is_good is_known holds good
slot_of_parts t i g =
    let r : Record = get_or t i blank in
    let before : ltb i (length t) ≡ true = lt-ltb i (length t) g.within in
    let k : is_known (here t i) ≡ true =
    and_both (valid_slots (length t) && ltb i (length t)) (sound r)
    (and_both (valid_slots (length t)) (ltb i (length t)) g.slots before)
    (and_left (sound r) (within_moves r) g.is_good_lem) in
    let v : is_good (here t i) ≡ true =
    and_both (is_known (here t i)) (within_moves r) k (and_right (sound r) (within_moves r) g.is_good_lem) in
    sym (ap is_good (slot_here t i (subst T (sym before) tt))) ∙ v

-- a record is stored: it is good where it comes to stand in the slot
stored : (t : List Record) (p : ℕ) (x : Record) (i : ℕ) → GoodSlot t i → (i ≡ p → good x ≡ true)
    → is_good (slot_at (set t p x) i) ≡ true
stored t p x i g k =
    slot_of_parts (set t p x) i (record {
      within = subst (λ (m : ℕ). i < m) (sym (length-set t p x)) g.within;
      slots = subst (λ (m : ℕ). valid_slots m ≡ true) (sym (length-set t p x)) g.slots;
      is_good_lem = go (eqb i p) refl;
    })
  where
    go : (b : Bool) → eqb i p ≡ b → good (get_or (set t p x) i blank) ≡ true
    go true e =
        let at : i ≡ p = eqb-true i p e in
        let own : get_or (set t p x) p blank ≡ x =
        get_or-set_same t p x blank (subst (λ (j : ℕ). j < length t) at g.within) in
        subst (λ (j : ℕ). good (get_or (set t p x) j blank) ≡ true) (sym at)
        (subst (λ (r : Record). good r ≡ true) (sym own) (k at))
    go false e =
        subst (λ (r : Record). good r ≡ true) (sym (get_or-set_other t p i x blank (eqb-false i p e))) g.is_good_lem

pub good_stays : (c : Call) (t : List Record) (i : ℕ) → is_good (slot_at t i) ≡ true
    → is_good (slot_at (step c t).table i) ≡ true
unfolding accepted_of checks_of admit_checks found
good_stays c t i h =
    holds_after_step (λ (u : List Record). is_good (slot_at u i) ≡ true) c t h (λ _ w. accepted c w)
  where
    g : GoodSlot t i
    g = slot_parts t i h

    accepted : (c : Call) → NoneApplies (checks_of c t) → is_good (slot_at (accepted_of c t).table i) ≡ true
    accepted (admit a) (also v rest) =
        stored t (place t 0) (admitted a) i g
        (λ _. admitted_good a (and_right (valid_slots (length t)) (valid_admission a) (not_false _ v)))
    accepted (about id x) (also q n) =
        stored t (place t id) ((rule_of x).made (found t id)) i g
        (λ (e : i ≡ place t id). made_good x (found t id)
        (subst (λ (j : ℕ). good (get_or t j blank) ≡ true) e g.is_good_lem) n)
