-- A call about one id leaves every other slot as it was, and the table as long as it was.
use mathlib.Core.Path.{◌≡◌, refl, sym, ◌∙◌, ap}
use mathlib.Core.Logic.{◌≢◌, ◌⊎◌, inl, inr}
use mathlib.Core.Bool.{Bool, true, false}
use mathlib.Core.List.{List, [], ◌∷◌}
use Prim.Native.Nat.{ℕ, suc}
use lib.Dec.{eqb}
use lib.ListN.{length, get_or, set, length-set}
use lib.Seq.{get_or-set_other}
use borrow.Author.Tests.{eqb-true}
use Rattle.paper.specs.declared.Record.{Record}
use Rattle.paper.specs.Lists.{pick}
use Rattle.paper.specs.Verdicts.{is_done, first_of, NoneApplies, also}
use Rattle.paper_desk.specs.Desk.{Call, admit, about, id_of, Outcome, blank, admitted, place, found, known, rule_of}
use Rattle.paper_desk.specs.Desk.{checks_of, accepted_of, step}
use Rattle.paper_desk.specs.Kept.{written_at, Stays}
use Rattle.paper.proofs.Logic.{not_false}
use Rattle.paper_desk.proofs.Slots.{found_id, found_other, stands_other, known_stands}
use Rattle.paper_desk.proofs.Rules.{rule_holds}
use Rattle.paper_desk.proofs.Refusals.{verdict_first, refused_leaves, accepted_step, accepted_only}

-- what holds of the table before, and after whatever the call would write, holds after the call
pub holds_after_step : (P : List Record → Type 0) (c : Call) (t : List Record) → P t
    → (is_done (step c t).answer.verdict ≡ true → NoneApplies (checks_of c t) → P (accepted_of c t).table)
    → P (step c t).table
holds_after_step P c t p q = go (is_done (step c t).answer.verdict) refl
  where
    go : (b : Bool) → is_done (step c t).answer.verdict ≡ b → P (step c t).table
    go true e =
        let done : is_done (first_of (checks_of c t)) ≡ true = ap is_done (sym (verdict_first c t)) ∙ e in
        let same : (step c t).table ≡ (accepted_of c t).table = ap (λ (o : Outcome). o.table) (accepted_step c t done) in
        rw same (q e (accepted_only c t e))
    go false e = rw (refused_leaves c t e).0 p

pub length_stays : (c : Call) (t : List Record) → length (step c t).table ≡ length t
unfolding accepted_of
length_stays c t = holds_after_step (λ u. length u ≡ length t) c t refl (λ _ _. accepted c)
  where
    accepted : (c : Call) → length (accepted_of c t).table ≡ length t
    accepted (admit a) = length-set t _ _
    accepted (about id x) = length-set t _ _

-- every other slot, whatever it holds
pub slots_stay : (c : Call) (t : List Record) (k : ℕ) → k ≢ written_at c t
    → get_or (step c t).table k blank ≡ get_or t k blank
unfolding accepted_of
slots_stay c t k n = holds_after_step (λ u. get_or u k blank ≡ get_or t k blank) c t refl (λ _ _. accepted c n)
  where
    accepted : (c : Call) → k ≢ written_at c t → get_or (accepted_of c t).table k blank ≡ get_or t k blank
    accepted (admit a) n = get_or-set_other t _ k _ blank n
    accepted (about id x) n = get_or-set_other t _ k _ blank n

-- what stands in the slot that a call may write has the id that the call looks for there, or the slot is empty
found_or_empty : (t : List Record) (id : ℕ) → ((found t id).id ≡ id) ⊎ ((found t id).id ≡ 0)
unfolding found place blank
found_or_empty [] id = inr refl
found_or_empty (r ∷ t) id = go (eqb r.id id) refl (found_or_empty t id)
  where
    go : (b : Bool) → eqb r.id id ≡ b
        → ((get_or t (place t id) blank).id ≡ id) ⊎ ((get_or t (place t id) blank).id ≡ 0)
        → ((get_or (r ∷ t) (pick b 0 (suc (place t id))) blank).id ≡ id)
        ⊎ ((get_or (r ∷ t) (pick b 0 (suc (place t id))) blank).id ≡ 0)
    go true e rest = inl (eqb-true r.id id e)
    go false e rest = rest

-- W-213, "Records of other ids are the same before and after": on any table, in whichever slot the record stands
pub other_records_stay : (c : Call) (t : List Record) (k : ℕ) → (get_or t k blank).id ≢ 0 → (get_or t k blank).id ≢ id_of c
    → get_or (step c t).table k blank ≡ get_or t k blank
unfolding found
other_records_stay c t k full other = slots_stay c t k (differs c other)
  where
    not_at : (id : ℕ) → (get_or t k blank).id ≢ id → k ≢ place t id
    not_at id n e = go (found_or_empty t id)
      where
        go : ((found t id).id ≡ id) ⊎ ((found t id).id ≡ 0) → ⊥
        go (inl w) = n (ap (λ (j : ℕ). (get_or t j blank).id) e ∙ w)
        go (inr w) = full (ap (λ (j : ℕ). (get_or t j blank).id) e ∙ w)

    differs : (c : Call) → (get_or t k blank).id ≢ id_of c → k ≢ written_at c t
    differs (admit a) n = not_at 0 full
    differs (about id x) n = not_at id n

stored_stays : (id i : ℕ) (t : List Record) (x : Record) → known t i ≡ true → x.id ≡ (found t i).id → id ≢ i
    → Stays id t (set t (place t i) x)
stored_stays id i t x e m n =
    let mine : x.id ≡ i = m ∙ found_id t i (known_stands t i e) in
    let other : id ≢ x.id = λ (w : id ≡ x.id). n (w ∙ mine) in
    (stands_other i x t id n other, found_other i x t id n other)

pub others_stay : (c : Call) (t : List Record) (id : ℕ) → id ≢ 0 → id ≢ id_of c → Stays id t (step c t).table
unfolding accepted_of checks_of admitted
others_stay c t id z n = holds_after_step (Stays id t) c t (refl, refl) (λ _ w. accepted c n w)
  where
    accepted : (c : Call) → id ≢ id_of c → NoneApplies (checks_of c t) → Stays id t (accepted_of c t).table
    accepted (admit a) n w = (stands_other 0 (admitted a) t id z n, found_other 0 (admitted a) t id z n)
    accepted (about i x) n (also q w) =
        stored_stays id i t ((rule_of x).made (found t i)) (not_false (known t i) q) ((rule_holds x).id (found t i)) n
