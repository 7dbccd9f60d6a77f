-- Laws of the table: the first slot with an id, and what a store there leaves alone.
use mathlib.Core.Path.{◌≡◌, refl, sym, ◌∙◌, subst}
use mathlib.Core.Logic.{◌≢◌}
use mathlib.Core.Bool.{Bool, true, false, ◌&&◌}
use mathlib.Core.List.{List, [], ◌∷◌}
use Prim.Native.Nat.{ℕ, suc, ◌<◌}
use native.Mathlib.Omega.{arith}
use lib.Dec.{ltb, eqb}
use lib.ListN.{length, get_or, set, length-set}
use lib.Seq.{get_or-set_same}
use borrow.Author.Tests.{eqb-true, eqb-false, eq-eqb, ne_eqb, ltb-true, ltb-false, lt-ltb, le-ltb}
use Rattle.paper.specs.declared.Record.{Record}
use Rattle.paper.specs.Lists.{pick, every}
use Rattle.paper.specs.Ranges.{valid_slots, sound}
use Rattle.paper_desk.specs.Desk.{blank, place, stands, found, known, fresh}
use Rattle.paper.proofs.Logic.{not_true_and_false, and_left, and_right}

-- what is found has the id
pub found_id : (t : List Record) (id : ℕ) → stands t id ≡ true → (found t id).id ≡ id
unfolding stands found place
found_id [] id e = absurd (not_true_and_false false e refl)
found_id (r ∷ t) id e = go (eqb r.id id) refl (ltb-true _ _ e) (λ k. found_id t id (lt-ltb _ _ k))
  where
    go : (b : Bool) → eqb r.id id ≡ b → pick b 0 (suc (place t id)) < suc (length t)
        → (place t id < length t → (get_or t (place t id) blank).id ≡ id)
        → (get_or (r ∷ t) (pick b 0 (suc (place t id))) blank).id ≡ id
    go true q l rest = eqb-true r.id id q
    go false q l rest = rest (omega arith)

-- a store of a record with the id of its slot, or with a new id
module _ (i : ℕ) (x : Record) where
  -- another id's first slot stays where and what it was
  pub place_other : (t : List Record) (id : ℕ) → id ≢ i → id ≢ x.id → place (set t (place t i) x) id ≡ place t id
  unfolding place
  place_other [] id n m = refl
  place_other (r ∷ t) id n m = go (eqb r.id i) refl (place_other t id n m)
    where
      go : (b : Bool) → eqb r.id i ≡ b → place (set t (place t i) x) id ≡ place t id
          → place (set (r ∷ t) (pick b 0 (suc (place t i))) x) id ≡ pick (eqb r.id id) 0 (suc (place t id))
      go true q rest =
          let new : eqb x.id id ≡ false = ne_eqb x.id id (λ (w : x.id ≡ id). m (sym w)) in
          let old : eqb r.id id ≡ false = ne_eqb r.id id (λ (w : r.id ≡ id). n (sym w ∙ eqb-true r.id i q)) in
          rw (new, old)
      go false q rest = rw rest

  pub found_other : (t : List Record) (id : ℕ) → id ≢ i → id ≢ x.id → found (set t (place t i) x) id ≡ found t id
  unfolding place found
  found_other [] id n m = refl
  found_other (r ∷ t) id n m = go (eqb r.id i) refl (eqb r.id id) refl (found_other t id n m)
    where
      go : (b : Bool) → eqb r.id i ≡ b → (c : Bool) → eqb r.id id ≡ c
          → get_or (set t (place t i) x) (place (set t (place t i) x) id) blank ≡ get_or t (place t id) blank
          → get_or (set (r ∷ t) (pick b 0 (suc (place t i))) x) (place (set (r ∷ t) (pick b 0 (suc (place t i))) x) id)
          blank
          ≡ get_or (r ∷ t) (pick c 0 (suc (place t id))) blank
      go true q c w rest =
          let new : eqb x.id id ≡ false = ne_eqb x.id id (λ (v : x.id ≡ id). m (sym v)) in
          let old : eqb r.id id ≡ false = ne_eqb r.id id (λ (v : r.id ≡ id). n (sym v ∙ eqb-true r.id i q)) in
          rw (new, sym w ∙ old)
      go false q true w rest = rw w
      go false q false w rest = rw w rest

  pub stands_other : (t : List Record) (id : ℕ) → id ≢ i → id ≢ x.id → stands (set t (place t i) x) id ≡ stands t id
  unfolding stands
  stands_other t id n m = rw (place_other t id n m, length-set t (place t i) x)

  -- the slot that is written is the first with the id of what was written, which no slot had, or which the slot itself
  -- had
  pub place_written : (t : List Record) → stands t i ≡ true → ((x.id ≡ i → ⊥) → stands t x.id ≡ false)
      → place (set t (place t i) x) x.id ≡ place t i
  unfolding stands place
  place_written [] e f = absurd (not_true_and_false false e refl)
  place_written (r ∷ t) e f = go (eqb r.id i) refl (ltb-true _ _ e)
      (λ l g. place_written t (lt-ltb _ _ l) g)
    where
      go : (b : Bool) → eqb r.id i ≡ b → pick b 0 (suc (place t i)) < suc (length t)
          → (place t i < length t → ((x.id ≡ i → ⊥) → ltb (place t x.id) (length t) ≡ false)
          → place (set t (place t i) x) x.id ≡ place t i)
          → place (set (r ∷ t) (pick b 0 (suc (place t i))) x) x.id ≡ pick b 0 (suc (place t i))
      go true q l rest = rw (eq-eqb x.id x.id refl)
      go false q l rest =
          let other : eqb r.id x.id ≡ false = ne_eqb r.id x.id differs in
          rw (other, rest (omega arith) gone)
        where
          -- where the record had the new id, the table would have had it
          differs : r.id ≡ x.id → ⊥
          differs w =
              let here : eqb r.id x.id ≡ true = eq-eqb r.id x.id w in
              let same : x.id ≡ i → ⊥ = λ v. eqb-false r.id i q (w ∙ v) in
              not_true_and_false (ltb (pick (eqb r.id x.id) 0 (suc (place t x.id))) (suc (length t)))
              (rw here (lt-ltb 0 (suc (length t)) (omega arith))) (f same)

          gone : (x.id ≡ i → ⊥) → ltb (place t x.id) (length t) ≡ false
          gone same =
              let there : ltb (pick (eqb r.id x.id) 0 (suc (place t x.id))) (suc (length t)) ≡ false =
              f same in
              let past : ltb (suc (place t x.id)) (suc (length t)) ≡ false =
              rw (ne_eqb r.id x.id differs) at there in
              le-ltb (place t x.id) (length t)
              (omega (arith, ltb-false (suc (place t x.id)) (suc (length t)) past))

  pub found_written : (t : List Record) → stands t i ≡ true → ((x.id ≡ i → ⊥) → stands t x.id ≡ false)
      → found (set t (place t i) x) x.id ≡ x
  unfolding found stands
  found_written t e f = rw (place_written t e f) (get_or-set_same t (place t i) x blank (ltb-true _ _ e))

  pub stands_written : (t : List Record) → stands t i ≡ true → ((x.id ≡ i → ⊥) → stands t x.id ≡ false)
      → stands (set t (place t i) x) x.id ≡ true
  unfolding stands
  stands_written t e f = rw (place_written t e f, length-set t (place t i) x) e

-- a record stored in the slot of its own id is then found there
pub found_stored : (t : List Record) (i : ℕ) (x : Record) → stands t i ≡ true → x.id ≡ (found t i).id
    → found (set t (place t i) x) i ≡ x
found_stored t i x there same =
    let mine : x.id ≡ i = same ∙ found_id t i there in
    subst (λ (j : ℕ). found (set t (place t i) x) j ≡ x) mine (found_written i x t there (λ other. absurd (other mine)))

-- a fresh table has no id but 0
pub fresh_empty : (t : List Record) (id : ℕ) → id ≢ 0 → fresh t ≡ true → stands t id ≡ false
unfolding stands place fresh every
fresh_empty [] id n f = refl
fresh_empty (r ∷ t) id n f =
    let empty : r.id ≡ 0 = eqb-true _ _ (and_left (eqb r.id 0) _ f) in
    let other : eqb r.id id ≡ false = ne_eqb r.id id (λ (q : r.id ≡ id). n (sym q ∙ empty)) in
    let rest : ltb (place t id) (length t) ≡ false = fresh_empty t id n (and_right (eqb r.id 0) _ f) in
    rw other (le-ltb (suc (place t id)) (suc (length t)) (omega (arith, ltb-false (place t id) (length t) rest)))

-- a known id stands in a slot, and its record is sound
pub known_stands : (t : List Record) (i : ℕ) → known t i ≡ true → stands t i ≡ true
unfolding known
known_stands t i e = and_right (valid_slots (length t)) (stands t i)
    (and_left (valid_slots (length t) && stands t i) (sound (found t i)) e)

pub known_sound : (t : List Record) (i : ℕ) → known t i ≡ true → sound (found t i) ≡ true
unfolding known
known_sound t i e = and_right (valid_slots (length t) && stands t i) (sound (found t i)) e
