-- An entry is one of the row's (`entry_within`). What is noted is a sound guess (`noted_first`), and where it is the place
-- that was found (`one_less_same`) its slot is good, so that nothing need be judged (`judged_good`). The row of notes stays sound: at the
-- start (`none_sound`), and where a place that was found is noted and the line is performed (`noted_sound`).
use mathlib.Core.Path.{◌≡◌, refl, sym, ◌∙◌, subst}
use mathlib.Core.Logic.{◌≢◌}
use mathlib.Core.Bool.{Bool, true, false, ◌&&◌, ◌||◌}
use mathlib.Core.List.{List}
use Prim.Native.Nat.{ℕ, zero, suc, ◌+◌, ◌-◌, ◌<◌, ◌^◌}
use native.Mathlib.Nat.{mod-lt}
use native.Mathlib.Omega.{arith}
use lib.Dec.{eqb, ltb}
use lib.IntN.{ℤ}
use lib.ListN.{get_or, set, replicate, length}
use lib.Seq.{get_or-set_same, get_or-set_other, set_out}
use borrow.Author.Tests.{ltb-true, ltb-false, eqb-true, eqb-false, eq-eqb, ne_eqb}
use Rattle.paper.specs.declared.Record.{Record}
use Rattle.paper.specs.Lists.{pick}
use Rattle.paper.proofs.Logic.{and_left, and_right}
use Rattle.paper_desk.specs.Desk.{Call, step}
use Rattle.paper_desk.specs.Kept.{within_moves}
use Rattle.record_answers.specs.declared.Slot.{Slot}
use Rattle.record_answers.specs.Effects.{is_known}
use Rattle.record_calls.specs.Good.{is_good}
use Rattle.desk.specs.Guesses.{slot_at, good_at, First, place_near}
use Rattle.desk.proofs.First.{zero_first, near_first, first_kept}
use Rattle.text_protocol.specs.declared.Ask.{Ask}
use Rattle.text_protocol.specs.declared.Ask.TheVariants as ask
use Rattle.text_protocol.specs.declared.Performed.{Performed}
use Rattle.text_protocol.specs.Calls.{call_asked}
use Rattle.text_ask.specs.WithReasons.{id_asked, Asks}
use Rattle.text_serve.specs.Places.{places_most, place_last, entry_of, note_of, Noted, Sound}
use Rattle.text_serve.proofs.Keeping.{good_stays}

pub entry_within : (id : ℕ) → entry_of id < places_most
unfolding entry_of
entry_within id = mod-lt id (omega arith)

-- ---- what is noted

pub noted_first : (t : List Record) (note : ℕ) → Noted t note → First t (note - 1)
noted_first t note noted = go (ltb 0 note) refl
  where
    go : (b : Bool) → ltb 0 note ≡ b → First t (note - 1)
    go true e = (noted (ltb-true 0 note e)).0
    go false e =
        let none : note - 1 ≡ 0 = omega (arith, ltb-false 0 note e) in
        subst (λ (i : ℕ). First t i) (sym none) (zero_first t)

-- the place that is noted has a good slot, so that what is known of it is what would be judged
pub judged_good : (t : List Record) (note at : ℕ) → Noted t note
    → good_at t at (eqb note (at + 1)) ≡ is_good (slot_at t at)
unfolding good_at
judged_good t note at noted = go (eqb note (at + 1)) refl
  where
    go : (b : Bool) → eqb note (at + 1) ≡ b → (b || is_good (slot_at t at)) ≡ is_good (slot_at t at)
    go true e =
        let one_more : note ≡ at + 1 = eqb-true note (at + 1) e in
        let there : note - 1 ≡ at = omega (arith, one_more) in
        sym (subst (λ (i : ℕ). is_good (slot_at t i) ≡ true) there (noted (omega (arith, one_more))).1)
    go false e = refl

pub good_known : (s : Slot) → is_good s ≡ true → is_known s ≡ true
unfolding is_good
good_known s e = and_left (is_known s) (within_moves s.rec) e

pub one_less_same : (note at : ℕ) → note ≢ 0 → eqb (note - 1) at ≡ eqb note (at + 1)
one_less_same note at some = go (eqb (note - 1) at) refl
  where
    go : (b : Bool) → eqb (note - 1) at ≡ b → b ≡ eqb note (at + 1)
    go true e =
        sym (eq-eqb note (at + 1) (omega (arith, eqb-true (note - 1) at e, some)))
    go false e =
        sym (ne_eqb note (at + 1) (λ (h : note ≡ at + 1). omega (arith, h, eqb-false (note - 1) at e)))

-- ---- what there is to note

pub note_fits : (at : ℕ) (good : Bool) → note_of at good < 2 ^ 64
unfolding note_of
note_fits at good = go (good && ltb at place_last) refl
  where
    go : (b : Bool) → (good && ltb at place_last) ≡ b → pick b (at + 1) 0 < 2 ^ 64
    go true e = omega (arith, ltb-true at place_last (and_right good (ltb at place_last) e))
    go false e = omega arith

note_sound : (t : List Record) (at : ℕ) (good : Bool) → First t at → good ≡ is_good (slot_at t at)
    → Noted t (note_of at good)
unfolding note_of
note_sound t at good first is = go (good && ltb at place_last) refl
  where
    go : (b : Bool) → (good && ltb at place_last) ≡ b → Noted t (pick b (at + 1) 0)
    go true e l =
        let there : at ≡ at + 1 - 1 = omega arith in
        subst (λ (i : ℕ). First t i × (is_good (slot_at t i) ≡ true)) there
        (first, sym is ∙ and_left good (ltb at place_last) e)
    go false e l = let z : ⊥ = omega (arith, l) in absurd z

-- ---- the row

-- every entry of a row of zeros is 0
get_d_zeros : (n k : ℕ) → ◌≡◌ {A = ℕ} (get_or (replicate n 0) k 0) 0
get_d_zeros zero k = refl
get_d_zeros (suc n) zero = refl
get_d_zeros (suc n) (suc k) = get_d_zeros n k

pub none_sound : (t : List Record) → Sound t (replicate places_most 0)
none_sound t k l = let z : ⊥ = omega (arith, l, get_d_zeros places_most k) in absurd z

-- a sound note is stored
set_sound : (t : List Record) (ps : List ℕ) (k note : ℕ) → Sound t ps → Noted t note → Sound t (set ps k note)
set_sound t ps k note sound noted j = go (eqb j k) refl (ltb k (length ps)) refl
  where
    go : (a : Bool) → eqb j k ≡ a → (b : Bool) → ltb k (length ps) ≡ b → Noted t (get_or (set ps k note) j 0)
    go true e true l =
        let own : get_or (set ps k note) k 0 ≡ note = get_or-set_same ps k note 0 (ltb-true _ _ l) in
        subst (λ (h : ℕ). Noted t (get_or (set ps k note) h 0)) (sym (eqb-true j k e))
        (subst (λ (i : ℕ). Noted t i) (sym own) noted)
    go true e false l =
        subst (λ (qs : List ℕ). Noted t (get_or qs j 0)) (sym (set_out ps k note (ltb-false _ _ l))) (sound j)
    go false e b l =
        subst (λ (i : ℕ). Noted t i) (sym (get_or-set_other ps k j note 0 (eqb-false j k e))) (sound j)

-- what holds of a table, and of the table after every call on it, holds of it after whatever a line asks for
asked_holds : (P : List Record → Type 0) (asked : Bool) (a : Ask) (rows : List ℤ) (t : List Record) (r : Performed)
    (t' : List Record) → Asks asked a rows t r t' → P t → ((c : Call) → P (step c t).table) → P t'
unfolding Asks
asked_holds P asked ask.Nothing rows t r t' done h k = subst P (sym done) h
asked_holds P asked ask.NoCall rows t r t' done h k = subst P (sym done) h
asked_holds P asked (ask.Call c) rows t r t' done h k = subst P (sym done.promised.table) (k (call_asked c rows))
asked_holds P asked (ask.Interest d) rows t r t' done h k = subst P (sym done) h
asked_holds P asked (ask.Bond b) rows t r t' done h k = subst P (sym done) h

noted_kept : (asked : Bool) (a : Ask) (rows : List ℤ) (t : List Record) (r : Performed) (t' : List Record) (note : ℕ)
    → Asks asked a rows t r t' → Noted t note → Noted t' note
noted_kept asked a rows t r t' note done noted =
    asked_holds (λ (u : List Record). Noted u note) asked a rows t r t' done noted
    (λ c l. (first_kept c t (note - 1) (noted l).0, good_stays c t (note - 1) (noted l).1))

pub noted_sound : (asked : Bool) (a : Ask) (rows : List ℤ) (t : List Record) (r : Performed) (t' : List Record)
    (ps : List ℕ) (k guess : ℕ) (good : Bool) → Sound t ps → First t guess
    → good ≡ is_good (slot_at t (place_near t guess (id_asked a))) → Asks asked a rows t r t'
    → Sound t' (set ps k (note_of (place_near t guess (id_asked a)) good))
noted_sound asked a rows t r t' ps k guess good sound first is done j =
    let at : ℕ = place_near t guess (id_asked a) in
    noted_kept asked a rows t r t' (get_or (set ps k (note_of at good)) j 0) done
    (set_sound t ps k (note_of at good) sound (note_sound t at good (near_first t guess (id_asked a) first) is) j)
