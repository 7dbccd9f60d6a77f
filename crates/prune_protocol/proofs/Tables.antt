-- The table: the slots of two desks, alike but for what later lines write anew.
use mathlib.Core.Path.{◌≡◌, refl, sym, ap, subst, ◌∙◌}
use mathlib.Core.Logic.{◌≢◌}
use mathlib.Core.Bool.{Bool, true, false, not, ◌&&◌}
use mathlib.Core.List.{List, [], ◌∷◌}
use Prim.Native.Nat.{ℕ, zero, suc, ◌<◌}
use native.Mathlib.Omega.{arith}
use lib.Dec.{leb, ltb, eqb}
use lib.ListN.{length, get_or, set, length-set}
use lib.Seq.{get_or-set_same, get_or-set_other, ext_get_or}
use borrow.Author.Tests.{eqb-true, eqb-false, ne_eqb, ltb-true, leb-true, lt-ltb}
use Rattle.paper.specs.declared.Record.{Record}
use Rattle.paper.specs.declared.Admission.{Admission}
use Rattle.paper.specs.Numbers.{id_most}
use Rattle.paper.specs.Ranges.{within, valid_slots, valid_admission, sound}
use Rattle.paper.specs.Verdicts.{Check, NoneApplies, also}
use Rattle.paper_desk.specs.Desk.{Ask, evaluating, quoting, moving, reading, opening, receiving, Call, admit, about, blank, admitted, place, stands, found, known, rule_of}
use Rattle.paper_desk.specs.Desk.{checks_of, admit_checks, accepted_of, step}
use Rattle.paper_desk.specs.Kept.{good, every_slot}
use Rattle.paper_desk.proofs.Slots.{found_id, place_other, place_written, known_stands, known_sound}
use Rattle.paper_desk.proofs.Rules.{rule_holds}
use Rattle.paper_desk.proofs.Others.{holds_after_step}
use Rattle.paper.proofs.Logic.{not_true_and_false, and_left, and_both, not_false}
use Rattle.paper_kept.proofs.Sound.{sound_has_parts, admitted_id_in_range}
use Rattle.paper_kept.proofs.Good.{good_sound}
use Rattle.demands.proofs.Kept.{slot_passes}
use Rattle.journal_protocol.specs.Lines.{reads_only}
use Rattle.prune_protocol.specs.Pruning.{other, ask_part, part_of}
use Rattle.prune_protocol.specs.Pruning.{evaluated_in, writes_bid, writes_ask, replaced_in, part_matters}
use Rattle.prune_protocol.proofs.Records.{Alike, alike_self, alike_same, AlikeFor, Elsewhere, line_passes, KeptAsk, ask_kept}
use Rattle.prune_protocol.proofs.Records.{ask_left}

-- ---- each id stands in one slot

pub record Own (t : List Record) : Type 0 where
  pub at : (k : ℕ) → (get_or t k blank).id ≢ 0 → place t (get_or t k blank).id ≡ k

-- past the end of a table nothing stands
past_end : (t : List Record) (k : ℕ) → (get_or t k blank).id ≢ 0 → k < length t
unfolding blank
past_end [] k n = absurd (n refl)
past_end (r ∷ t) zero n = omega arith
past_end (r ∷ t) (suc k) n = omega (arith, past_end t k n)

-- a record that is stored in the first slot with an id, and has that id or one that stands nowhere
own_stored : (t : List Record) (i : ℕ) (x : Record) → Own t → stands t i ≡ true
    → ((x.id ≡ i → ⊥) → stands t x.id ≡ false) → Own (set t (place t i) x)
unfolding stands
own_stored t i x o there new = record { at = λ k n. go k (eqb k (place t i)) refl n }
  where
    go : (k : ℕ) (b : Bool) → eqb k (place t i) ≡ b → (get_or (set t (place t i) x) k blank).id ≢ 0
        → place (set t (place t i) x) (get_or (set t (place t i) x) k blank).id ≡ k
    go k true e n =
        let at : k ≡ place t i = eqb-true k (place t i) e in
        let here : get_or (set t (place t i) x) k blank ≡ x =
        ap (λ (j : ℕ). get_or (set t (place t i) x) j blank) at
        ∙ get_or-set_same t (place t i) x blank (ltb-true _ _ there) in
        ap (λ (r : Record). place (set t (place t i) x) r.id) here ∙ place_written i x t there new ∙ sym at
    go k false e n =
        ap (λ (r : Record). place (set t (place t i) x) r.id) same
        ∙ place_other i x t (get_or t k blank).id not_i not_new
        ∙ o.at k full
      where
        same : get_or (set t (place t i) x) k blank ≡ get_or t k blank
        same = get_or-set_other t (place t i) k x blank (eqb-false k (place t i) e)

        full : (get_or t k blank).id ≢ 0
        full w = n (ap (λ (r : Record). r.id) same ∙ w)

        not_i : (get_or t k blank).id ≢ i
        not_i w = eqb-false k (place t i) e (sym (o.at k full) ∙ ap (place t) w)

        not_new : (get_or t k blank).id ≢ x.id
        not_new w =
            let stood : ltb (place t (get_or t k blank).id) (length t) ≡ true =
            lt-ltb (place t (get_or t k blank).id) (length t) (omega (arith, o.at k full, past_end t k full)) in
            not_true_and_false (ltb (place t (get_or t k blank).id) (length t)) stood
            (ap (λ (j : ℕ). ltb (place t j) (length t)) w ∙ new (λ v. not_i (w ∙ v)))

admits_full : (a : Admission) → valid_admission a ≡ true → a.id ≢ 0
admits_full a v w =
    omega (arith, w, leb-true 1 a.id (and_left (leb 1 a.id) (leb a.id id_most) (admitted_id_in_range a v)))

-- EVERY CALL KEEPS IT
pub own_kept : (c : Call) (t : List Record) → Own t → Own (step c t).table
unfolding accepted_of checks_of admit_checks admitted
own_kept c t o = holds_after_step Own c t o (λ _ n. accepted c n)
  where
    accepted : (c : Call) → NoneApplies (checks_of c t) → Own (accepted_of c t).table
    accepted (admit a) (also v (also twice (also room rest))) =
        own_stored t 0 (admitted a) o (not_false _ room) (λ _. twice)
    accepted (about i x) (also q n) =
        let there : stands t i ≡ true = known_stands t i (not_false (known t i) q) in
        let mine : ((rule_of x).made (found t i)).id ≡ i = (rule_holds x).id (found t i) ∙ found_id t i there in
        own_stored t i ((rule_of x).made (found t i)) o there (λ w. absurd (w mine))

-- ---- two tables

-- THEIR SLOTS ARE ALIKE but for what lines write anew
pub record Tables (ls : List (List ℕ)) (t u : List Record) : Type 0 where
  pub size : length u ≡ length t
  pub slots : (k : ℕ) → AlikeFor ls (get_or t k blank) (get_or u k blank)

place_by_ids : (t u : List Record) → length u ≡ length t
    → ((k : ℕ) → (get_or u k blank).id ≡ (get_or t k blank).id) → (id : ℕ) → place u id ≡ place t id
unfolding place
place_by_ids [] [] n h id = refl
place_by_ids [] (s ∷ u) n h id = absurd (omega arith)
place_by_ids (r ∷ t) [] n h id = absurd (omega arith)
place_by_ids (r ∷ t) (s ∷ u) n h id =
    let first : s.id ≡ r.id = h 0 in
    rw (first, place_by_ids t u (omega arith) (λ k. h (suc k)) id)

module _ (ls : List (List ℕ)) (t u : List Record) (k : Tables ls t u) where
  same_id : (n : ℕ) → (get_or u n blank).id ≡ (get_or t n blank).id
  same_id n = ap (λ (r : Record). r.id) (k.slots n).is

  pub same_place : (id : ℕ) → place u id ≡ place t id
  same_place id = place_by_ids t u k.size same_id id

  pub same_stands : (id : ℕ) → stands u id ≡ stands t id
  unfolding stands
  same_stands id = rw (same_place id, k.size)

  pub found_alike : (id : ℕ) → AlikeFor ls (found t id) (found u id)
  unfolding found
  found_alike id = rw (same_place id) (k.slots (place t id))

  -- no record is damaged, so that what is known to one is known to the other
  pub same_known : (id : ℕ) → every_slot good u ≡ true → known t id ≡ true → known u id ≡ true
  unfolding known
  same_known id g e =
      let there : stands u id ≡ true = same_stands id ∙ known_stands t id e in
      let slots : valid_slots (length u) ≡ true =
      ap valid_slots k.size ∙ and_left (valid_slots (length t)) (stands t id)
      (and_left (valid_slots (length t) && stands t id) _ e) in
      let full : within 1 id_most (found u id).id ≡ true =
      ap (λ (r : Record). within 1 id_most r.id) (found_alike id).is
      ∙ (sound_has_parts (found t id) (known_sound t id e)).id in
      and_both (valid_slots (length u) && stands u id) (sound (found u id)) (and_both _ _ slots there)
      (good_sound (found u id) (slot_passes good u id g there full))

-- ---- a call about a security

-- the slots after a record is stored in one of them
stored_alike : (ls : List (List ℕ)) (t v : List Record) (p : ℕ) (x : Record) → p < length t
    → AlikeFor ls x (get_or v p blank)
    → ((k : ℕ) → k ≢ p → AlikeFor ls (get_or t k blank) (get_or v k blank))
    → (k : ℕ) → AlikeFor ls (get_or (set t p x) k blank) (get_or v k blank)
stored_alike ls t v p x h new rest k = go (eqb k p) refl
  where
    go : (b : Bool) → eqb k p ≡ b → AlikeFor ls (get_or (set t p x) k blank) (get_or v k blank)
    go true e =
        rw (eqb-true k p e)
        (subst (λ (r : Record). AlikeFor ls r (get_or v p blank)) (sym (get_or-set_same t p x blank h)) new)
    go false e =
        subst (λ (r : Record). AlikeFor ls r (get_or v k blank))
        (sym (get_or-set_other t p k x blank (eqb-false k p e))) (rest k (eqb-false k p e))

elsewhere_ask : (i id : ℕ) (x : Ask) → eqb i id ≡ false → Elsewhere (ask_part i x) id
unfolding ask_part
elsewhere_ask i id (evaluating d rows) e = e
elsewhere_ask i id (quoting q) e = tt
elsewhere_ask i id (moving side) e = tt
elsewhere_ask i id reading e = tt
elsewhere_ask i id opening e = tt
elsewhere_ask i id (receiving x) e = e

module _ (l : List ℕ) (ls : List (List ℕ)) (i : ℕ) (x : Ask) (says : part_of l ≡ ask_part i x) (t u : List Record)
    (o : Own t) (k : Tables (l ∷ ls) t u) (there : known t i ≡ true) where
  abbrev r : Record
  r = found t i

  abbrev s : Record
  s = found u i

  inside : place t i < length t
  unfolding stands
  inside = ltb-true (place t i) (length t) (known_stands t i there)

  mine : r.id ≡ i
  mine = found_id t i (known_stands t i there)

  says_of : part_of l ≡ ask_part r.id x
  says_of = rw mine says

  full : i ≢ 0
  full w =
      let low : leb 1 r.id ≡ true =
      and_left (leb 1 r.id) (leb r.id id_most) (sound_has_parts r (known_sound t i there)).id in
      omega (arith, leb-true 1 r.id low, mine, w)

  -- every other slot has another id
  others : (n : ℕ) → n ≢ place t i → AlikeFor ls (get_or t n blank) (get_or u n blank)
  others n d =
      line_passes l ls (get_or t n blank) (get_or u n blank)
      (rw says (elsewhere_ask i (get_or t n blank).id x (ne_eqb i (get_or t n blank).id differs))) (k.slots n)
    where
      differs : i ≡ (get_or t n blank).id → ⊥
      differs w =
          let own : place t (get_or t n blank).id ≡ n = o.at n (λ z. full (w ∙ z)) in
          d (sym own ∙ ap (place t) (sym w))

  at_made : (z : Record)
      → Alike (evaluated_in r.id ls) (replaced_in writes_bid r.id ls) (replaced_in writes_ask r.id ls)
      ((rule_of x).made r) z → AlikeFor ls ((rule_of x).made r) z
  at_made z a =
      subst
      (λ (id : ℕ). Alike (evaluated_in id ls) (replaced_in writes_bid id ls) (replaced_in writes_ask id ls)
      ((rule_of x).made r) z) (sym ((rule_holds x).id r)) a

  -- THE LINE MATTERS: the call is accepted on the other table too, and leaves tables that are alike
  made_kept : part_matters (part_of l) ls ≡ true → reads_only x ≡ false
      → KeptAsk x (evaluated_in r.id ls) (replaced_in writes_bid r.id ls) (replaced_in writes_ask r.id ls) r s
  made_kept m c = ask_kept l ls x r s says_of m c (found_alike (l ∷ ls) t u k i)

  pub about_checks : every_slot good u ≡ true → part_matters (part_of l) ls ≡ true → reads_only x ≡ false
      → NoneApplies (checks_of (about i x) t) → NoneApplies (checks_of (about i x) u)
  unfolding checks_of
  about_checks g m c (also q n) =
      also (ap not (same_known (l ∷ ls) t u k i g there))
      (subst (λ (cs : List Check). NoneApplies cs) (sym (made_kept m c).checks) n)

  pub about_kept : part_matters (part_of l) ls ≡ true → reads_only x ≡ false
      → Tables ls (accepted_of (about i x) t).table (accepted_of (about i x) u).table
  unfolding accepted_of
  about_kept m c =
      subst (λ (p : ℕ). Tables ls (set t (place t i) ((rule_of x).made r)) (set u p ((rule_of x).made s)))
      (sym (same_place (l ∷ ls) t u k i))
      (record {
        size = length-set u _ _ ∙ k.size ∙ sym (length-set t _ _);
        slots =
            stored_alike ls t (set u (place t i) ((rule_of x).made s)) (place t i) ((rule_of x).made r) inside
            (subst (λ (z : Record). AlikeFor ls ((rule_of x).made r) z)
            (sym (get_or-set_same u (place t i) ((rule_of x).made s) blank (rw k.size inside)))
            (at_made ((rule_of x).made s) (made_kept m c).made))
            (λ n d. subst (λ (z : Record). AlikeFor ls (get_or t n blank) z)
            (sym (get_or-set_other u (place t i) n ((rule_of x).made s) blank d)) (others n d));
      })

  -- IT DOES NOT MATTER, and is left out
  pub about_left : part_matters (part_of l) ls ≡ false → Tables ls (accepted_of (about i x) t).table u
  unfolding accepted_of found
  about_left m =
      record {
        size = k.size ∙ sym (length-set t _ _);
        slots =
            stored_alike ls t u (place t i) ((rule_of x).made r) inside
            (subst (λ (p : ℕ). AlikeFor ls ((rule_of x).made r) (get_or u p blank)) (same_place (l ∷ ls) t u k i)
            (at_made s (ask_left l ls x r s says_of m (found_alike (l ∷ ls) t u k i))))
            others;
      }

-- ---- a line of no security

pub line_of_none : (l : List ℕ) (ls : List (List ℕ)) → ((id : ℕ) → Elsewhere (part_of l) id) → (t u : List Record)
    → Tables (l ∷ ls) t u → Tables ls t u
line_of_none l ls h t u k =
    record {
      size = k.size;
      slots = λ n. line_passes l ls (get_or t n blank) (get_or u n blank) (h (get_or t n blank).id) (k.slots n);
    }

-- ---- an admission

module _ (l : List ℕ) (ls : List (List ℕ)) (a : Admission) (says : part_of l ≡ other) (t u : List Record)
    (k : Tables (l ∷ ls) t u) where
  pub admit_checks_lem : NoneApplies (checks_of (admit a) t) → NoneApplies (checks_of (admit a) u)
  unfolding checks_of admit_checks
  admit_checks_lem n = rw (k.size, same_stands (l ∷ ls) t u k a.id, same_stands (l ∷ ls) t u k 0) n

  pub admit_kept : NoneApplies (checks_of (admit a) t)
      → Tables ls (accepted_of (admit a) t).table (accepted_of (admit a) u).table
  unfolding accepted_of checks_of admit_checks stands
  admit_kept (also v (also twice (also room rest))) =
      let inside : place t 0 < length t = ltb-true (place t 0) (length t) (not_false _ room) in
      subst (λ (p : ℕ). Tables ls (set t (place t 0) (admitted a)) (set u p (admitted a)))
      (sym (same_place (l ∷ ls) t u k 0))
      (record {
        size = length-set u _ _ ∙ k.size ∙ sym (length-set t _ _);
        slots =
            stored_alike ls t (set u (place t 0) (admitted a)) (place t 0) (admitted a) inside
            (subst (λ (z : Record). AlikeFor ls (admitted a) z)
            (sym (get_or-set_same u (place t 0) (admitted a) blank (rw k.size inside)))
            (alike_self _ _ _ (admitted a)))
            (λ n d. subst (λ (z : Record). AlikeFor ls (get_or t n blank) z)
            (sym (get_or-set_other u (place t 0) n (admitted a) blank d)) ((line_of_none l ls (λ id. rw says tt) t u k).slots n));
      })

-- ---- behind all lines

pub tables_same : (t u : List Record) → Tables [] t u → u ≡ t
unfolding evaluated_in replaced_in
tables_same t u k =
    ext_get_or blank u t k.size (λ n _. alike_same (get_or t n blank) (get_or u n blank) (k.slots n))
