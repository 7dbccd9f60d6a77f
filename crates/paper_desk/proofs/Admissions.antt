-- No version of the definitions that refuses everything meets these laws: every admission in range is accepted by every
-- fresh table that has a slot, and its record is sound, so that no later call takes it for no such id.
-- It may use every definition of document 01, and the laws of Slots and Refusals.
use mathlib.Core.Path.{◌≡◌, refl, ap}
use mathlib.Core.Bool.{Bool, true, false, not, ◌&&◌}
use mathlib.Core.List.{List, [], ◌∷◌}
use Prim.Native.Nat.{ℕ, suc, ◌%◌}
use native.Mathlib.Omega.{arith}
use lib.Dec.{leb, eqb}
use lib.ListN.{length, length-set}
use borrow.Author.Tests.{leb-true, le-leb, lt-ltb}
use Rattle.paper.specs.declared.Statics.{Statics}
use Rattle.paper.specs.declared.Admission.{Admission}
use Rattle.paper.specs.declared.Record.{Record}
use Rattle.paper.specs.declared.Verdict.TheVariants.{Done}
use Rattle.paper.specs.Lists.{pick, every}
use Rattle.paper.specs.Numbers.{id_most, rate_most}
use Rattle.paper.specs.Ranges.{within, grid_of, is_rate, is_limit, valid_limits, no_limits, valid_statics, valid_given}
use Rattle.paper.specs.Ranges.{valid_figures, valid_admission, valid_term, valid_near, valid_near_seconds, valid_session}
use Rattle.paper.specs.Ranges.{valid_external, statics_of, last_day, sound, valid_slots}
use Rattle.paper_desk.specs.Rates.{minimum_of}
use Rattle.paper.specs.Verdicts.{number_of, is_done, first_of, NoneApplies, none, also}
use Rattle.paper_desk.specs.Desk.{admitted, stands, place, known, fresh, admit, checks_of, admit_checks, accepted_of}
use Rattle.paper_desk.specs.Desk.{step}
use Rattle.paper.proofs.Logic.{not_true_and_false, and_left, and_right, and_both}
use Rattle.paper.proofs.StaticsFacts.{statics_facts}
use Rattle.paper_desk.proofs.Slots.{fresh_empty, stands_written, found_written}
use Rattle.paper_desk.proofs.Refusals.{none_applies_gives_done, accepted_step, accepted_always}

-- the limits 0 are on every grid
no_limits_valid : (lot : ℕ) → valid_limits (grid_of lot) no_limits ≡ true
unfolding valid_limits is_limit grid_of
no_limits_valid lot = go (leb lot 1) (leb lot 10)
  where
    go : (a b : Bool)
        → (eqb (0 % pick a 100 (pick b 10 1)) 0 && eqb (0 % pick a 100 (pick b 10 1)) 0) ≡ true
    go true b = refl
    go false true = refl
    go false false = refl

-- the minima are rates
record Minima (st : Statics) : Type 0 where
  first : leb st.min1 rate_most ≡ true
  second : leb st.min2 rate_most ≡ true
  third : leb st.min3 rate_most ≡ true

minima : (st : Statics) → valid_statics st ≡ true → Minima st
minima st v =
    let known = statics_facts st v in
    record {
      first =
          le-leb st.min1 rate_most (omega (arith, known.min1_min2, known.min2_min3, known.min3_smax, known.smax));
      second = le-leb st.min2 rate_most (omega (arith, known.min2_min3, known.min3_smax, known.smax));
      third = le-leb st.min3 rate_most (omega (arith, known.min3_smax, known.smax));
    }

-- what an admission in range gives is a sound record
pub admitted_sound : (a : Admission) → valid_admission a ≡ true → sound (admitted a) ≡ true
unfolding valid_admission valid_given sound admitted statics_of is_rate minimum_of last_day valid_term valid_near_seconds
    valid_near valid_session valid_external
admitted_sound a v =
    let statics : valid_statics (statics_of a.given) ≡ true = search (v, and_left, and_right) depth 40 in
    let m : Minima (statics_of a.given) = minima (statics_of a.given) statics in
    let id : within 1 id_most a.id ≡ true = search (v, and_left, and_right) depth 40 in
    let figures : valid_figures (statics_of a.given) a.day a.p1 a.p2 a.s a.tentative ≡ true =
    and_right (within 1 id_most a.id && valid_given a.given) _ v in
    let l : valid_limits (grid_of a.given.lot) no_limits ≡ true = no_limits_valid a.given.lot in
    let limits = and_both _ _ (and_both _ _ l l) l in
    let rates = and_both _ _ (and_both _ _ m.first m.second) m.third in
    let tentative = and_both _ _ (and_both _ _ (and_both _ _ id statics) figures) refl in
    let bands = and_both _ _ (and_both _ _ (and_both _ _ (and_both _ _ tentative rates) limits) refl) limits in
    let counts = and_both _ _ (and_both _ _ (and_both _ _ bands refl) refl) refl in
    and_both _ _ (and_both _ _ (and_both _ _ counts refl) refl) refl

-- ---- on a fresh table

-- its first slot is empty
first_empty : (t : List Record) → valid_slots (length t) ≡ true → fresh t ≡ true → stands t 0 ≡ true
unfolding valid_slots stands place fresh every
first_empty [] slots f = absurd (not_true_and_false false slots refl)
first_empty (r ∷ t) slots f =
    let empty : eqb r.id 0 ≡ true = and_left (eqb r.id 0) _ f in
    rw empty (lt-ltb 0 (suc (length t)) (omega arith))

module _ (a : Admission) (t : List Record) (f : fresh t ≡ true) (slots : valid_slots (length t) ≡ true)
    (v : valid_admission a ≡ true) where
  absent : stands t a.id ≡ false
  unfolding valid_admission
  absent =
      let positive : leb 1 a.id ≡ true = search (v, and_left, and_right) depth 40 in
      fresh_empty t a.id (λ (e : a.id ≡ 0). omega (arith, leb-true 1 a.id positive)) f

  no_check_applies : NoneApplies (checks_of (admit a) t)
  unfolding checks_of admit_checks
  no_check_applies =
      also (ap not (and_both (valid_slots (length t)) (valid_admission a) slots v))
      (also absent (also (ap not (first_empty t slots f)) none))

  -- an admission in range is accepted
  pub admission_accepted : number_of (step (admit a) t).answer.verdict ≡ 0
  admission_accepted = ap number_of (accepted_always (admit a) t no_check_applies)

  -- and the security is known from then on
  pub admitted_known : known (step (admit a) t).table a.id ≡ true
  unfolding known accepted_of admitted is_done
  admitted_known =
      let done : first_of (checks_of (admit a) t) ≡ Done = none_applies_gives_done
      (checks_of (admit a) t) no_check_applies in
      let after : step (admit a) t ≡ accepted_of (admit a) t = accepted_step (admit a) t (ap is_done done) in
      let there = stands_written 0 (admitted a) t (first_empty t slots f) (λ _. absent) in
      let mine = found_written 0 (admitted a) t (first_empty t slots f) (λ _. absent) in
      rw (after, length-set t (place t 0) (admitted a), slots, there, mine) (admitted_sound a v)
