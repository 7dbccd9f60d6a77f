-- How the rule of an admission judges: the first check that applies refuses, in the order 4, 2, 3, and where none
-- applies the call is accepted.
use mathlib.Core.Path.{◌≡◌, refl}
use mathlib.Core.Bool.{Bool, true, false, ◌&&◌}
use Rattle.paper.specs.declared.Admission.{Admission}
use Rattle.paper.specs.declared.Verdict.TheVariants.{Done, AlreadyAdmitted, NoEmptySlot, AdmissionOutOfRange}
use Rattle.paper.specs.Ranges.{valid_slots, valid_admission, is_price, is_grid_price}
use Rattle.paper.specs.Verdicts.{is_done, first_of}
use Rattle.paper_desk.specs.Desk.{admitted}
use Rattle.paper.proofs.Logic.{and_right, and_left}
use Rattle.record_answers.specs.declared.Slot.{Slot}
use Rattle.record_answers.specs.declared.Replied.TheVariants.{Number}
use Rattle.record_answers.specs.Effects.{holds, refused_effect, judged_effect, admit_checks_of, admit_effect}

module _ (s e : Slot) (a : Admission) where
  pub admission_out : (valid_slots s.count && valid_admission a) ≡ false
      → refused_effect s.count AdmissionOutOfRange ≡ admit_effect s e a
  unfolding admit_effect admit_checks_of judged_effect first_of is_done
  admission_out t = rw t

  -- an admission that is not valid is refused, whatever the number of slots
  pub admission_invalid : (valid_admission a ≡ true → ⊥) → refused_effect s.count AdmissionOutOfRange
      ≡ admit_effect s e a
  admission_invalid n = admission_out (go (valid_slots s.count) (valid_admission a) n)
    where
      go : (slots valid : Bool) → (valid ≡ true → ⊥) → (slots && valid) ≡ false
      go slots true k = absurd (k refl)
      go true false k = refl
      go false false k = refl

  module _ (valid : (valid_slots s.count && valid_admission a) ≡ true) where
    pub admission_again : holds s ≡ true → refused_effect s.count AlreadyAdmitted ≡ admit_effect s e a
    unfolding admit_effect admit_checks_of judged_effect first_of is_done
    admission_again t = rw (valid, t)

    pub admission_full : holds s ≡ false → holds e ≡ false → refused_effect s.count NoEmptySlot ≡ admit_effect s e a
    unfolding admit_effect admit_checks_of judged_effect first_of is_done
    admission_full new t = rw (valid, new, t)

    pub admission_accepted : holds s ≡ false → holds e ≡ true
        → record { at = e.at; rec = admitted a; replied = Number Done } ≡ admit_effect s e a
    unfolding admit_effect admit_checks_of judged_effect first_of is_done
    admission_accepted new t = rw (valid, new, t)

pub admission_prices_valid : (a : Admission) → valid_admission a ≡ true → (is_price a.p1 ≡ true)
    × (is_price a.p2 ≡ true)
unfolding valid_admission is_grid_price
admission_prices_valid a v = (search (v, and_left, and_right) depth 40, search (v, and_left, and_right) depth 40)
