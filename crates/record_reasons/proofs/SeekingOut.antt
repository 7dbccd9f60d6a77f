-- The walk for the first number out of its range: what it keeps at a place, and what each turn makes of that.
use mathlib.Core.Path.{◌≡◌, refl, sym, ◌∙◌}
use mathlib.Core.Bool.{true, false}
use mathlib.Core.List.{List, [], ◌∷◌}
use Prim.Native.Nat.{ℕ, suc, ◌+◌, ◌≤◌, ◌<◌}
use native.Mathlib.Omega.{arith}
use native.Mathlib.Numerals.{add-one}
use lib.ListN.{length, drop, drop_of_length-le}
use lib.Seq.{drop-cons}
use Rattle.paper.specs.declared.Admission.{Admission}
use Rattle.paper.specs.Lists.{pick}
use Rattle.paper.specs.Ranges.{admission_numbers}
use Rattle.paper.specs.Verdicts.{first_named}
use Rattle.paper.proofs.StaticsFacts.{row_facts}
use Rattle.std.specs.declared.option.Option.{Option}
use Rattle.std.specs.declared.option.Option.TheVariants.{None, Some}
use Rattle.paper_reasons.specs.AdmissionFaults.{admission_table, out_of_table, unfit, first_place, fields_at_fault}
use Rattle.paper_reasons.specs.AdmissionFaults.{field_at_fault}
use Rattle.paper_reasons.proofs.AdmissionFaults.{unnamed_in_table, table_before, table_passed}
use Rattle.record_reasons.specs.FirstOut.{out_at, first_out}

-- at a place: the numbers that are left decide for all
pub record SeekingOut (least most numbers : List ℕ) (at place : ℕ) : Type 0 where
  pub counts : place ≡ at + 1
  pub high : at ≤ length numbers
  pub names : first_out place (drop at least) (drop at most) (drop at numbers) ≡ first_out 1 least most numbers

pub seeking_first : (least most numbers : List ℕ) → SeekingOut least most numbers 0 1
seeking_first least most numbers = record { counts = refl; high = omega arith; names = refl }

nothing_left : (place : ℕ) (least most : List ℕ) → first_out place least most [] ≡ None
unfolding first_out
nothing_left place [] most = refl
nothing_left place (l ∷ ls) [] = refl
nothing_left place (l ∷ ls) (m ∷ ms) = refl

pub seeking_end : (least most numbers : List ℕ) (at place : ℕ) → SeekingOut least most numbers at place
    → length numbers ≤ at → None ≡ first_out 1 least most numbers
seeking_end least most numbers at place s h =
    sym (rw (drop_of_length-le numbers h) (nothing_left place (drop at least) (drop at most))) ∙ s.names

module _ (least most numbers : List ℕ) (same : (length least ≡ length numbers) × (length most ≡ length numbers)) where
  module _ (at place : ℕ) (s : SeekingOut least most numbers at place) (h : at < length numbers) where
    -- the number at hand, or those behind it
    turn : pick (out_at least most numbers at) (Some place)
        (first_out (suc place) (drop (suc at) least) (drop (suc at) most) (drop (suc at) numbers))
        ≡ first_out 1 least most numbers
    unfolding first_out
    turn =
        rw (
          drop-cons least at 0 (omega (arith, same.0)),
          drop-cons most at 0 (omega (arith, same.1)),
          drop-cons numbers at 0 h,
        ) at s.names

    pub seeking_found : out_at least most numbers at ≡ true
        → Some place ≡ first_out 1 least most numbers
    seeking_found e = rw e at turn

    pub seeking_next : out_at least most numbers at ≡ false
        → SeekingOut least most numbers (at + 1) (place + 1)
    seeking_next e =
        record {
          counts = omega (arith, s.counts);
          high = omega arith;
          names = rw (add-one at, add-one place) (rw e at turn);
        }

-- ---- the table of an admission, and what stands behind it

module _ (a : Admission) (out : Option ℕ)
    (is : out ≡ first_named None (out_of_table first_place admission_table (admission_numbers a))) where
  -- where the table names none, the step is above 0
  pub step_positive : out ≡ None → 0 < a.given.h
  step_positive e =
      let all = unnamed_in_table first_place admission_table (admission_numbers a) (sym is ∙ e) in
      (row_facts admission_table (admission_numbers a) all 7 (omega arith)).least

  pub table_named : (place : ℕ) → out ≡ Some place → Some place ≡ field_at_fault a
  unfolding field_at_fault fields_at_fault
  table_named place e =
      sym (table_before (unfit a a.given) first_place admission_table (admission_numbers a) place (sym is ∙ e))

  pub table_passed_by : (behind : Option ℕ) → out ≡ None
      → behind ≡ first_named None (unfit a a.given) → behind ≡ field_at_fault a
  unfolding field_at_fault fields_at_fault
  table_passed_by behind e b =
      b ∙ sym (table_passed (unfit a a.given) first_place admission_table (admission_numbers a) (sym is ∙ e))
