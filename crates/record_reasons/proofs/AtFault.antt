-- What the code finds at fault is what the paper names.
use mathlib.Core.Path.{◌≡◌, refl, sym, ap, ◌∙◌}
use mathlib.Core.Bool.{Bool, true, false, not}
use mathlib.Core.List.{List, [], ◌∷◌, ◌++◌, map}
use Prim.Native.Nat.{ℕ, suc}
use lib.IntN.{ℤ}
use lib.ListN.{get_or}
use denote.Enum.Bare.{false_same}
use Rattle.paper.specs.contracts.Verdict.{the_type}
use Rattle.paper.specs.declared.Record.{Record}
use Rattle.paper.specs.declared.Day.{Day}
use Rattle.paper.specs.declared.Row.{Row}
use Rattle.paper.specs.declared.Limits.{Limits}
use Rattle.paper.specs.declared.Verdict.{Verdict}
use Rattle.paper.specs.declared.Verdict.TheVariants as verdict
use Rattle.paper.specs.Lists.{pick, every}
use Rattle.paper.specs.Ranges.{LentRow, rows_of, row_of, whole_rows, valid_row, valid_term, valid_day, term_at}
use Rattle.paper.specs.Ranges.{no_limits}
use Rattle.paper_desk.specs.Evaluation.{day_rows, is_crossed_row, row_fits}
use Rattle.paper_desk.specs.Limits.{crossed}
use Rattle.paper.specs.Verdicts.{Naming, first_named, first_of}
use Rattle.paper_desk.specs.Desk.{evaluated, evaluate_checks}
use Rattle.paper.proofs.Logic.{not_true_and_false}
use Rattle.paper.proofs.Same.{same_by_number}
use Rattle.record_evaluation.proofs.Evaluations.{day_valid_parts}
use Rattle.std.specs.Option.{option_or}
use Rattle.std.specs.declared.option.Option.{Option}
use Rattle.std.specs.declared.option.Option.TheVariants.{None, Some}
use Rattle.paper_reasons.specs.declared.Fault.{Fault}
use Rattle.paper_reasons.specs.declared.Fault.TheVariants as fault
use Rattle.paper_reasons.specs.Faults.{rows_at_fault, first_row, terms_at_fault, out_of_range, is_same, faults_of, fault_of}
use Rattle.record_reasons.specs.declared.faults.RowFault.TheVariants.{OutOfRange, Crossed, Beyond}
use Rattle.record_reasons.specs.RowFaults.{row_fault, whole_fault, term_fault, fault_with, Refused}

-- every row may be judged in range or crossed
pub every_true : {A : Type 0} (xs : List A) → every (λ x. true) xs ≡ true
unfolding every
every_true [] = refl
every_true (x ∷ xs) = every_true xs

-- rows that are made of others are at fault where those are
made_of : {A B : Type 0} (f : A → B) (number : ℕ) (p : B → Bool) (xs : List A)
    → rows_at_fault number p (map f xs) ≡ rows_at_fault number (λ x. p (f x)) xs
unfolding rows_at_fault
made_of f number p [] = refl
made_of f number p (x ∷ xs) =
    ap (λ (rest : List (Naming (Option Fault))). record { verdict = Some (fault.Row number); applies = p (f x) } ∷ rest)
    (made_of f (suc number) p xs)

-- rows before what stands behind them
rows_before : {A : Type 0} (number : ℕ) (p : A → Bool) (xs : List A) (behind : List (Naming (Option Fault)))
    → first_named None (rows_at_fault number p xs ++ behind)
    ≡ option_or (first_named None (rows_at_fault number p xs)) (first_named None behind)
unfolding rows_at_fault
rows_before number p [] behind = refl
rows_before number p (x ∷ xs) behind = go (p x) (rows_before (suc number) p xs behind)
  where
    go : (b : Bool) → first_named None (rows_at_fault (suc number) p xs ++ behind)
        ≡ option_or (first_named None (rows_at_fault (suc number) p xs)) (first_named None behind)
        → pick b (Some (fault.Row number)) (first_named None (rows_at_fault (suc number) p xs ++ behind))
        ≡ option_or (pick b (Some (fault.Row number)) (first_named None (rows_at_fault (suc number) p xs)))
        (first_named None behind)
    go true e = refl
    go false e = e

-- 6
pub out_of_range_is : (d : Day) (rows : List ℤ) → option_or (whole_fault rows)
    (term_fault (not (valid_term (term_at d.terms 0))) (not (valid_term (term_at d.terms 1)))
    (not (valid_term (term_at d.terms 2))))
    ≡ first_named None (out_of_range d rows)
unfolding out_of_range
out_of_range_is d rows = go (whole_rows rows)
  where
    terms : List (Naming (Option Fault))
    terms = terms_at_fault (λ k. not (valid_term (term_at d.terms k)))

    go : (b : Bool) → option_or (pick b (row_fault OutOfRange (rows_of rows)) None) (first_named None terms)
        ≡ first_named None (pick b (rows_at_fault first_row (λ (row : LentRow). not (valid_row row)) (rows_of rows)) []
        ++ terms)
    go true = sym (rows_before first_row (λ (row : LentRow). not (valid_row row)) (rows_of rows) terms)
    go false = refl

-- with the bands that were made, where 9 is the number, the code names what the paper does
pub fault_with_lem : (v : Verdict) (r : Record) (d : Day) (rows : List ℤ) (bands : List Limits)
    → (is_same v verdict.BandCrossed ≡ true → bands ≡ (evaluated r d rows).bands)
    → fault_with v d rows bands ≡ fault_of v r d rows
unfolding fault_with fault_of faults_of day_rows
fault_with_lem v r d rows bands made =
    go (is_same v verdict.OutOfRange) (is_same v verdict.RowCrossed) (is_same v verdict.PriceOutOfRange)
    (is_same v verdict.BandCrossed) made
  where
    crossed_bands : List Limits → ℕ → Bool
    crossed_bands limits k = crossed (get_or limits k no_limits)

    of_bands : List Limits → Option Fault
    of_bands limits = first_named None (terms_at_fault (crossed_bands limits))

    go : (six sixteen seven nine : Bool) → (nine ≡ true → bands ≡ (evaluated r d rows).bands)
        → pick six (first_named None (out_of_range d rows)) (pick sixteen (row_fault Crossed (rows_of rows))
        (pick seven (row_fault Beyond (rows_of rows)) (pick nine (of_bands bands) None)))
        ≡ first_named None (pick six (out_of_range d rows) (pick sixteen (rows_at_fault first_row is_crossed_row (map
        row_of
        (rows_of rows))) (pick seven (rows_at_fault first_row (λ (row : Row). not (row_fits row)) (map row_of (rows_of rows)))
        (pick nine (terms_at_fault (crossed_bands (evaluated r d rows).bands)) []))))
    go true sixteen seven nine e = refl
    go false true seven nine e = ap (first_named None) (sym (made_of row_of first_row is_crossed_row (rows_of rows)))
    go false false true nine e =
        ap (first_named None) (sym (made_of row_of first_row (λ (row : Row). not (row_fits row)) (rows_of rows)))
    go false false false true e = ap of_bands (e refl)
    go false false false false e = refl

-- two verdicts that differ have two numbers
differ_by_number : (v w : Verdict) → (v ≡ w → ⊥) → is_same v w ≡ false
unfolding is_same
differ_by_number v w f = sym (same_by_number v w) ∙ false_same the_type tt v w f

-- a verdict that is none of 6, 16, 7 and 9 names nothing
pub none_at_fault : (v : Verdict) (d : Day) (rows : List ℤ) (bands : List Limits) → (v ≡ verdict.OutOfRange → ⊥)
    → (v ≡ verdict.RowCrossed → ⊥) → (v ≡ verdict.PriceOutOfRange → ⊥) → (v ≡ verdict.BandCrossed → ⊥)
    → None ≡ fault_with v d rows bands
unfolding fault_with
none_at_fault v d rows bands six sixteen seven nine =
    rw (
      differ_by_number v verdict.OutOfRange six,
      differ_by_number v verdict.RowCrossed sixteen,
      differ_by_number v verdict.PriceOutOfRange seven,
      differ_by_number v verdict.BandCrossed nine,
    )
    refl

-- neither 16 nor 7 is given unless the day is in range
module _ (known : Bool) (r : Record) (d : Day) (rows : List ℤ) where
  valid_before : (w : Verdict) → is_same verdict.NoSuchId w ≡ false → is_same verdict.OutOfRange w ≡ false
      → is_same (first_of (evaluate_checks known r d rows)) w ≡ true → valid_day d rows ≡ true
  unfolding evaluate_checks first_of
  valid_before w no_id out = go known (valid_day d rows) _
    where
      go : (k b : Bool) (rest : Verdict)
          → is_same (pick (not k) verdict.NoSuchId (pick (not b) verdict.OutOfRange rest)) w ≡ true → b ≡ true
      go false b rest e = absurd (not_true_and_false _ e no_id)
      go true false rest e = absurd (not_true_and_false _ e out)
      go true true rest e = refl

  pub refused_rows : Refused (first_of (evaluate_checks known r d rows)) rows
  unfolding is_same
  refused_rows =
      record {
        crossed = λ e. (day_valid_parts d rows (valid_before verdict.RowCrossed refl refl e)).1;
        beyond = λ e. (day_valid_parts d rows (valid_before verdict.PriceOutOfRange refl refl e)).1;
      }
