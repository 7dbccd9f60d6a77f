-- Document 02, W-207: "For a refused evaluation it names the number and the first row, else term, at fault, or none."
use Rattle.std.specs.Prelude.{Bool, not, List, [], ◌∷◌, ◌++◌, ℕ, suc, eqb, ℤ, get_or}
use Rattle.paper.specs.declared.Record.{Record}
use Rattle.paper.specs.declared.Day.{Day}
use Rattle.paper.specs.declared.Row.{Row}
use Rattle.paper.specs.declared.Verdict.{Verdict}
use Rattle.paper.specs.declared.Verdict.TheVariants.{OutOfRange, PriceOutOfRange, BandCrossed, RowCrossed}
use Rattle.paper.specs.Lists.{pick, three}
use Rattle.paper.specs.Ranges.{LentRow, rows_of, whole_rows, valid_row, valid_term, term_at, no_limits}
use Rattle.paper_desk.specs.Evaluation.{day_rows, is_crossed_row, row_fits}
use Rattle.paper_desk.specs.Limits.{crossed}
use Rattle.paper.specs.Verdicts.{number_of, Naming, first_named}
use Rattle.paper_desk.specs.Desk.{evaluated}
use Rattle.std.specs.declared.option.Option.{Option}
use Rattle.std.specs.declared.option.Option.TheVariants.{None, Some}
use Rattle.paper_reasons.specs.declared.Fault.{Fault}
use Rattle.paper_reasons.specs.declared.Fault.TheVariants as fault

-- the rows, counted from a number on, each with whether it is at fault
unfoldable pub rows_at_fault : {A : Type 0} → (number : ℕ) → (at_fault : A → Bool) → List A → List (Naming (Option Fault))
rows_at_fault number at_fault [] = []
rows_at_fault number at_fault (row ∷ rows) =
    record { verdict = Some (fault.Row number); applies = at_fault row } ∷ rows_at_fault (suc number) at_fault rows

-- "Rows count from 1"
abbrev pub first_row : ℕ
first_row = 1

-- "terms are 0, 1, 2"
abbrev pub terms_at_fault : (at_fault : ℕ → Bool) → List (Naming (Option Fault))
terms_at_fault at_fault = three (λ k. record { verdict = Some (fault.Term k); applies = at_fault k })

-- 6: "the first row out of range where the length is a whole number of rows up to 16, else the first term out of range"
unfoldable pub out_of_range : Day → (rows : List ℤ) → List (Naming (Option Fault))
out_of_range d rows =
    pick (whole_rows rows) (rows_at_fault first_row (λ (row : LentRow). not (valid_row row)) (rows_of rows)) []
    ++ terms_at_fault (λ k. not (valid_term (term_at d.terms k)))

-- whether two verdicts have one number
unfoldable pub is_same : (v w : Verdict) → Bool
is_same v w = eqb (number_of v) (number_of w)

-- what may be at fault in a refusal, rows before terms. 16: "the first crossed row"; 7: "the first row whose rounded
-- price or volume does not fit"; 9: "the first crossed term"; "any other number: none"
unfoldable pub faults_of : Verdict → Record → Day → (rows : List ℤ) → List (Naming (Option Fault))
faults_of v r d rows =
    pick (is_same v OutOfRange) (out_of_range d rows)
    (pick (is_same v RowCrossed) (rows_at_fault first_row is_crossed_row (day_rows rows))
    (pick (is_same v PriceOutOfRange) (rows_at_fault first_row (λ (row : Row). not (row_fits row)) (day_rows rows))
    (pick (is_same v BandCrossed) (terms_at_fault (λ k. crossed (get_or (evaluated r d rows).bands k no_limits)))
    [])))

-- "the first row, else term, at fault, or none"
unfoldable pub fault_of : Verdict → Record → Day → (rows : List ℤ) → Option Fault
fault_of v r d rows = first_named None (faults_of v r d rows)
