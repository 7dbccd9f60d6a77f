-- `fields::field_at_fault` meets its contract: the table is the paper's, and what it names comes before what does not go
-- together.
use mathlib.Core.Path.{◌≡◌}
use Rattle.paper.specs.declared.Admission.{Admission}
use Rattle.paper.specs.Ranges.{admission_numbers}
use Rattle.paper.specs.Verdicts.{first_named}
use Rattle.std.specs.declared.option.Option.TheVariants.{None}
use Rattle.paper_reasons.specs.AdmissionFaults.{admission_table, out_of_table, first_place}
use Rattle.record_reasons.specs.FirstOut.{first_out}
use Rattle.record_reasons.proofs.SeekingOut.{step_positive, table_named, table_passed_by}
use Rattle.record_reasons.proofs.fields.field_at_fault.Goals as goal
use Rattle.record_reasons.proofs.fields.field_at_fault.Goals.{After-first_out-out}

-- the admission, of the stage that has what is found
abbrev given : After-first_out-out → Admission
given c = c.before.before.before.before.before.before.before.args.a

-- what is found is what the table names
out_is : (c : After-first_out-out) → c.first_out-out.result
    ≡ first_named None (out_of_table first_place admission_table (admission_numbers (given c)))
unfolding first_out
out_is c =
    let most = c.before.before.before.before in
    let least = most.before in
    let numbers = least.before in
    rw (numbers.numbers_of-numbers.ensures, least.numbers_of-least.ensures, most.numbers_of-most.ensures) at c.first_out-out.ensures

pub first_unfit-requires : goal.first_unfit-requires
first_unfit-requires c =
    step_positive (given (goal.at.first_unfit-requires c).After-first_out-out) _ (out_is (goal.at.first_unfit-requires c).After-first_out-out) c.in-None.is

pub returns-in-None : goal.returns-in-None
returns-in-None c =
    table_passed_by (given (goal.at.returns-in-None c).After-first_out-out) _ (out_is (goal.at.returns-in-None c).After-first_out-out) _ c.in-None.is c.first_unfit.ensures

pub returns-in-Some : goal.returns-in-Some
returns-in-Some c =
    table_named (given (goal.at.returns-in-Some c).After-first_out-out) _ (out_is (goal.at.returns-in-Some c).After-first_out-out) _ c.in-Some.is
