-- What the rule of every ask keeps to, with a clause an ask here alone: the laws over all calls cite it.
use mathlib.Core.Path.{◌≡◌, refl}
use mathlib.Core.Bool.{true, not}
use mathlib.Core.List.{List}
use Rattle.std.specs.declared.option.Option.{Option}
use Rattle.std.specs.declared.option.Option.TheVariants.{None, Some}
use lib.Dec.{eqb}
use lib.IntN.{ℤ}
use Rattle.paper.specs.declared.Record.{Record}
use Rattle.paper.specs.declared.Day.{Day}
use Rattle.paper.specs.declared.Verdict.TheVariants.{Done}
use Rattle.paper.specs.Lists.{every}
use Rattle.paper.specs.Verdicts.{number_of, is_done, Check, all_refusals}
use Rattle.paper_desk.specs.Desk.{Ask, evaluating, quoting, moving, reading, opening, receiving, showing}
use Rattle.paper_desk.specs.Desk.{alerting, alerts_on, evaluated, quoted, moved, evening_opened, received, Reply}
use Rattle.paper_desk.specs.Desk.{the_record, the_alerts, reply_on, rule_of}
use Rattle.paper_desk.specs.Sequences.{kept_then}

-- nothing but an evaluation evaluates a day
abbrev pub OnlyEvaluation : Ask → Option (Day × List ℤ) → Type 0
OnlyEvaluation x None = Unit {0}
OnlyEvaluation x (Some (d, rows)) = x ≡ evaluating d rows

pub record RuleHolds (x : Ask) : Type 0 where
  -- behind 1 every check refuses, and by another number
  pub refusals : (r : Record) → all_refusals ((rule_of x).checks r) ≡ true
  pub others : (r : Record) → every (λ (c : Check). not (eqb (number_of c.verdict) 1)) ((rule_of x).checks r) ≡ true
  -- the record that it makes has the id of the one found
  pub id : (r : Record) → ((rule_of x).made r).id ≡ r.id
  -- and the session and the outside prices that the rule leaves
  pub session : (r : Record) → ((rule_of x).made r).session ≡ (rule_of x).session r.session
  pub external : (r : Record) → ((rule_of x).made r).external ≡ kept_then (rule_of x).receives r.external
  pub evaluation : OnlyEvaluation x (rule_of x).evaluates

pub rule_holds : (x : Ask) → RuleHolds x
unfolding all_refusals every is_done evaluated quoted moved evening_opened received
rule_holds (evaluating d rows) =
    record {
      refusals = λ r. refl;
      others = λ r. refl;
      id = λ r. refl;
      session = λ r. refl;
      external = λ r. refl;
      evaluation = refl;
    }
rule_holds (quoting q) =
    record {
      refusals = λ r. refl;
      others = λ r. refl;
      id = λ r. refl;
      session = λ r. refl;
      external = λ r. refl;
      evaluation = tt;
    }
rule_holds (moving side) =
    record {
      refusals = λ r. refl;
      others = λ r. refl;
      id = λ r. refl;
      session = λ r. refl;
      external = λ r. refl;
      evaluation = tt;
    }
rule_holds reading =
    record {
      refusals = λ r. refl;
      others = λ r. refl;
      id = λ r. refl;
      session = λ r. refl;
      external = λ r. refl;
      evaluation = tt;
    }
rule_holds opening =
    record {
      refusals = λ r. refl;
      others = λ r. refl;
      id = λ r. refl;
      session = λ r. refl;
      external = λ r. refl;
      evaluation = tt;
    }
rule_holds (receiving x) =
    record {
      refusals = λ r. refl;
      others = λ r. refl;
      id = λ r. refl;
      session = λ r. refl;
      external = λ r. refl;
      evaluation = tt;
    }

-- what is accepted answers 0
pub reply_done : (k : Reply) (r made : Record) → (reply_on k r made).verdict ≡ Done
unfolding showing alerts_on alerting
reply_done the_record r made = refl
reply_done (the_alerts q) r made = refl
