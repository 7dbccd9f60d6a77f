-- What every demand asks of an ask, with a clause an ask here alone: the proofs over all calls cite it.
use mathlib.Core.Path.{◌≡◌, refl, ◌∙◌}
use mathlib.Core.Bool.{Bool, true}
use mathlib.Core.List.{List, ◌∷◌, map}
use Rattle.std.specs.declared.option.Option.{Option}
use Rattle.std.specs.declared.option.Option.TheVariants.{None, Some}
use lib.ListN.{length, length-set}
use Rattle.paper.specs.declared.Record.{Record}
use Rattle.paper.specs.declared.Admission.{Admission}
use Rattle.paper.specs.Verdicts.{number_of, Check, NoneApplies}
use Rattle.paper_desk.specs.Kept.{good}
use Rattle.paper_desk.specs.Sides.{shows_record}
use Rattle.paper_desk.specs.Desk.{Ask, evaluating, quoting, moving, reading, opening, receiving, near_on, evaluated}
use Rattle.paper_desk.specs.Desk.{quoted, moved, evening_opened, received, rule_of, checks_on}
use Rattle.demands.specs.Demands.{order_asked, FiguresHold}
use Rattle.paper_kept.proofs.Made.{made_good}
use Rattle.demands.proofs.Sequences.{evaluated_figures, accepted_term_below_three, quoted_figures, move_live}
use Rattle.demands.proofs.Sequences.{moved_figures, read_figures, opened_figures, received_figures}

abbrev pub WhereAny : {A : Type 0} → Option A → Type 0 → Type 0
WhereAny None holds = Unit {0}
WhereAny (Some a) holds = holds

pub record AskHolds (x : Ask) : Type 0 where
  -- its checks have the numbers of demand 1, in that order
  pub order : (there : Bool) (r : Record) → map (λ (c : Check). number_of c.verdict) (checks_on there r x)
      ≡ order_asked x
  -- where it is accepted, the record that it makes is good, and has the figures of the longer history (demand 2)
  pub good : (r : Record) → good r ≡ true → NoneApplies ((rule_of x).checks r) → good ((rule_of x).made r) ≡ true
  pub figures : (a : Admission) (es : List Ask) (r : Record) → FiguresHold a es r → length r.near ≡ 3
      → NoneApplies ((rule_of x).checks r) → FiguresHold a (x ∷ es) ((rule_of x).made r)
  -- with near seconds for three terms
  pub three_near : (r : Record) → length r.near ≡ 3 → length ((rule_of x).made r).near ≡ 3
  -- members get messages (W-212) of an evaluation and of a move, which show their records
  pub evaluation_shows : WhereAny (rule_of x).evaluates (shows_record (rule_of x).reply ≡ true)
  pub move_shows : WhereAny (rule_of x).moves (shows_record (rule_of x).reply ≡ true)

pub ask_holds : (x : Ask) → AskHolds x
unfolding evaluated quoted moved evening_opened received
ask_holds (evaluating d rows) =
    record {
      order = λ there r. refl;
      good = made_good (evaluating d rows);
      figures = λ a es r k near n. evaluated_figures a es r k d rows;
      three_near = λ r near. refl;
      evaluation_shows = refl;
      move_shows = tt;
    }
ask_holds (quoting q) =
    record {
      order = λ there r. refl;
      good = made_good (quoting q);
      figures = λ a es r k near n. quoted_figures a es r q k (accepted_term_below_three r q n) near;
      three_near = λ r near. length-set r.near q.term (near_on r q) ∙ near;
      evaluation_shows = tt;
      move_shows = tt;
    }
ask_holds (moving side) =
    record {
      order = λ there r. refl;
      good = made_good (moving side);
      figures = λ a es r k near n. moved_figures a es r side k (move_live r side n);
      three_near = λ r near. refl;
      evaluation_shows = tt;
      move_shows = refl;
    }
ask_holds reading =
    record {
      order = λ there r. refl;
      good = made_good reading;
      figures = λ a es r k near n. read_figures a es r k;
      three_near = λ r near. near;
      evaluation_shows = tt;
      move_shows = tt;
    }
ask_holds opening =
    record {
      order = λ there r. refl;
      good = made_good opening;
      figures = λ a es r k near n. opened_figures a es r k;
      three_near = λ r near. refl;
      evaluation_shows = tt;
      move_shows = tt;
    }
ask_holds (receiving x) =
    record {
      order = λ there r. refl;
      good = made_good (receiving x);
      figures = λ a es r k near n. received_figures a es r x k;
      three_near = λ r near. near;
      evaluation_shows = tt;
      move_shows = tt;
    }
