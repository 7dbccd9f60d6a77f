-- The customer's demands, a theorem each. What they say stands in specs/Demands.antt.
use mathlib.Core.Path.{◌≡◌, refl, sym, ◌∙◌, ap, subst}
use mathlib.Core.Bool.{true, false}
use mathlib.Core.List.{List, map}
use Prim.Native.Nat.{ℕ, ◌<◌}
use Rattle.paper.specs.declared.Record.{Record}
use Rattle.paper.specs.declared.Admission.{Admission}
use Rattle.paper.specs.declared.Quote.{Quote}
use Rattle.paper.specs.declared.Verdict.{Verdict}
use Rattle.paper.specs.declared.Verdict.TheVariants.{Done, NoSuchId, AlreadyAdmitted}
use Rattle.paper.specs.Verdicts.{number_of, is_done, Check, NoneApplies, also, Exactly}
use Rattle.paper_desk.specs.Desk.{Ask, Call, admit, about, quote, id_of, Outcome, saying, showing, Reply, the_record}
use Rattle.paper_desk.specs.Desk.{the_alerts, reply_on, rule_of, stands, found, known, checks_of, admit_checks, accepted_of}
use Rattle.paper_desk.specs.Desk.{step, run}
use Rattle.paper_desk.specs.Sides.{shows_record, shows}
use Rattle.paper_desk.specs.History.{FreshTable, unknown, since, history_of, was_admitted}
use Rattle.demands.specs.Demands.{answered, order_of, Demand1, FiguresHold, alerts_then, Demand2, Demand3}
use Rattle.demands.specs.Demands.{TableKept, BandsInOrder}
use Rattle.paper.proofs.Logic.{not_true_and_false}
use Rattle.paper_desk.proofs.Refusals.{verdict_first, refused_step, accepted_step, refused_only, refused_always}
use Rattle.paper_desk.proofs.Refusals.{accepted_only, accepted_always}
use Rattle.demands.proofs.Kept.{run_sound}
use Rattle.demands.proofs.Histories.{record_of, Lawful}
use Rattle.demands.proofs.Known.{one_exactly_unknown, history_since, known_admitted, no_such_id}
use Rattle.demands.proofs.Known.{already_admitted, stays_known}
use Rattle.paper_desk.proofs.PinnedLaws.{bad_table_refused, shown_stands, admission_number_alone}
use Rattle.demands.proofs.Sequences.{accepted_term_below_three, alerts_noted}
use Rattle.demands.proofs.Asks.{ask_holds}
use Rattle.demands.proofs.Figures.{lawful_figures, lawful_statics, rates_hold}
use Rattle.demands.proofs.Bands.{lawful_uncrossed}
use Rattle.demands.proofs.Carried.{lawful_near}
use Rattle.demands.proofs.InterestCarried.{evenings_near}

-- After every sequence of calls on a fresh table every slot is empty or sound, and an id is known exactly if it was
-- admitted
pub table_kept : (cs : List Call) (t : List Record) → FreshTable t → TableKept cs t
table_kept cs t f =
    record {
      slots = run_sound cs t f.empty;
      admitted_known = known_admitted cs t f.slots f.empty;
      stays_known = λ later. stays_known cs later t f.slots f.empty;
    }

pub bands_in_order : (id : ℕ) (cs : List Call) (t : List Record) → FreshTable t → (a : Admission) (es : List Ask)
    → history_of id cs t ≡ since a es → BandsInOrder (found (run cs t) id)
bands_in_order id cs t f a es e =
    let k = history_since id cs t f.empty a es e in
    rw k.1 (record { in_order = lawful_uncrossed a es k.2 })

-- ---- Demand 1

in_order : (c : Call) (t : List Record) → map (λ (x : Check). number_of x.verdict) (checks_of c t) ≡ order_of c
unfolding checks_of admit_checks
in_order (admit a) t = refl
in_order (about id x) t = (ask_holds x).order (known t id) (found t id)

pub demand_1 : (c : Call) (t : List Record) → Demand1 c t
unfolding is_done
demand_1 c t =
    record {
      order = in_order c t;
      refused = λ v n. (refused_only c t v n, refused_always c t v);
      accepted = (λ e. accepted_only c t (ap is_done e), accepted_always c t);
      left = λ e.
          refused_step c t (ap is_done (sym (verdict_first c t)) ∙ e)
          ∙ ap (λ (v : Verdict). record { answer = saying v; table = t }) (sym (verdict_first c t));
      admission = λ a same.
          subst (λ (x : Call). (step x t).answer ≡ saying (answered x t)) (sym same) (admission_number_alone a t);
      not_known = one_exactly_unknown c t;
      bad_table = bad_table_refused c t;
      no_such_id = λ n cs empty f made.
          subst (λ (u : List Record). Exactly (answered c u ≡ NoSuchId) (history_of (id_of c) cs empty ≡ unknown))
          (sym made)
          (no_such_id cs empty f.slots f.empty c n);
      already = λ a same v cs empty f made.
          subst (λ (u : List Record). Exactly (answered c u ≡ AlreadyAdmitted)
          (was_admitted (history_of a.id cs empty) ≡ true)) (sym made)
          (subst (λ (x : Call). Exactly (answered x (run cs empty) ≡ AlreadyAdmitted)
          (was_admitted (history_of a.id cs empty) ≡ true)) (sym same)
          (already_admitted cs empty f.slots f.empty a v));
    }

-- ---- Demand 2

-- a call that shows a record shows the one that then stands
shown_answers : (c : Call) (t : List Record) → shows c ≡ true → answered c t ≡ Done
    → (step c t).answer ≡ showing (found (step c t).table (id_of c))
unfolding is_done accepted_of showing
shown_answers c t s done =
    let is : step c t ≡ accepted_of c t = accepted_step c t (ap is_done (sym (verdict_first c t) ∙ done)) in
    ap (λ (o : Outcome). o.answer) is ∙ only c s
    ∙ ap (λ (o : Outcome). showing o.answer.rec) (sym is)
    ∙ ap showing (sym (shown_stands c t s (ap is_done done)))
  where
    -- an accepted call of that kind answers a record and nothing else
    alone : (k : Reply) (r made : Record) → shows_record k ≡ true → reply_on k r made ≡ showing (reply_on k r made).rec
    alone the_record r made s = refl
    alone (the_alerts q) r made s = absurd (not_true_and_false false s refl)

    only : (c : Call) → shows c ≡ true → (accepted_of c t).answer ≡ showing (accepted_of c t).answer.rec
    only (admit a) s = absurd (not_true_and_false false s refl)
    only (about id x) s = alone (rule_of x).reply (found t id) ((rule_of x).made (found t id)) s

-- an accepted quote answers its alerts
quote_answers : (id : ℕ) (a : Admission) (es : List Ask) (t : List Record) (q : Quote)
    → FiguresHold a es (found t id) → answered (quote id q) t ≡ Done
    → (step (quote id q) t).answer ≡ alerts_then a es q
unfolding is_done accepted_of checks_of
quote_answers id a es t q k done =
    ap (λ (o : Outcome). o.answer)
    (accepted_step (quote id q) t (ap is_done (sym (verdict_first (quote id q) t) ∙ done)))
    ∙ alerts_noted a es (found t id) q k (term (accepted_only (quote id q) t (ap is_done done)))
  where
    term : NoneApplies (checks_of (quote id q) t) → q.term < 3
    term (also v n) = accepted_term_below_three (found t id) q n

pub demand_2 : (id : ℕ) (cs : List Call) (t : List Record) → FreshTable t → (a : Admission) (es : List Ask)
    → history_of id cs t ≡ since a es → Demand2 id a es (run cs t)
unfolding was_admitted
demand_2 id cs t f a es e =
    record {
      is_known = known_admitted cs t f.slots f.empty id ∙ ap was_admitted e;
      figures = figures;
      rates = λ d last. rates_hold a es (found (run cs t) id) d (lawful_statics a es k.2) figures last;
      answers = λ c same s done.
          subst (λ (i : ℕ). (step c (run cs t)).answer ≡ showing (found (step c (run cs t)).table i)) same
          (shown_answers c (run cs t) s done);
      alerts = λ q done. quote_answers id a es (run cs t) q figures done;
    }
  where
    k : (stands (run cs t) id ≡ true) × (found (run cs t) id ≡ record_of a es) × Lawful a es
    k = history_since id cs t f.empty a es e

    figures : FiguresHold a es (found (run cs t) id)
    figures = rw k.1 (lawful_figures a es k.2)

-- ---- Demand 3

pub demand_3 : Demand3
demand_3 =
    record {
      share = λ id cs t f a es e on.
          let k = history_since id cs t f.empty a es e in
          rw k.1 (lawful_near a es k.2 on);
      interest = evenings_near;
    }
