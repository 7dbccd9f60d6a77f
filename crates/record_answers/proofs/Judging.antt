-- How the rule of an ask judges a slot: the first check that applies refuses, and where none applies the ask is
-- accepted. The proofs of the rules cite it, return by return.
use mathlib.Core.Path.{◌≡◌, refl, sym, ◌∙◌, ap}
use mathlib.Core.Bool.{true, false, not}
use mathlib.Core.List.{List, [], ◌∷◌}
use Rattle.paper.specs.declared.Verdict.{Verdict}
use Rattle.paper.specs.declared.Verdict.TheVariants.{Done, NoSuchId}
use Rattle.paper.specs.Lists.{every}
use Rattle.paper.specs.Verdicts.{is_done, Check, first_of, FirstAt, here, later, NoneApplies, also, all_refusals}
use Rattle.paper_desk.specs.Desk.{Ask, rule_of, checks_on}
use Rattle.paper.proofs.Logic.{and_left, and_right, not_true, pick_true, pick_false}
use Rattle.paper_desk.proofs.Rules.{rule_holds}
use Rattle.paper_desk.proofs.Refusals.{first_is_given, none_applies_gives_done}
use Rattle.record_answers.specs.declared.Slot.{Slot}
use Rattle.record_answers.specs.Effects.{is_known, refused_effect, judged_effect, replied_on, effect_of}

-- what is the first of checks that all refuse refuses
first_refuses : (cs : List Check) (v : Verdict) → all_refusals cs ≡ true → FirstAt v cs → is_done v ≡ false
unfolding all_refusals every
first_refuses (c ∷ cs) v r (here w q) = ap is_done (sym w) ∙ not_true _ (and_left (not (is_done c.verdict)) _ r)
first_refuses (c ∷ cs) v r (later q f) = first_refuses cs v (and_right (not (is_done c.verdict)) _ r) f
first_refuses [] v r f = elim f [ ]

module _ (s : Slot) (x : Ask) where
  refused_first : (v : Verdict) → is_done v ≡ false → first_of (checks_on (is_known s) s.rec x) ≡ v
      → refused_effect s.count v ≡ effect_of s x
  unfolding effect_of judged_effect
  refused_first v n e = rw e (sym (pick_false (is_done v) _ _ n))

  -- 1
  pub unknown_refused : is_known s ≡ false → refused_effect s.count NoSuchId ≡ effect_of s x
  unfolding is_done
  unknown_refused t = refused_first NoSuchId refl (first_is_given _ NoSuchId (here refl (ap not t)))

  module _ (known : is_known s ≡ true) where
    -- a number behind 1
    pub known_refused : {v : Verdict} → FirstAt v ((rule_of x).checks s.rec) → refused_effect s.count v ≡ effect_of s x
    known_refused {v} f =
        refused_first v (first_refuses _ v ((rule_holds x).refusals s.rec) f)
        (first_is_given _ v (later (ap not known) f))

    pub known_accepted : NoneApplies ((rule_of x).checks s.rec)
        → record {
          at = s.at;
          rec = (rule_of x).made s.rec;
          replied = replied_on (rule_of x).reply s.rec;
        } ≡ effect_of s x
    unfolding effect_of judged_effect is_done
    known_accepted n =
        let done : first_of (checks_on (is_known s) s.rec x) ≡ Done =
        none_applies_gives_done _ (also (ap not known) n) in
        sym (pick_true (is_done (first_of (checks_on (is_known s) s.rec x))) _ _ (ap is_done done))
