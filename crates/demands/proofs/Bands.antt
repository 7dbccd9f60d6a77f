-- W-209: after every sequence of calls on a fresh table no band is crossed. An evaluation is refused where one would be
-- (9), and whatever else is asked leaves the bands, but for a move, which takes its side outward.
use mathlib.Core.Path.{◌≡◌, refl, sym, ◌∙◌, ap, subst}
use mathlib.Core.Bool.{false}
use mathlib.Core.List.{List, [], ◌∷◌}
use Rattle.std.specs.declared.option.Option.{Option}
use Rattle.std.specs.declared.option.Option.TheVariants.{None, Some}
use Prim.Native.Nat.{ℕ, ◌<◌}
use lib.IntN.{ℤ}
use lib.ListN.{get_or}
use Rattle.paper.specs.declared.Record.{Record}
use Rattle.paper.specs.declared.Admission.{Admission}
use Rattle.paper.specs.declared.Day.{Day}
use Rattle.paper.specs.declared.Moves.{Moves}
use Rattle.paper.specs.declared.Side.{Side}
use Rattle.paper.specs.declared.Side.TheVariants.{Upper, Lower}
use Rattle.paper.specs.Ranges.{statics_of, no_limits, term_at, rate_at}
use Rattle.paper.specs.Verdicts.{NoneApplies}
use Rattle.paper_desk.specs.Limits.{crossed, LimitStatics}
use Rattle.paper_desk.specs.Desk.{Ask, admitted, rule_of}
use Rattle.paper_desk.specs.Sequences.{external_now, carries_then, carries, LastDay, no_day, on_day, day_then, last_evaluated}
use Rattle.paper_desk.specs.Sequences.{moves_then, moves_since, moves_of, band_now}
use Rattle.paper_desk.proofs.Rules.{OnlyEvaluation, rule_holds}
use Rattle.paper_desk.proofs.LimitSizes.{valid_limit_statics}
use Rattle.paper_desk.proofs.Bands.{evaluated_uncrossed, moved_not_crossed}
use Rattle.paper_desk.proofs.PinnedLaws.{three_gives_each}
use Rattle.demands.proofs.Histories.{record_of, Lawful}
use Rattle.demands.proofs.Sequences.{one_more_since}
use Rattle.demands.proofs.Figures.{lawful_figures, lawful_statics}

-- ---- what is no evaluation

module _ (a : Admission) (es : List Ask) (x : Ask) (other : (rule_of x).evaluates ≡ None) where
  carried_left : carries a (x ∷ es) ≡ carries a es
  unfolding carries
  carried_left =
      ap (λ (o : Option (Day × List ℤ)). carries_then (statics_of a.given) o (external_now es) (carries a es)) other

  last_left : last_evaluated (x ∷ es) ≡ last_evaluated es
  unfolding last_evaluated
  last_left = ap (λ (o : Option (Day × List ℤ)). day_then o (last_evaluated es)) other

  abbrev moves_after : Option Side → Moves
  moves_after o =
      record {
        lower = moves_then o Lower (moves_since Lower es);
        upper = moves_then o Upper (moves_since Upper es);
      }

  moves_after_lem : (o : Option Side) → (rule_of x).moves ≡ o → moves_of (x ∷ es) ≡ moves_after o
  unfolding moves_since
  moves_after_lem o e = rw (other, e)

  -- it leaves the bands, or moves a side of them outward
  now_uncrossed : (o : Option Side) → (rule_of x).moves ≡ o → (last : LastDay) (k : ℕ)
      → LimitStatics (statics_of a.given) → crossed (band_now a es last k) ≡ false
      → crossed (band_now a (x ∷ es) last k) ≡ false
  unfolding band_now
  now_uncrossed o m no_day k s e = e
  now_uncrossed None m (on_day d) k s e = rw (carried_left, moves_after_lem None m) e
  now_uncrossed (Some side) m (on_day d) k s e =
      let p1 : ℕ = (carries a es).p1 in
      let s1 : ℕ = rate_at (carries a es).rates 0 in
      rw (carried_left, moves_after_lem (Some side) m, one_more_since side es)
      (moved_not_crossed (statics_of a.given) side p1 s1 (moves_of es) (term_at d.terms k) s e)

-- 9 does not apply to an evaluation
evaluation_uncrossed : (r : Record) (x : Ask) (d : Day) (rows : List ℤ) → (rule_of x).evaluates ≡ Some (d, rows)
    → NoneApplies ((rule_of x).checks r) → (k : ℕ) → k < 3
    → crossed (get_or ((rule_of x).made r).bands k no_limits) ≡ false
evaluation_uncrossed r x d rows e =
    subst (λ (y : Ask). NoneApplies ((rule_of y).checks r) → (k : ℕ) → k < 3
    → crossed (get_or ((rule_of y).made r).bands k no_limits) ≡ false)
    (sym (subst (OnlyEvaluation x) e (rule_holds x).evaluation))
    (λ n. evaluated_uncrossed r d rows n)

pub lawful_uncrossed : (a : Admission) (es : List Ask) → Lawful a es → (k : ℕ) → k < 3
    → crossed (get_or (record_of a es).bands k no_limits) ≡ false
unfolding record_of admitted crossed
lawful_uncrossed a [] v k l = ap crossed (three_gives_each (λ i. no_limits) no_limits k l)
lawful_uncrossed a (x ∷ es) (v, n) k l = go (rule_of x).evaluates refl (lawful_uncrossed a es v k l)
  where
    go : (o : Option (Day × List ℤ)) → (rule_of x).evaluates ≡ o
        → crossed (get_or (record_of a es).bands k no_limits) ≡ false
        → crossed (get_or ((rule_of x).made (record_of a es)).bands k no_limits) ≡ false
    go (Some (d, rows)) e rest = evaluation_uncrossed (record_of a es) x d rows e n k l
    go None e rest =
        let before : crossed (band_now a es (last_evaluated es) k) ≡ false =
        sym (ap crossed ((lawful_figures a es v).bands k l)) ∙ rest in
        ap crossed ((lawful_figures a (x ∷ es) (v, n)).bands k l)
        ∙ ap (λ (last : LastDay). crossed (band_now a (x ∷ es) last k)) (last_left a es x e)
        ∙ now_uncrossed a es x e (rule_of x).moves refl (last_evaluated es) k
        (valid_limit_statics _ (lawful_statics a es v)) before
