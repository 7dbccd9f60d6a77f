-- W-209 over sequences. A live record's bands are those that its history gives (demand 2), and the law of one band
-- (paper_desk/proofs/ExactBand.antt) says where it stands and when it is crossed.
use mathlib.Core.Path.{◌≡◌, refl, sym, ap, ◌∙◌}
use mathlib.Core.Bool.{Bool, true, false, not, ◌&&◌}
use mathlib.Core.List.{List, [], ◌∷◌, ◌++◌}
use Prim.Native.Nat.{ℕ, ◌<◌}
use native.Mathlib.Omega.{arith}
use lib.Dec.{eqb}
use borrow.Author.Tests.{eq-eqb}
use lib.IntN.{ℤ}
use lib.ListN.{get_or, take}
use Rattle.paper.specs.declared.Record.{Record}
use Rattle.paper.specs.declared.Admission.{Admission}
use Rattle.paper.specs.declared.Day.{Day}
use Rattle.paper.specs.declared.Limits.{Limits}
use Rattle.paper.specs.declared.Verdict.{Verdict}
use Rattle.paper.specs.declared.Verdict.TheVariants.{BandCrossed}
use Rattle.paper.specs.Lists.{all_three, every}
use Rattle.paper.specs.Ranges.{statics_of, valid_statics, no_limits, is_live, band_at}
use Rattle.paper.specs.Verdicts.{number_of, is_done, Check, FirstAt, here, later, NoneApplies, none, also, Exactly}
use Rattle.paper_desk.specs.Limits.{crossed}
use Rattle.paper_desk.specs.ExactBand.{RoundedInward, NoneOnGrid}
use Rattle.paper_desk.specs.Desk.{Ask, evaluating, Call, evaluate, evaluated, found, checks_of, run}
use Rattle.paper_desk.specs.History.{FreshTable, since, history_of}
use Rattle.paper_desk.specs.Sequences.{on_day, last_evaluated, band_now}
use Rattle.demands.specs.Demands.{answered, FiguresHold}
use Rattle.demands.specs.Inside.{banded_now, BandsInside, NineExactly}
use Rattle.paper.proofs.Logic.{not_true_and_false, and_left, and_right, not_true, each_of_three}
use Rattle.paper_desk.proofs.LimitSizes.{valid_limit_statics}
use Rattle.paper_desk.proofs.ExactBand.{band_rounded_inward, between_exactly, limits_in_exact, crossed_exactly}
use Rattle.paper_desk.proofs.Refusals.{refused_only, refused_always}
use Rattle.demands.proofs.Known.{history_since}
use Rattle.demands.proofs.Sequences.{band_next}
use Rattle.demands.proofs.Figures.{lawful_statics}
use Rattle.demands.proofs.Demands.{demand_2, bands_in_order}
use Rattle.demands.proofs.Order.{live_has_day}

-- ---- a band of the history is the exact one, rounded inward

now_rounded_inward : (a : Admission) (es : List Ask) (d : Day) (k : ℕ) → valid_statics (statics_of a.given) ≡ true
    → RoundedInward (banded_now a es d k) (band_now a es (on_day d) k)
unfolding band_now
now_rounded_inward a es d k v = band_rounded_inward (banded_now a es d k) (valid_limit_statics _ v)

-- ---- the bands of a record whose last evaluation was of the day d

pub bands_inside : (id : ℕ) (cs : List Call) (t : List Record) → FreshTable t → (a : Admission) (es : List Ask)
    → history_of id cs t ≡ since a es → (d : Day) → last_evaluated es ≡ on_day d
    → BandsInside a es d (found (run cs t) id)
bands_inside id cs t f a es e d last =
    record {
      on_grid_lem = λ k l. (inward k l).on_grid_lem;
      inside = λ k l. limits_in_exact (banded_now a es d k) (band_at r k) (inward k l)
          ((bands_in_order id cs t f a es e).in_order k l);
      exactly = λ k l. between_exactly (banded_now a es d k) (band_at r k) (inward k l);
    }
  where
    r : Record
    r = found (run cs t) id

    inward : (k : ℕ) → k < 3 → RoundedInward (banded_now a es d k) (band_at r k)
    inward k l =
        rw (rw last at ((demand_2 id cs t f a es e).figures.bands k l))
        (now_rounded_inward a es d k (lawful_statics a es (history_since id cs t f.empty a es e).2))

-- and so of every live record: it was evaluated, on some day
pub live_bands_inside : (id : ℕ) (cs : List Call) (t : List Record) → FreshTable t → (a : Admission) (es : List Ask)
    → history_of id cs t ≡ since a es → is_live (found (run cs t) id).standing ≡ true
    → (d : Day) × (last_evaluated es ≡ on_day d) × BandsInside a es d (found (run cs t) id)
live_bands_inside id cs t f a es e live =
    let stands = (demand_2 id cs t f a es e).figures.standing in
    let on = live_has_day a (last_evaluated es) (sym (ap is_live stands) ∙ live) in
    (on.0, on.1, bands_inside id cs t f a es e on.0 on.1)

-- ---- 9

-- a check of another number
abbrev is_other : Verdict → Check → Bool
is_other v x = not (eqb (number_of x.verdict) (number_of v))

-- where the last of some checks alone names v, v is the first that applies exactly where the last applies and no other
-- does
first_at_the_last : (v : Verdict) (cs : List Check) (c : Check) → every (is_other v) cs ≡ true
    → FirstAt v (cs ++ (c ∷ [])) → NoneApplies cs × (c.applies ≡ true)
unfolding every
first_at_the_last v [] c n (here w q) = (none, q)
first_at_the_last v (x ∷ cs) c n (here w q) =
    let same : eqb (number_of x.verdict) (number_of v) ≡ true = eq-eqb _ _ (ap number_of w) in
    absurd (not_true_and_false _ same (not_true _ (and_left (is_other v x) _ n)))
first_at_the_last v (x ∷ cs) c n (later q f) =
    let rest = first_at_the_last v cs c (and_right (is_other v x) _ n) f in
    (also q rest.0, rest.1)
first_at_the_last v [] c n (later q f) = elim f [ ]

last_is_first : (cs : List Check) (c : Check) → NoneApplies cs → c.applies ≡ true
    → FirstAt c.verdict (cs ++ (c ∷ []))
last_is_first [] c none e = here refl e
last_is_first (x ∷ cs) c (also q n) e = later q (last_is_first cs c n e)

-- not all of three pass exactly where one does not
one_of_three : (p : ℕ → Bool) → not (all_three (λ k. not (p k))) ≡ true → (k : ℕ) × (k < 3) × (p k ≡ true)
one_of_three p e = go (p 0) (p 1) (p 2) refl refl refl e
  where
    go : (x y z : Bool) → p 0 ≡ x → p 1 ≡ y → p 2 ≡ z → not ((not x && not y) && not z) ≡ true
        → (k : ℕ) × (k < 3) × (p k ≡ true)
    go true y z a b c e = (0, omega arith, a)
    go false true z a b c e = (1, omega arith, b)
    go false false true a b c e = (2, omega arith, c)
    go false false false a b c e = absurd (not_true_and_false false e refl)

not_all_three : (p : ℕ → Bool) (k : ℕ) → k < 3 → p k ≡ true → not (all_three (λ k. not (p k))) ≡ true
not_all_three p k l e = go (all_three (λ k. not (p k))) refl
  where
    go : (b : Bool) → all_three (λ k. not (p k)) ≡ b → not b ≡ true
    go true all = absurd (not_true_and_false (p k) e (not_true (p k) (each_of_three (λ k. not (p k)) all k l)))
    go false all = refl

module _ (id : ℕ) (a : Admission) (es : List Ask) (t : List Record) (v : valid_statics (statics_of a.given) ≡ true)
    (k : FiguresHold a es (found t id)) (d : Day) (rows : List ℤ) where
  abbrev band_after : ℕ → Limits
  band_after j = get_or (evaluated (found t id) d rows).bands j no_limits

  -- the band of a term, crossed or not
  next_crossed : (j : ℕ) → j < 3
      → Exactly (crossed (band_after j) ≡ true) (NoneOnGrid (banded_now a (evaluating d rows ∷ es) d j))
  next_crossed j l =
      rw (band_next a es (found t id) k d rows j l)
      (crossed_exactly (banded_now a (evaluating d rows ∷ es) d j) _
      (now_rounded_inward a (evaluating d rows ∷ es) d j v))

  nine_exactly : Exactly (answered (evaluate id d rows) t ≡ BandCrossed)
      (NoneApplies (take 6 (checks_of (evaluate id d rows) t))
      × (j : ℕ) × (j < 3) × NoneOnGrid (banded_now a (evaluating d rows ∷ es) d j))
  unfolding checks_of is_done every
  nine_exactly = (
    λ e.
        let at = first_at_the_last BandCrossed (take 6 (checks_of (evaluate id d rows) t)) _ refl
        (refused_only (evaluate id d rows) t BandCrossed refl e) in
        let some = one_of_three (λ j. crossed (band_after j)) at.1 in
        (at.0, some.0, some.1, (next_crossed some.0 some.1).0 some.2),
    λ w. refused_always (evaluate id d rows) t BandCrossed
        (last_is_first (take 6 (checks_of (evaluate id d rows) t)) _ w.0
        (not_all_three (λ j. crossed (band_after j)) w.1 w.2 ((next_crossed w.1 w.2).1 w.3))),
  )

pub nine_at_crossed : (id : ℕ) (cs : List Call) (t : List Record) → FreshTable t → (a : Admission) (es : List Ask)
    → history_of id cs t ≡ since a es → NineExactly id a es (run cs t)
nine_at_crossed id cs t f a es e =
    record {
      nine =
          nine_exactly id a es (run cs t) (lawful_statics a es (history_since id cs t f.empty a es e).2)
          (demand_2 id cs t f a es e).figures;
    }
