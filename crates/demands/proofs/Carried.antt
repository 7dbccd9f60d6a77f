-- Demand 3 of shares: what the accepted evaluations carry on is a volatility carried on by the rule, each time by a
-- move rounded up, from the admission's; so it is near the exact one.
use mathlib.Core.Path.{◌≡◌, ap}
use mathlib.Core.Bool.{true}
use mathlib.Core.List.{List, [], ◌∷◌}
use Rattle.std.specs.declared.option.Option.{Option}
use Rattle.std.specs.declared.option.Option.TheVariants.{None, Some}
use Prim.Native.Nat.{ℕ, suc, ◌*◌, ◌<◌}
use lib.Dec.{leb}
use lib.IntN.{ℤ}
use borrow.Author.Tests.{leb-true}
use Rattle.paper.specs.declared.Statics.{Statics}
use Rattle.paper.specs.declared.Tentative.{Tentative}
use Rattle.paper.specs.declared.Record.{Record}
use Rattle.paper.specs.declared.Admission.{Admission}
use Rattle.paper.specs.declared.Day.{Day}
use Rattle.paper.specs.Lists.{pick}
use Rattle.paper.specs.Numbers.{millionths_in_bp, price_most}
use Rattle.paper.specs.Ranges.{is_price, is_grid_price, grid_of, statics_of, rate_at}
use Rattle.paper.specs.declared.Figures.{Figures}
use Rattle.paper_desk.specs.Rates.{model_of, move_of, figures_of, modelled, unmodelled, volatility_of}
use Rattle.paper_desk.specs.Desk.{Ask, rule_of}
use Rattle.paper_desk.specs.History.{is_one, evaluations}
use Rattle.paper_desk.specs.Sequences.{Carries, carries_first, carries_next, carries_then, carries, external_now}
use Rattle.paper_desk.specs.Exact.{exact_move, square_then, exact_square, NearExact, CarriedOn, begun, once_more}
use Rattle.demands.specs.Demands.{FiguresHold}
use Rattle.paper.proofs.Logic.{and_left, pick_true}
use Rattle.paper_desk.proofs.Volatility.{valid_weighs, move_rounded}
use Rattle.paper_desk.proofs.CarriedOn.{carried_near}
use Rattle.paper_kept.proofs.Sound.{Parts, sound_has_parts}
use Rattle.paper_kept.proofs.Good.{good_sound}
use Rattle.demands.proofs.Histories.{record_of, Lawful}
use Rattle.demands.proofs.Known.{lawful_good}
use Rattle.demands.proofs.Figures.{lawful_figures, lawful_statics}

-- the two latest evaluations are prices
record PricesPositive (x : Carries) : Type 0 where
  p1 : 0 < x.p1
  p2 : 0 < x.p2

price_positive : (g p : ℕ) → is_grid_price g p ≡ true → 0 < p
unfolding is_grid_price is_price
price_positive g p v = leb-true 1 p (and_left (leb 1 p) (leb p price_most) (and_left _ _ v))

prices_positive : (a : Admission) (es : List Ask) → Lawful a es → PricesPositive (carries a es)
prices_positive a es l =
    record {
      p1 = rw (← k.p1) (price_positive (grid_of r.statics.lot) r.p1.units parts.p1);
      p2 = rw (← k.p2) (price_positive (grid_of r.statics.lot) r.p2.units parts.p2);
    }
  where
    r : Record
    r = record_of a es

    k : FiguresHold a es r
    k = lawful_figures a es l

    parts : Parts r
    parts = sound_has_parts r (good_sound r (lawful_good a es l))

-- with the model on, an evaluation's s is the volatility's rule
volatility_modelled : (st : Statics) (b m s1 r s : ℕ) (old : Tentative) → st.ewma ≡ true
    → (figures_of st b m s1 r s old).s ≡ volatility_of (model_of st) b r (millionths_in_bp * s1) s
unfolding figures_of modelled unmodelled
volatility_modelled st b m s1 r s old on =
    ap (λ (f : Figures). f.s) (pick_true st.ewma (modelled st b m s1 r s old) (unmodelled st s old) on)

carried : (a : Admission) (es : List Ask) → Lawful a es → (statics_of a.given).ewma ≡ true
    → CarriedOn (evaluations es) (carries a es).s (exact_square a es)
unfolding evaluations carries carries_first carries_next exact_square statics_of
carried a [] l on = begun a.s
carried a (y ∷ es) (l, n) on = go (rule_of y).evaluates (carried a es l on)
  where
    st : Statics
    st = statics_of a.given

    x : Carries
    x = carries a es

    next : Option (Day × List ℤ) → Carries
    next o = carries_then st o (external_now es) x

    go : (o : Option (Day × List ℤ)) → CarriedOn (evaluations es) x.s (exact_square a es)
        → CarriedOn (pick (is_one o) (suc (evaluations es)) (evaluations es)) (next o).s
        (square_then a o (exact_square a es) x (next o).p1)
    go None rest = rest
    go (Some (d, rows)) rest =
        let p : ℕ = (next (Some (d, rows))).p1 in
        let positive : PricesPositive x = prices_positive a es l in
        rw (volatility_modelled st d.b d.m (rate_at x.rates 0) (move_of p x.p1 x.p2) x.s x.tentative
        on)
        (once_more rest (model_of st) d.b (millionths_in_bp * rate_at x.rates 0) (move_of p x.p1 x.p2)
        (exact_move p x.p1 x.p2) (valid_weighs st (lawful_statics a es l))
        (move_rounded x.p1 x.p2 p positive.p1 positive.p2))

pub lawful_near : (a : Admission) (es : List Ask) → Lawful a es → (statics_of a.given).ewma ≡ true
    → NearExact (evaluations es) (record_of a es).s (exact_square a es)
lawful_near a es l on = rw (lawful_figures a es l).s (carried_near (carried a es l on))
