-- Demand 2 over every sequence of calls: the record that a history gives has the figures that document 01 defines from
-- it, by induction over the accepted calls; and its rates are the least that they are asked to be.
use mathlib.Core.Path.{◌≡◌, refl, sym, ◌∙◌, ap}
use mathlib.Core.Bool.{Bool, true, false}
use mathlib.Core.List.{List, [], ◌∷◌}
use Rattle.std.specs.declared.option.Option.{Option}
use Rattle.std.specs.declared.option.Option.TheVariants.{None, Some}
use Prim.Native.Nat.{ℕ, zero, suc, ◌+◌, ◌<◌}
use native.Mathlib.Omega.{arith}
use lib.IntN.{ℤ}
use lib.ListN.{length, get_or}
use Rattle.paper.specs.declared.Rate.{Rate}
use Rattle.paper.specs.declared.Statics.{Statics}
use Rattle.paper.specs.declared.Tentative.{Tentative}
use Rattle.paper.specs.declared.External.{External}
use Rattle.paper.specs.declared.Record.{Record}
use Rattle.paper.specs.declared.Admission.{Admission}
use Rattle.paper.specs.declared.Day.{Day}
use Rattle.paper.specs.Lists.{pick, for_levels}
use Rattle.paper.specs.Ranges.{statics_of, valid_statics, no_rate, rate_at}
use Rattle.paper.specs.declared.Figures.{Figures}
use Rattle.paper_desk.specs.Rates.{move_of, minimum_of, level_rate, modelled, unmodelled, figures_of}
use Rattle.paper_desk.specs.Desk.{admitted, Ask, rule_of}
use Rattle.paper_desk.specs.Sequences.{Carries, carries_first, carries_next, carries, on_day, last_evaluated, day_then}
use Rattle.paper_desk.specs.Sequences.{carries_then, external_now}
use Rattle.demands.specs.Demands.{FiguresHold, RatesHold}
use Rattle.paper.proofs.Logic.{not_true_and_false}
use Rattle.paper_desk.proofs.Level.{level_rate_is}
use Rattle.paper_kept.proofs.Sound.{admitted_statics_valid}
use Rattle.demands.proofs.Sequences.{admitted_figures}
use Rattle.demands.proofs.Asks.{ask_holds}
use Rattle.demands.proofs.Histories.{record_of, Lawful}

-- ---- every history whose calls were accepted

three_near : (a : Admission) (es : List Ask) → length (record_of a es).near ≡ 3
unfolding record_of admitted
three_near a [] = refl
three_near a (x ∷ es) = (ask_holds x).three_near (record_of a es) (three_near a es)

pub lawful_figures : (a : Admission) (es : List Ask) → Lawful a es → FiguresHold a es (record_of a es)
unfolding record_of
lawful_figures a [] v = admitted_figures a
lawful_figures a (x ∷ es) (l, n) =
    (ask_holds x).figures a es (record_of a es) (lawful_figures a es l) (three_near a es) n

-- ---- the rates

-- the rates that are carried were made by the last evaluation, with its m and the tentative rate as it then became
levels_at : (f : ℕ → Rate) (d : Rate) (i : ℕ) → i < 3 → get_or (for_levels f) i d ≡ f (i + 1)
levels_at f d zero l = refl
levels_at f d (suc zero) l = refl
levels_at f d (suc (suc zero)) l = refl
levels_at f d (suc (suc (suc i))) l = absurd (omega arith)

module _ (st : Statics) (b m s1 r s : ℕ) (old : Tentative) where
  by_flag : Bool → Figures
  by_flag on = pick on (modelled st b m s1 r s old) (unmodelled st s old)

  modelled_rates : st.ewma ≡ true
      → (figures_of st b m s1 r s old).rates
      ≡ for_levels (λ l. record { bp = level_rate st (figures_of st b m s1 r s old).tentative.bp m l })
  unfolding figures_of modelled by_flag
  modelled_rates e = go st.ewma e
    where
      go : (on : Bool) → on ≡ true
          → (by_flag on).rates ≡ for_levels (λ l. record { bp = level_rate st (by_flag on).tentative.bp m l })
      go true e = refl
      go false e = absurd (not_true_and_false false e refl)

  unmodelled_rates : st.ewma ≡ false
      → (figures_of st b m s1 r s old).rates ≡ for_levels (λ l. record { bp = minimum_of st l })
  unfolding figures_of unmodelled by_flag
  unmodelled_rates e = go st.ewma e
    where
      go : (on : Bool) → on ≡ false → (by_flag on).rates ≡ for_levels (λ l. record { bp = minimum_of st l })
      go true e = absurd (not_true_and_false true refl e)
      go false e = refl

-- the rates that an evaluation carries on, with the model on and off
module _ (st : Statics) (d : Day) (rows : List ℤ) (kept : External) (x : Carries) where
  abbrev next : Carries
  next = carries_then st (Some (d, rows)) kept x

  next_modelled : st.ewma ≡ true
      → next.rates ≡ for_levels (λ l. record { bp = level_rate st next.tentative.bp d.m l })
  unfolding carries_next
  next_modelled =
      modelled_rates st d.b d.m (rate_at x.rates 0) (move_of next.p1 x.p1 x.p2) x.s x.tentative

  next_unmodelled : st.ewma ≡ false → next.rates ≡ for_levels (λ l. record { bp = minimum_of st l })
  unfolding carries_next
  next_unmodelled =
      unmodelled_rates st d.b d.m (rate_at x.rates 0) (move_of next.p1 x.p1 x.p2) x.s x.tentative

carried_modelled : (a : Admission) (es : List Ask) (d : Day) → (statics_of a.given).ewma ≡ true
    → last_evaluated es ≡ on_day d
    → (carries a es).rates
    ≡ for_levels (λ l. record { bp = level_rate (statics_of a.given) (carries a es).tentative.bp d.m l })
unfolding carries last_evaluated
carried_modelled a [] d on e = let z : ◌≡◌ {A = ℕ} 0 1 = cc in absurd (omega arith)
carried_modelled a (y ∷ es) d on e = go (rule_of y).evaluates e (carried_modelled a es d on)
  where
    st : Statics
    st = statics_of a.given

    x : Carries
    x = carries a es

    then : Option (Day × List ℤ) → Carries
    then o = carries_then (statics_of a.given) o (external_now es) (carries a es)

    go : (o : Option (Day × List ℤ)) → day_then o (last_evaluated es) ≡ on_day d
        → (last_evaluated es ≡ on_day d
        → x.rates ≡ for_levels (λ l. record { bp = level_rate st x.tentative.bp d.m l }))
        → (then o).rates ≡ for_levels (λ l. record { bp = level_rate st (then o).tentative.bp d.m l })
    go None e rest = rest e
    go (Some (d', rows)) e rest =
        let same : d' ≡ d = cc in
        rw (← same) (next_modelled st d' rows (external_now es) x on)

carried_unmodelled : (a : Admission) (es : List Ask) → (statics_of a.given).ewma ≡ false
    → (carries a es).rates ≡ for_levels (λ l. record { bp = minimum_of (statics_of a.given) l })
unfolding carries carries_first
carried_unmodelled a [] off = refl
carried_unmodelled a (y ∷ es) off = go (rule_of y).evaluates (carried_unmodelled a es off)
  where
    st : Statics
    st = statics_of a.given

    go : (o : Option (Day × List ℤ)) → (carries a es).rates ≡ for_levels (λ l. record { bp = minimum_of st l })
        → (carries_then st o (external_now es) (carries a es)).rates ≡ for_levels (λ l. record { bp = minimum_of st l })
    go None rest = rest
    go (Some (d, rows)) rest = next_unmodelled st d rows (external_now es) (carries a es) off

pub lawful_statics : (a : Admission) (es : List Ask) → Lawful a es → valid_statics (statics_of a.given) ≡ true
lawful_statics a [] v = admitted_statics_valid a v
lawful_statics a (e ∷ es) (l, n) = lawful_statics a es l

pub rates_hold : (a : Admission) (es : List Ask) (r : Record) (d : Day) → valid_statics (statics_of a.given) ≡ true
    → FiguresHold a es r
    → last_evaluated es ≡ on_day d → RatesHold (statics_of a.given) d.m r
rates_hold a es r d v k e =
    record {
      modelled = λ on i l. rw (rate on i l) (level_rate_is st (i + 1) d.m r.tentative.bp v);
      minima = λ off i l.
          rate_from r.rates (λ l. record { bp = minimum_of st l }) i l (k.rates ∙ carried_unmodelled a es off);
    }
  where
    st : Statics
    st = statics_of a.given

    rate_from : (rates : List Rate) (f : ℕ → Rate) (i : ℕ) → i < 3 → rates ≡ for_levels f
        → rate_at rates i ≡ (f (i + 1)).bp
    rate_from rates f i l e = ap (λ (x : List Rate). rate_at x i) e ∙ ap (λ (x : Rate). x.bp) (levels_at f no_rate i l)

    rate : st.ewma ≡ true → (i : ℕ) → i < 3 → rate_at r.rates i ≡ level_rate st r.tentative.bp d.m (i + 1)
    rate on i l =
        rate_from r.rates (λ l. record { bp = level_rate st (carries a es).tentative.bp d.m l }) i l
        (k.rates ∙ carried_modelled a es d on e)
        ∙ ap (λ (x : Tentative). level_rate st x.bp d.m (i + 1)) (sym k.tentative)
