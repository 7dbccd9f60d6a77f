-- Asking why agrees with `evaluate` on the number, whatever is asked; of a refusal it names what the first fault that
-- applies is; and the price, the volatility, the tentative rate and the rate of each level that an evaluation writes
-- are what its reasons say.
use mathlib.Core.Path.{◌≡◌, refl, sym, ap, ◌∙◌}
use mathlib.Core.Logic.{◌⊎◌, ⊎_elim}
use mathlib.Core.Bool.{Bool, true, false}
use mathlib.Core.List.{List}
use Prim.Native.Nat.{ℕ, ◌+◌, ◌*◌, ◌<◌, max}
use lib.IntN.{ℤ}
use Rattle.paper.specs.declared.Record.{Record}
use Rattle.paper.specs.declared.Day.{Day}
use Rattle.paper.specs.declared.Figures.{Figures}
use Rattle.paper.specs.declared.Model.{Model}
use Rattle.paper.specs.declared.Rate.{Rate}
use Rattle.paper.specs.declared.Tentative.{Tentative}
use Rattle.paper.specs.declared.Verdict.{Verdict}
use Rattle.paper.specs.Numbers.{millionths_in_bp}
use Rattle.paper.specs.Ranges.{grid_of, rate_at, no_rate, valid_statics}
use Rattle.paper.specs.Verdicts.{FirstAt, NoneApplies, Exactly}
use Rattle.paper_desk.specs.Evaluation.{day_rows}
use Rattle.paper_desk.specs.Rates.{model_of, modelled, unmodelled, figures_of, tentative_rate_of, tentative_after}
use Rattle.paper_desk.specs.Rates.{weighted, minimum_of, level_rate}
use Rattle.paper_desk.specs.Desk.{used_by, price_on, move_on, figures_on, evaluated, evaluate, evaluate_checks, checks_of}
use Rattle.paper_desk.specs.Desk.{step}
use Rattle.paper.proofs.Logic.{pick_true, pick_false}
use Rattle.paper_desk.proofs.Refusals.{verdict_first, named_is_first_or_otherwise, first_is_named, none_named}
use Rattle.paper_desk.proofs.PinnedLaws.{three_gives_each}
use Rattle.std.specs.declared.option.Option.{Option}
use Rattle.std.specs.declared.option.Option.TheVariants.{None, Some}
use Rattle.paper_reasons.specs.declared.Fault.{Fault}
use Rattle.paper_reasons.specs.declared.Fault.TheVariants as fault
use Rattle.paper_reasons.specs.declared.LevelReason.TheVariants as level
use Rattle.paper_reasons.specs.Reasons.{level_reason}
use Rattle.paper_reasons.specs.Faults.{faults_of, fault_of}
use Rattle.paper_reasons.specs.Figures.{volatility_figure, tentative_figure, level_figure, replacement_taken}
use Rattle.paper_reasons.specs.Why.{replaced_on, step_on, deciding_on, level_on, reasons_of, why_of, why_on}
use Rattle.paper_reasons.specs.Truth.{price_said, volatility_said, step_said, tentative_said, figures_said}
use Rattle.paper_reasons.specs.Truth.{level_named, rate_said}
use Rattle.paper_reasons.proofs.Figures.{price_is, weight_is, volatility_is, step_is, tentative_is, level_is}
use Rattle.paper_reasons.proofs.Figures.{greater_is, level_unmodelled}

-- THE NUMBER is that which `evaluate` answers
pub number_agrees : (t : List Record) (id : ℕ) (d : Day) (rows : List ℤ)
    → (why_on t id d rows).verdict ≡ (step (evaluate id d rows) t).answer.verdict
unfolding why_on why_of checks_of evaluate_checks
number_agrees t id d rows = sym (verdict_first (evaluate id d rows) t)

-- THE FAULT is named exactly where it is the first row, else term, at fault; and none where none is
pub fault_is : (v : Verdict) (r : Record) (d : Day) (rows : List ℤ) (x : Option Fault)
    → Exactly (fault_of v r d rows ≡ x)
    (FirstAt x (faults_of v r d rows) ⊎ ((None ≡ x) × NoneApplies (faults_of v r d rows)))
unfolding fault_of
fault_is v r d rows x = (
  named_is_first_or_otherwise None (faults_of v r d rows) x,
  ⊎_elim (first_is_named None (faults_of v r d rows) x)
      (λ o. none_named None (faults_of v r d rows) o.1 ∙ o.0),
)

-- THE PRICE that an evaluation writes is, on the grid, the figure that is named, of the pair that the record uses
-- (W-211)
pub price_agrees : (r : Record) (d : Day) (rows : List ℤ)
    → (evaluated r d rows).p1.units ≡ price_said r rows (reasons_of r d rows)
unfolding evaluated price_on reasons_of
price_agrees r d rows = price_is (grid_of r.statics.lot) r.p1.units (used_by r) (day_rows rows)

-- what the model makes of the day
abbrev made : Record → Day → (rows : List ℤ) → Figures
made r d rows =
    modelled r.statics d.b d.m (rate_at r.rates 0) (move_on r rows) r.s r.tentative

-- With isEWMA yes:
module _ (r : Record) (d : Day) (rows : List ℤ) (ewma : r.statics.ewma ≡ true) where
  figures_modelled : figures_on r d rows ≡ made r d rows
  unfolding figures_on figures_of
  figures_modelled =
      pick_true r.statics.ewma (made r d rows) (unmodelled r.statics r.s r.tentative) ewma

  -- THE VOLATILITY that an evaluation writes is y or x, as is named, by the weight that is named
  pub volatility_agrees : (evaluated r d rows).s ≡ volatility_said r (evaluated r d rows) (reasons_of r d rows)
  unfolding evaluated move_on modelled reasons_of replaced_on
  volatility_agrees =
      let m : Model = model_of r.statics in
      let move : ℕ = move_on r rows in
      ap (λ (f : Figures). f.s) figures_modelled
      ∙ volatility_is r.statics ewma m d.b (millionths_in_bp * rate_at r.rates 0) move r.s
      ∙ ap (λ (a : ℕ). volatility_figure m a move r.s (reasons_of r d rows).replacement)
      (weight_is r.statics ewma m d.b move r.s)

  -- the t by which the tentative rate's reason is found is what the replacement's says, of the s that is written
  pub step_agrees : step_on r d rows ≡ step_said r (evaluated r d rows) (reasons_of r d rows)
  unfolding evaluated move_on step_on reasons_of
  step_agrees = step_is r.statics ewma (replaced_on r d rows) (move_on r rows) (figures_on r d rows).s

  -- the t of the day makes the tentative rate
  tentative_made : (figures_on r d rows).tentative
      ≡ tentative_after r.statics.h r.statics.wait (step_on r d rows) r.tentative
  unfolding modelled step_on replaced_on
  tentative_made =
      ap (λ (f : Figures). f.tentative) figures_modelled
      ∙ ap (λ (f : Figures). tentative_after r.statics.h r.statics.wait
      (tentative_rate_of r.statics (replaced_on r d rows) (move_on r rows) f.s) r.tentative) (sym figures_modelled)

  -- THE TENTATIVE RATE that an evaluation writes is the figure that is named
  pub tentative_agrees : (evaluated r d rows).tentative.bp ≡ tentative_said r (evaluated r d rows) (reasons_of r d rows)
  unfolding evaluated reasons_of
  tentative_agrees =
      ap (λ (x : Tentative). x.bp) tentative_made
      ∙ tentative_is r.statics ewma (step_on r d rows) r.tentative
      ∙ ap (λ (t : ℕ). tentative_figure r.statics.h t r.tentative.bp (reasons_of r d rows).tentative) step_agrees

  -- THE FIGURES that decided are those of the record before and of the one that the evaluation writes
  pub figures_agree : (reasons_of r d rows).figures
      ≡ Some (figures_said r (evaluated r d rows) d (reasons_of r d rows))
  unfolding evaluated move_on reasons_of deciding_on
  figures_agree =
      pick_true r.statics.ewma (Some (deciding_on r d rows)) None ewma
      ∙ rw (step_agrees, weight_is r.statics ewma (model_of r.statics) d.b (move_on r rows) r.s)

  -- s is the greater of x and y
  pub greater_agrees : (evaluated r d rows).s
      ≡ max (figures_said r (evaluated r d rows) d (reasons_of r d rows)).x
      (figures_said r (evaluated r d rows) d (reasons_of r d rows)).y
  unfolding evaluated move_on modelled reasons_of
  greater_agrees =
      let m : Model = model_of r.statics in
      let move : ℕ = move_on r rows in
      let last : ℕ = millionths_in_bp * rate_at r.rates 0 in
      ap (λ (f : Figures). f.s) figures_modelled
      ∙ greater_is m d.b move last r.s
      ∙ ap (λ (a : ℕ). max (weighted a r.s move) (replacement_taken m d.b move last))
      (weight_is r.statics ewma m d.b move r.s)

  -- t makes the tentative rate, with its age
  pub tentative_stepped : (evaluated r d rows).tentative
      ≡ tentative_after r.statics.h r.statics.wait
      (figures_said r (evaluated r d rows) d (reasons_of r d rows)).t r.tentative
  unfolding evaluated
  tentative_stepped =
      tentative_made
      ∙ ap (λ (t : ℕ). tentative_after r.statics.h r.statics.wait t r.tentative) step_agrees

  pub rate_modelled : (i : ℕ) → i < 3
      → rate_at (figures_on r d rows).rates i ≡ level_rate r.statics (figures_on r d rows).tentative.bp d.m (i + 1)
  unfolding modelled
  rate_modelled i k =
      let t : ℕ = (made r d rows).tentative.bp in
      rw figures_modelled
      (ap (λ (x : Rate). x.bp)
      (three_gives_each (λ i. record { bp = level_rate r.statics t d.m (i + 1) }) no_rate i k))

-- and with isEWMA no:
module _ (r : Record) (d : Day) (rows : List ℤ) (off : r.statics.ewma ≡ false) where
  figures_unmodelled : figures_on r d rows ≡ unmodelled r.statics r.s r.tentative
  unfolding figures_on figures_of
  figures_unmodelled =
      pick_false r.statics.ewma (made r d rows) (unmodelled r.statics r.s r.tentative) off

  rate_unmodelled : (i : ℕ) → i < 3 → rate_at (figures_on r d rows).rates i ≡ minimum_of r.statics (i + 1)
  unfolding unmodelled
  rate_unmodelled i k =
      rw figures_unmodelled
      (ap (λ (x : Rate). x.bp) (three_gives_each (λ i. record { bp = minimum_of r.statics (i + 1) }) no_rate i k))

-- the reason of each level, by its place
pub level_named_is : (r : Record) (d : Day) (rows : List ℤ) (i : ℕ) → i < 3
    → level_named (reasons_of r d rows) i ≡ level_on r d rows (i + 1) i
unfolding reasons_of
level_named_is r d rows i k = three_gives_each (λ i. level_on r d rows (i + 1) i) level.None i k

-- THE RATE OF A LEVEL that an evaluation writes is the figure that is named, with isEWMA yes and no
pub rate_agrees : (r : Record) (d : Day) (rows : List ℤ) → valid_statics r.statics ≡ true → (i : ℕ) → i < 3
    → rate_at (evaluated r d rows).rates i ≡ rate_said r (evaluated r d rows) d (reasons_of r d rows) i
unfolding evaluated level_on
rate_agrees r d rows v i k = rw (level_named_is r d rows i k) (go r.statics.ewma refl)
  where
    t : ℕ
    t = (figures_on r d rows).tentative.bp

    rate : ℕ
    rate = rate_at (figures_on r d rows).rates i

    go : (on : Bool) → r.statics.ewma ≡ on
        → rate ≡ level_figure r.statics t d.m (i + 1) (level_reason r.statics t d.m (i + 1) rate)
    go true on = rw (rate_modelled r d rows on i k) (level_is r.statics (i + 1) d.m t v on)
    go false off =
        rate_unmodelled r d rows off i k ∙ sym (level_unmodelled r.statics (i + 1) d.m t rate off)
