-- `record_soundness::sound` meets its contract: the definition is the figures, then each part as its function judges
-- it; the code judges the bands with the ranges, before the terms.
use mathlib.Core.Path.{◌≡◌, refl, sym, ◌∙◌}
use mathlib.Core.Bool.{Bool, true, false, ◌&&◌}
use mathlib.Core.List.{List}
use lib.ListN.{get_or}
use Rattle.paper.proofs.Logic.{not_true, not_false}
use Rattle.paper.specs.declared.Limits.{Limits}
use Rattle.paper.specs.declared.Record.{Record}
use Rattle.paper.specs.Lists.{all_three}
use Rattle.paper.specs.Ranges.{grid_of, valid_limits, no_limits, sound}
use mathlib.Core.Path.{ap}
use mathlib.Core.Bool.{not}
use Rattle.record_soundness.proofs.sound.Goals as goal

bands_behind_terms : (rates ranges bands terms : Bool)
    → (rates && (ranges && bands) && terms) ≡ (rates && ranges && terms && bands)
bands_behind_terms false ranges bands terms = refl
bands_behind_terms true false bands terms = refl
bands_behind_terms true true true true = refl
bands_behind_terms true true true false = refl
bands_behind_terms true true false true = refl
bands_behind_terms true true false false = refl

abbrev valid_limits_of : Record → List Limits → Bool
valid_limits_of r limits = all_three (λ i. valid_limits (grid_of r.statics.lot) (get_or limits i no_limits))

-- the rates, the limits and the terms are those of the definition
parts_same : {a b c rates terms : Bool} (ranges bands : Bool) → a ≡ rates → b ≡ (ranges && bands) → c ≡ terms
    → (a && b && c) ≡ (rates && ranges && terms && bands)
parts_same {rates = rates} {terms = terms} ranges bands p q r =
    rw (p, q, r) (bands_behind_terms rates ranges bands terms)

pub returns-then-not-sound_figures : goal.returns-then-not-sound_figures
unfolding sound
returns-then-not-sound_figures c = rw (sym c.sound_figures.ensures ∙ not_true _ (ap not c.if-not-sound_figures.true))

pub returns : goal.returns
unfolding sound
returns c =
    let r = c.args.r in
    rw (
      sym c.sound_figures.ensures ∙ not_false _ (ap not c.if-not-sound_figures.false),
      parts_same (valid_limits_of r r.ranges) (valid_limits_of r r.bands) c.valid_rates.ensures
          c.valid_ranges_and_bands.ensures c.valid_terms.ensures,
      c.valid_three_near.ensures,
      c.valid_session.ensures,
      c.valid_external.ensures,
    )
