-- `record_writing::figures::made_at` meets its contract: the limits are made of the price and the figures, which are those of
-- any rows with that price.
use Prim.Native.Nat.{ℕ, ◌<◌}
use native.Mathlib.Omega.{arith}
use lib.ListN.{get_or}
use Rattle.paper.specs.declared.Day.{Day}
use Rattle.paper.specs.declared.Figures.{Figures}
use Rattle.paper.specs.declared.Price.{Price}
use Rattle.paper.specs.declared.Record.{Record}
use Rattle.paper.specs.Ranges.{no_rate}
use Rattle.paper_desk.specs.Desk.{figures_on, move_on, evaluated}
use Rattle.inputs.proofs.Facts.{price_facts}
use Rattle.record_soundness.proofs.Facts.{sound_facts}
use Rattle.limits.specs.LimitRanges.{RangeInputs, at_three, bands_asked}
use Rattle.record_writing.specs.Evaluates.{Evaluating, move_to, figures_at}
use Rattle.record_writing.proofs.FiguresFacts.{day_terms_valid, rates_held}
use Rattle.record_writing.proofs.figures.made_at.Goals as goal

-- the evaluation and a rate of the figures
rated : {r : Record} {d : Day} {p : Price} {f : Figures} → Evaluating r d p f → (i : ℕ) → i < 3
    → RangeInputs p (get_or f.rates i no_rate)
rated known i l =
    record {
      price = (price_facts _ known.price).most;
      rate_high =
          rw known.figures (rates_held _ _ _ known.sound_record i l);
    }

pub ranges_of-ranges-requires : goal.ranges_of-ranges-requires
ranges_of-ranges-requires c = at_three _ (rated c.requires)

pub bands_of-bands-requires : goal.bands_of-bands-requires
bands_of-bands-requires c =
    let price-and-rate = rated c.requires 0 (omega arith) in record {
      st_value = (sound_facts _ c.requires.sound_record).valid;
      bands_asked = bands_asked _ _ _ c.args.d.terms price-and-rate (omega arith, omega arith)
          (day_terms_valid c.args.d c.requires.day);
    }

pub returns : goal.returns
unfolding evaluated figures_on move_on figures_at move_to
returns c = λ rows e.
    rw (
      e,
      c.bands_of-bands.ensures,
      c.ranges_of-ranges.ensures,
      c.requires.figures,
    )
