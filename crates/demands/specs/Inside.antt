-- Document 02, W-209, over sequences: where the bands of a live record stand in the exact bands, and when an evaluation
-- is refused 9. proofs/Inside.antt proves both for every list of calls on every fresh table.
use Rattle.std.specs.Prelude.{◌≡◌, true, List, ◌∷◌, ℕ, ◌%◌, ◌<◌, ℤ, take}
use Rattle.paper.specs.declared.Side.{Side}
use Rattle.paper.specs.declared.Record.{Record}
use Rattle.paper.specs.declared.Admission.{Admission}
use Rattle.paper.specs.declared.Day.{Day}
use Rattle.paper.specs.declared.Verdict.TheVariants.{BandCrossed}
use Rattle.paper.specs.Ranges.{within, grid_of, statics_of, term_at, rate_at, band_at}
use Rattle.paper.specs.Verdicts.{NoneApplies, Exactly}
use Rattle.paper_desk.specs.Sides.{limit_on}
use Rattle.paper_desk.specs.ExactBand.{Banded, InExactBand, NoneOnGrid}
use Rattle.paper_desk.specs.Desk.{Ask, evaluating, evaluate, checks_of}
use Rattle.paper_desk.specs.Sequences.{carries, moves_of}
use Rattle.demands.specs.Demands.{answered}

-- what a band is made from, by the history: the evaluation and S_1 that the accepted calls es carry on from the
-- admission a, the accepted moves of each side since the last evaluation, which was of the day d, and a term of it
abbrev pub banded_now : Admission → List Ask → Day → (term : ℕ) → Banded
banded_now a es d k =
    record {
      statics = statics_of a.given;
      p = (carries a es).p1;
      s1 = rate_at (carries a es).rates 0;
      c = moves_of es;
      term = term_at d.terms k;
    }

-- "An order at the published limit can lie outside the exact band, and the matching board rejects it. Round the upper
-- limit down and the lower limit up": of the record r of a security that a admitted, whose accepted calls since are es,
-- the last evaluation among them of the day d. A move takes its side of the exact band outward, and each band lies in
-- the exact band of the moves that were made
pub record BandsInside (a : Admission) (es : List Ask) (d : Day) (r : Record) : Type 0 where
  pub on_grid_lem : (k : ℕ) → k < 3 → (side : Side)
      → limit_on side (band_at r k) % grid_of (statics_of a.given).lot ≡ 0
  -- either limit lies in the exact band: not below its lower limit, and not above its upper one
  pub inside : (k : ℕ) → k < 3 → (side : Side) → InExactBand (banded_now a es d k) (limit_on side (band_at r k))
  -- and no order on the grid is lost: it stands at or between the limits exactly where it lies in the exact band
  pub exactly : (k : ℕ) → k < 3 → (n : ℕ) → n % grid_of (statics_of a.given).lot ≡ 0
      → Exactly (within (band_at r k).lower (band_at r k).upper n ≡ true) (InExactBand (banded_now a es d k) n)

-- "A band narrower than a grid step may now cross and answers 9": the next evaluation of such a security, on the table
-- t that the calls made. It is refused 9 exactly where none of the six numbers before 9 applies, and in some term no
-- multiple of the grid lies in the exact band that this evaluation gives, with no move since it
pub record NineExactly (id : ℕ) (a : Admission) (es : List Ask) (t : List Record) : Type 0 where
  pub nine : (d : Day) (rows : List ℤ)
      → Exactly (answered (evaluate id d rows) t ≡ BandCrossed)
      (NoneApplies (take 6 (checks_of (evaluate id d rows) t))
      × (k : ℕ) × (k < 3) × NoneOnGrid (banded_now a (evaluating d rows ∷ es) d k))
