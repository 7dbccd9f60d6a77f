-- What a sound record and a valid quote are to what is written: that each limit, and each place of three, is in range.
use mathlib.Core.Path.{◌≡◌}
use mathlib.Core.Bool.{true}
use Prim.Native.Nat.{ℕ, ◌≤◌, ◌<◌}
use native.Mathlib.Omega.{arith}
use lib.ListN.{get_or}
use Rattle.paper.specs.declared.Quote.{Quote}
use Rattle.paper.specs.declared.Record.{Record}
use Rattle.paper.specs.Lists.{all_three}
use Rattle.paper.specs.Numbers.{quote_most}
use Rattle.paper.specs.Ranges.{no_rate, no_limits, valid_term, term_at, valid_quote, sound, rate_at}
use Rattle.paper_desk.specs.Limits.{delta_of}
use Rattle.paper.proofs.Logic.{and_left, and_right}
use Rattle.inputs.proofs.Facts.{quote_facts}
use Rattle.record_soundness.proofs.Facts.{sound_facts}
use Rattle.limits.specs.LimitRanges.{RangeInputs, valid_limit_statics}
use Rattle.limits.specs.LimitBounds.{delta_high}
use Rattle.alerts.specs.Nearness.{NearRange}
use Rattle.record_writing.specs.Needs.{Shiftable}

-- ---- a quote

pub quoted_term_below_three : (q : Quote) → valid_quote q ≡ true → q.term < 3
quoted_term_below_three q v = omega (arith, (quote_facts q v).term_last_lem)

-- the near test of a term's band
pub band_near_in_range : (r : Record) (q : Quote) (price : ℕ) → sound r ≡ true → valid_quote q ≡ true → price ≤ quote_most
    → NearRange r.statics.w (get_or r.bands q.term no_limits) price
band_near_in_range r q price s v h =
    let known = sound_facts r s in
    let band = known.bands q.term (quoted_term_below_three q v) in
    record { nearness = known.statics.w; lower = band.lower.most; upper = band.upper.most; within = omega arith }

-- ---- a move

pub sound_terms_valid : (r : Record) → sound r ≡ true → all_three (λ k. valid_term (term_at r.terms k)) ≡ true
unfolding sound
sound_terms_valid r v = search (v, and_left, and_right) depth 40

-- the evaluation and S_1 of a record
pub sound_range_inputs : (r : Record) → sound r ≡ true → RangeInputs r.p1 (get_or r.rates 0 no_rate)
sound_range_inputs r v =
    let known = sound_facts r v in
    record { price = known.figures.later.price.most; rate_high = known.rates 0 (omega arith) }

pub sound_shiftable : (r : Record) → sound r ≡ true
    → Shiftable (delta_of r.statics (rate_at r.rates 0) r.p1.units) r.ranges
sound_shiftable r v =
    let known = sound_facts r v in
    let held = delta_high r.statics _ _ (valid_limit_statics r.statics known.valid) (sound_range_inputs r v) in
    let upper = known.ranges in (
      (held, (upper 0 (omega arith)).upper.most),
      (held, (upper 1 (omega arith)).upper.most),
      (held, (upper 2 (omega arith)).upper.most),
    )
