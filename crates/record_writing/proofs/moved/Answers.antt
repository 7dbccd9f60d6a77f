-- `record_writing::moved` meets its contract: each part of the record is that part's rule, and a sound record with a
-- move left is in their ranges.
use Rattle.paper_desk.specs.Desk.{moved}
use Rattle.record_soundness.proofs.Facts.{sound_facts}
use Rattle.limits.specs.LimitRanges.{one_more_high, bands_asked}
use Rattle.record_writing.proofs.Facts.{sound_terms_valid, sound_range_inputs, sound_shiftable}
use Rattle.record_writing.proofs.moved.Goals as goal

pub bands_of-fresh-requires : goal.bands_of-fresh-requires
bands_of-fresh-requires c =
    let r = c.args.r in
    let v = c.requires.r_value in
    let known = sound_facts r v in
    let counts = one_more_high c.args.side r.moves known.moves_upper known.moves_lower c.requires.moves_bound in record {
      st_value = known.valid;
      bands_asked = rw c.one_more-moves.ensures (bands_asked _ _ _ r.terms (sound_range_inputs r v) counts
          (sound_terms_valid r v));
    }

pub delta-requires : goal.delta-requires
delta-requires c =
    record { st_value = (sound_facts _ c.requires.r_value).valid; range_inputs = sound_range_inputs _ c.requires.r_value }

pub ranges_moved-ranges-requires : goal.ranges_moved-ranges-requires
ranges_moved-ranges-requires c = rw c.delta.ensures (sound_shiftable c.args.r c.requires.r_value)

pub session_moved-requires : goal.session_moved-requires
session_moved-requires c = (sound_facts _ c.requires.r_value).session

pub returns : goal.returns
unfolding moved
returns c =
    rw (
      c.session_moved.ensures,
      c.near_cleared-near.ensures,
      c.bands_moved-bands.ensures,
      c.ranges_moved-ranges.ensures,
      c.delta.ensures,
      c.bands_of-fresh.ensures,
      c.one_more-moves.ensures,
    )
