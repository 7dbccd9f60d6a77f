-- `record_writing::near_on` meets its contract, side by side: each is tested against the band of the quote's term.
use native.Mathlib.Omega.{arith}
use Rattle.inputs.proofs.Facts.{quote_facts}
use Rattle.paper_desk.specs.Desk.{near_on}
use Rattle.record_writing.proofs.Facts.{quoted_term_below_three, band_near_in_range}
use Rattle.record_writing.proofs.near_on.Goals as goal

pub offset_bounds-r-term : goal.offset_bounds-r-term
offset_bounds-r-term c = record { fits = omega (arith, quoted_term_below_three _ c.requires.q_value) }

pub bounds-r-term : goal.bounds-r-term
bounds-r-term c = quoted_term_below_three _ c.requires.q_value

pub offset_bounds-r-term-2 : goal.offset_bounds-r-term-2
offset_bounds-r-term-2 c = record { fits = omega (arith, quoted_term_below_three _ c.requires.q_value) }

pub bounds-r-term-2 : goal.bounds-r-term-2
bounds-r-term-2 c = quoted_term_below_three _ c.requires.q_value

pub returns : goal.returns
unfolding near_on
returns c =
    rw (
      c.near_after-2.ensures,
      c.near_after.ensures,
      c.is_near-below.ensures,
      c.is_near-above.ensures,
    )

pub is_near-above-requires : goal.is_near-above-requires
is_near-above-requires c =
    let known = c.requires in
    band_near_in_range _ _ _ known.r_value known.q_value (quote_facts _ known.q_value).bid_most

pub is_near-below-requires : goal.is_near-below-requires
is_near-below-requires c =
    let known = c.requires in
    band_near_in_range _ _ _ known.r_value known.q_value (quote_facts _ known.q_value).ask_most
