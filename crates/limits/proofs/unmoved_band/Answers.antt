-- `limits::unmoved_band` meets its contract, side by side, each with its own P·(x_pr ± S_1), repo rate and farthest
-- limit.
use Rattle.paper.specs.declared.Side.TheVariants.{Upper, Lower}
use Rattle.limits.specs.LimitRanges.{term_days_within_most, term_repo_within_most, term_repo_bits}
use Rattle.limits.proofs.unmoved_band.Goals as goal

pub unmoved_limit-below-requires : goal.unmoved_limit-below-requires
unmoved_limit-below-requires c =
    let x = c.args.x in
    let v = c.requires.x_value in
    rw (term_repo_bits Lower x v) record { unmoved_inputs = c.requires.unmoved_inputs.0; k_le_term_days_most = (term_days_within_most x v, term_repo_within_most Lower x v) }

pub unmoved_limit-above-requires : goal.unmoved_limit-above-requires
unmoved_limit-above-requires c =
    let x = c.args.x in
    let v = c.requires.x_value in
    rw (term_repo_bits Upper x v) record { unmoved_inputs = c.requires.unmoved_inputs.1; k_le_term_days_most = (term_days_within_most x v, term_repo_within_most Upper x v) }

pub returns : goal.returns
returns c =
    rw (
      c.narrower.ensures,
      c.narrower-2.ensures,
      c.unmoved_limit-below.ensures,
      c.unmoved_limit-above.ensures,
      term_repo_bits Lower c.args.x c.requires.x_value,
      term_repo_bits Upper c.args.x c.requires.x_value,
    )
