-- "For every input, refusals among them, a public call's promise must determine the answer": any two answers that the
-- contract of an exported function allows are equal. `Post` is the plain reading of the function's own `ensures`: at
-- its arguments, the result, and the parameters as it returns.
use mathlib.Core.Path.{◌≡◌, sym, ◌∙◌}
use contract.Lifetimes.{Lfts}
use borrow.Fn.World.{ArgsD, ResD}
use borrow.Fn.Kinds.{ended_of}
use denote.Triple.Clauses.{AtExit}
use Rattle.nedrubal.specs.contracts.nedrubal_level_rate
use Rattle.nedrubal.specs.contracts.nedrubal_range_limit
use Rattle.nedrubal.specs.contracts.nedrubal_band_limit
use Rattle.nedrubal.proofs.nedrubal_level_rate as level
use Rattle.nedrubal.proofs.nedrubal_range_limit as range
use Rattle.nedrubal.proofs.nedrubal_band_limit as band

pub level_rate_determined : (κs : Lfts 0) (a : ArgsD nedrubal_level_rate.signature κs) (r r' : ResD nedrubal_level_rate.signature κs)
    (s s' : AtExit (ended_of 0 level.Kinds.ps level.Kinds.r) κs)
    → level.Reads.Post κs a r s → level.Reads.Post κs a r' s' → r ≡ r'
level_rate_determined κs a r r' s s' p p' = p ∙ sym p'

pub range_limit_determined : (κs : Lfts 0) (a : ArgsD nedrubal_range_limit.signature κs) (r r' : ResD nedrubal_range_limit.signature κs)
    (s s' : AtExit (ended_of 0 range.Kinds.ps range.Kinds.r) κs)
    → range.Reads.Post κs a r s → range.Reads.Post κs a r' s' → r ≡ r'
range_limit_determined κs a r r' s s' p p' = p ∙ sym p'

pub band_limit_determined : (κs : Lfts 0) (a : ArgsD nedrubal_band_limit.signature κs) (r r' : ResD nedrubal_band_limit.signature κs)
    (s s' : AtExit (ended_of 0 band.Kinds.ps band.Kinds.r) κs)
    → band.Reads.Post κs a r s → band.Reads.Post κs a r' s' → r ≡ r'
band_limit_determined κs a r r' s s' p p' = p ∙ sym p'
