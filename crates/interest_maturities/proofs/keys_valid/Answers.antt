-- `interest_maturities::keys_valid` meets its contract: its two tables have the definition's ranges, in its order.
use mathlib.Core.Path.{◌∙◌}
use native.Mathlib.Nat.{add-zero}
use Rattle.paper_interest.specs.Interest.{key_at, keys_of, whole_keys, valid_key, valid_keys}
use Rattle.exact.specs.Within.{within_first, parts_within_is}
use Rattle.interest_maturities.proofs.keys_valid.Goals as goal

pub returns : goal.returns
unfolding valid_keys whole_keys valid_key key_at keys_of within_first
returns c = c.parts_within.ensures ∙ parts_within_is valid_key key_at _ _ _ (λ at. rw add-zero) _ _
