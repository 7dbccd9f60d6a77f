-- The weight, the replacement and the tentative rate: of the reasons of each one holds.
use mathlib.Core.Path.{◌≡◌, refl}
use mathlib.Core.Logic.{◌⊎◌, inl, inr}
use mathlib.Core.Bool.{Bool, true, false}
use Prim.Native.Nat.{ℕ, ◌+◌, ◌≤◌, ◌<◌}
use borrow.Author.Tests.{le-leb, lt-ltb}
use Rattle.paper.specs.declared.Statics.{Statics}
use Rattle.paper.specs.declared.Tentative.{Tentative}
use Rattle.paper.specs.Verdicts.{NoneApplies, none, also}
use Rattle.paper.proofs.Logic.{not_true_and_false, and_both, le_or_lt}
use Rattle.paper_reasons.specs.declared.WeightReason.TheVariants as weight
use Rattle.paper_reasons.specs.declared.ReplacementReason.TheVariants as replacement
use Rattle.paper_reasons.specs.declared.TentativeReason.TheVariants as tentative
use Rattle.paper_reasons.specs.Reasons.{is_in_order, weight_given, weight_reasons, weight_reason}
use Rattle.paper_reasons.specs.Reasons.{replacement_was, replacement_reasons, replacement_reason, tentative_did}
use Rattle.paper_reasons.specs.Reasons.{tentative_reasons, tentative_reason, TrueReason}
use Rattle.paper_reasons.proofs.First.{true_reason}

-- With isEWMA yes the reasons are those of the model
module _ (st : Statics) (ewma : st.ewma ≡ true) where
  pub weight_named : (b r s : ℕ) → TrueReason (weight_given b r s) weight_reasons (weight_reason st b r s)
  unfolding weight_reason weight_given
  weight_named b r s = rw ewma (true_reason weight.None (weight_given b r s) weight_reasons some)
    where
      some : NoneApplies (is_in_order (weight_given b r s) weight_reasons) → ⊥
      some (also x (also y (also z none))) = go (le_or_lt r s)
        where
          go : (r ≤ s) ⊎ (s < r) → ⊥
          go (inl l) = not_true_and_false _ (le-leb r s l) z
          go (inr l) = not_true_and_false _ (lt-ltb s r l) y

  pub replacement_named : (won : Bool)
      → TrueReason (replacement_was won) replacement_reasons (replacement_reason st won)
  unfolding replacement_reason replacement_was
  replacement_named won = rw ewma (true_reason replacement.None (replacement_was won) replacement_reasons (some won))
    where
      some : (won : Bool) → NoneApplies (is_in_order (replacement_was won) replacement_reasons) → ⊥
      some true (also x (also y none)) = not_true_and_false true refl x
      some false (also x (also y none)) = not_true_and_false true refl y

  pub tentative_named : (t : ℕ) (old : Tentative)
      → TrueReason (tentative_did st.h st.wait t old) tentative_reasons (tentative_reason st t old)
  unfolding tentative_reason tentative_did
  tentative_named t old =
      rw ewma (true_reason tentative.None (tentative_did st.h st.wait t old) tentative_reasons some)
    where
      some : NoneApplies (is_in_order (tentative_did st.h st.wait t old) tentative_reasons) → ⊥
      some (also w (also x (also y (also z none)))) =
          go (le_or_lt (old.bp + st.h) t) (le_or_lt (t + st.h) old.bp)
        where
          go : (old.bp + st.h ≤ t) ⊎ (t < old.bp + st.h) → (t + st.h ≤ old.bp) ⊎ (old.bp < t + st.h) → ⊥
          go (inl l) k = not_true_and_false _ (le-leb _ _ l) w
          go (inr l) (inl k) = not_true_and_false _ (le-leb _ _ k) y
          go (inr l) (inr k) = not_true_and_false _ (and_both _ _ (lt-ltb _ _ l) (lt-ltb _ _ k)) z
