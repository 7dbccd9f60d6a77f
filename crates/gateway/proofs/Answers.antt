-- The three answers of every call, from the tests that led to them and the number that was made.
use mathlib.Core.Path.{◌≡◌, ap, sym, ◌∙◌}
use mathlib.Core.Bool.{Bool, true, false}
use Prim.Native.Nat.{ℕ}
use lib.IntN.{ℤ, pos, neg_ℤ}
use mir.Syntax.{w64}
use mir.Val.{SFits, to_z, of_z}
use mir.Facts.{to_z-of_z}
use Rattle.paper.specs.declared.Statics.{Statics}
use Rattle.paper.specs.declared.GivenStatics.{GivenStatics}
use Rattle.paper.specs.declared.Verdict.TheVariants.{AdmissionOutOfRange, OutOfRange}
use Rattle.paper.specs.Ranges.{valid_given, valid_statics, statics_of}
use Rattle.paper.specs.Verdicts.{number_of, first_of}
use Rattle.paper_desk.specs.Gateway.{gateway_checks, gateway_answer}
use Rattle.paper_desk.proofs.Units.{gateway_answers_minus_four, gateway_answers_minus_six, gateway_answers_figure}
use Rattle.inputs.proofs.Facts.{given_statics_valid}

-- the statics that a call is worked out in are valid where the test of those given passed
pub made_valid : {valid : Bool} {st : Statics} (g : GivenStatics) → valid ≡ valid_given g → valid ≡ true
    → st ≡ statics_of g → valid_statics st ≡ true
made_valid g e t s = rw s (given_statics_valid g (sym e ∙ t))

-- r, read back from its bits, is the answer of a call whose tests of the statics and of the other values gave valid and
-- inside
module _ {r : ℤ} {valid : Bool} (g : GivenStatics) (in_range : Bool) (n : ℕ) (fits : SFits w64 r)
    (e : valid ≡ valid_given g) where
  pub answers_minus_four : r ≡ neg_ℤ (pos (number_of AdmissionOutOfRange)) → valid ≡ false
      → to_z w64 (of_z w64 r) ≡ gateway_answer (first_of (gateway_checks g in_range)) n
  answers_minus_four is t = to_z-of_z fits ∙ is ∙ sym (gateway_answers_minus_four g in_range n (sym e ∙ t))

  pub answers_minus_six : {inside : Bool} → r ≡ neg_ℤ (pos (number_of OutOfRange)) → valid ≡ true → inside ≡ in_range
      → inside ≡ false
      → to_z w64 (of_z w64 r) ≡ gateway_answer (first_of (gateway_checks g in_range)) n
  answers_minus_six is t f u = to_z-of_z fits ∙ is ∙ sym (gateway_answers_minus_six g in_range n (sym e ∙ t) (sym f ∙ u))

  pub answers_figure : {inside : Bool} {k : ℕ} → r ≡ pos k → k ≡ n → valid ≡ true → inside ≡ in_range → inside ≡ true
      → to_z w64 (of_z w64 r) ≡ gateway_answer (first_of (gateway_checks g in_range)) n
  answers_figure is same t f u =
      to_z-of_z fits ∙ is ∙ ap pos same ∙ sym (gateway_answers_figure g in_range n (sym e ∙ t) (sym f ∙ u))
