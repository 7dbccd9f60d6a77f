-- The answer by what is refused: 6, then 17, then 7, then 9, else the figures.
use mathlib.Core.Path.{◌≡◌, refl, ap, ◌∙◌}
use mathlib.Core.Bool.{Bool, true, false, ◌&&◌, ◌||◌}
use mathlib.Core.List.{List, [], ◌∷◌}
use Rattle.std.specs.List.{list_any}
use native.Mathlib.Omega.{arith}
use lib.Dec.{eqb}
use lib.IntN.{ℤ}
use borrow.Author.Tests.{ne_eqb}
use Rattle.paper.specs.declared.Verdict.TheVariants.{OutOfRange, NoFaceValue, PriceOutOfRange, BandCrossed}
use Rattle.paper.specs.Lists.{some}
use Rattle.paper.specs.Ranges.{is_price}
use Rattle.paper.specs.Verdicts.{is_done, first_of}
use Rattle.paper.proofs.Logic.{and_both}
use Rattle.paper_bonds.specs.declared.Bond.{Bond}
use Rattle.paper_bonds.specs.declared.BondLimits.{BondLimits}
use Rattle.paper_bonds.specs.Bonds.{valid_bond, valid_flows, flows_of, gross_of, all_limits, is_crossed, bond_checks}
use Rattle.paper_bonds.specs.Bonds.{refused_bond, accepted_bond, bond_answer}
use Rattle.bond.specs.PriceKnown.{PriceKnown}

-- the library's word for a test that one of a list passes is the paper's
list_any-some : {A : Type 0} (p : A → Bool) (xs : List A) → list_any p xs ≡ some p xs
unfolding some
list_any-some p [] = refl
list_any-some p (x ∷ xs) = ap (λ (b : Bool). p x || b) (list_any-some p xs)

pub crossed_is : (crossed : Bool) (all limits : List BondLimits) → crossed ≡ list_any is_crossed limits → limits ≡ all
    → crossed ≡ some is_crossed all
crossed_is crossed all limits c l = c ∙ list_any-some is_crossed limits ∙ ap (some is_crossed) l

module _ (b : Bond) (numbers : List ℤ) where
  pub answers_out_of_range : (valid_bond b && valid_flows numbers) ≡ false → refused_bond OutOfRange ≡ bond_answer b numbers
  unfolding bond_answer bond_checks first_of is_done
  answers_out_of_range e = rw e

  pub answers_no_face_value : (valid_bond b && valid_flows numbers) ≡ true → eqb b.face 0 ≡ true
      → refused_bond NoFaceValue ≡ bond_answer b numbers
  unfolding bond_answer bond_checks first_of is_done
  answers_no_face_value e o = rw (e, o)

  pub answers_price_out_of_range : (valid_bond b && valid_flows numbers) ≡ true → eqb b.face 0 ≡ false
      → is_price (gross_of b) ≡ false
      → refused_bond PriceOutOfRange ≡ bond_answer b numbers
  unfolding bond_answer bond_checks first_of is_done
  answers_price_out_of_range e o p = rw (e, o, p)

  module _ (p : PriceKnown b numbers) where
    valid : (valid_bond b && valid_flows numbers) ≡ true
    valid = and_both (valid_bond b) (valid_flows numbers) p.valid p.flows

    faced : eqb b.face 0 ≡ false
    faced = ne_eqb b.face 0 (λ e. omega (arith, p.face))

    pub answers_band_crossed : some is_crossed (all_limits b (flows_of numbers)) ≡ true
        → refused_bond BandCrossed ≡ bond_answer b numbers
    unfolding bond_answer bond_checks first_of is_done
    answers_band_crossed e = rw (valid, faced, p.price, e)

    pub answers_figures : some is_crossed (all_limits b (flows_of numbers)) ≡ false
        → accepted_bond b (flows_of numbers) ≡ bond_answer b numbers
    unfolding bond_answer bond_checks first_of is_done
    answers_figures e = rw (valid, faced, p.price, e)
