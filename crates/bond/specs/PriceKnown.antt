-- What is known of a bond that is not refused 6, 17 or 7, and of the figures that its limits are worked out from.
use Rattle.std.specs.Prelude.{◌≡◌, true, List, ◌<◌, ℤ}
use Rattle.paper.specs.declared.Price.{Price}
use Rattle.paper.specs.declared.Rate.{Rate}
use Rattle.paper.specs.declared.Statics.{Statics}
use Rattle.paper.specs.Ranges.{is_price}
use Rattle.paper_bonds.specs.declared.Bond.{Bond}
use Rattle.paper_bonds.specs.Bonds.{bond_statics, valid_bond, valid_flows, gross_of, first_rate}

-- it is in range, has a face value, and its gross evaluation is a price
pub record PriceKnown (b : Bond) (numbers : List ℤ) : Type 0 where
  pub valid : valid_bond b ≡ true
  pub flows : valid_flows numbers ≡ true
  pub face : 0 < b.face
  pub price : is_price (gross_of b) ≡ true

-- its statics, P and S_1
pub record Figured (b : Bond) (st : Statics) (p : Price) (s1 : Rate) : Type 0 where
  pub statics : st ≡ bond_statics b
  pub price : p.units ≡ gross_of b
  pub rate : s1.bp ≡ first_rate b
