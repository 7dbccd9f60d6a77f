-- Laws of a bond's cash flows by place: those from a place on, and a walk over the places that sums.
use Rattle.std.specs.Prelude.{◌≡◌, true, ℕ, ◌+◌, ◌%◌, ◌≤◌, ℤ, length}
use Rattle.std.proofs.Math.Path.{ap}
use Rattle.std.proofs.Common.{sym, ◌∙◌}
use mathlib.Core.List.{List, [], ◌∷◌, map}
use native.Mathlib.Omega.{arith}
use Rattle.paper.specs.Lists.{every}
use Rattle.paper.proofs.Logic.{and_left, and_right}
use Rattle.exact.specs.LentLaws.{Place, parts_left, left_first, left_here, left_end}
use Rattle.paper_bonds.specs.declared.Flow.{Flow}
use Rattle.paper_bonds.specs.BondNumbers.{money_most, flow_numbers}
use Rattle.paper_bonds.specs.Bonds.{LentFlow, flow_at, lent_flows, valid_flow, valid_flows, flow_of, flows_of}
use Rattle.paper_bonds.specs.Bonds.{carry_due, carry_of}
use Rattle.bond.specs.FlowLaws.{valid_every, amount_high}

abbrev pub rest_of : (numbers : List ℤ) → (at : ℕ) → List LentFlow
rest_of numbers at = parts_left flow_at flow_numbers numbers at

pub rest_first : (numbers : List ℤ) → rest_of numbers 0 ≡ lent_flows numbers
unfolding lent_flows
rest_first numbers = left_first flow_at flow_numbers numbers

-- ---- a walk that sums

-- at a place: what is summed, with Carry of the rest, is Carry of all; and the rest is in range
pub record Summing (numbers : List ℤ) (k : ℕ) (repo : ℤ) (total at : ℕ) : Type 0 where
  pub place : Place flow_numbers numbers at
  pub sums : total + carry_of repo k (map flow_of (rest_of numbers at)) ≡ carry_of repo k (flows_of numbers)
  pub valid : every valid_flow (rest_of numbers at) ≡ true

module _ (numbers : List ℤ) (k : ℕ) (repo : ℤ) where
  pub summing_first : valid_flows numbers ≡ true → Summing numbers k repo 0 0
  unfolding flows_of
  summing_first v =
      record {
        place = record { inside = omega arith; parts = 0; is = omega arith };
        sums = omega (arith, ap (λ (fs : List LentFlow). carry_of repo k (map flow_of fs)) (rest_first numbers));
        valid = ap (every valid_flow) (rest_first numbers) ∙ valid_every numbers v;
      }

  module _ (total at : ℕ) (s : Summing numbers k repo total at) where
    module _ (room : at + flow_numbers ≤ length numbers) where
      is : rest_of numbers at ≡ flow_at numbers at ∷ rest_of numbers (at + flow_numbers)
      is = left_here flow_at flow_numbers numbers at (omega arith) room

      here : every valid_flow (flow_at numbers at ∷ rest_of numbers (at + flow_numbers)) ≡ true
      here = ap (every valid_flow) (sym is) ∙ s.valid

      -- the one at hand is in range
      pub summing_amount : (flow_of (flow_at numbers at)).amount ≤ money_most
      unfolding every
      summing_amount =
          amount_high (flow_at numbers at)
          (and_left (valid_flow (flow_at numbers at)) (every valid_flow (rest_of numbers (at + flow_numbers))) here)

      pub summing_next : Summing numbers k repo (total + carry_due repo k (flow_of (flow_at numbers at)))
          (at + flow_numbers)
      unfolding every carry_of
      summing_next =
          let rest : List LentFlow = rest_of numbers (at + flow_numbers) in
          let more : carry_of repo k (map flow_of (rest_of numbers at))
          ≡ carry_due repo k (flow_of (flow_at numbers at)) + carry_of repo k (map flow_of rest) =
          ap (λ (fs : List LentFlow). carry_of repo k (map flow_of fs)) is in
          record {
            place = record { inside = room; parts = s.place.parts + 1; is = omega (arith, s.place.is) };
            sums = omega (arith, s.sums);
            valid = and_right (valid_flow (flow_at numbers at)) (every valid_flow rest) here;
          }

    pub summing_end : length numbers ≤ at → total ≡ carry_of repo k (flows_of numbers)
    unfolding carry_of
    summing_end h =
        let none : carry_of repo k (map flow_of (rest_of numbers at)) ≡ 0 =
        ap (λ (fs : List LentFlow). carry_of repo k (map flow_of fs))
        (left_end flow_at flow_numbers numbers at (omega arith) h) in
        omega (arith, s.sums)
