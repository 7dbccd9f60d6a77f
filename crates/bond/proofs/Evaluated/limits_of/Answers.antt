-- `bond::Evaluated::limits_of` meets its contract: Carry at the term, and the limits that it makes.
use mathlib.Core.Path.{◌≡◌}
use mir.Syntax.{w64}
use mir.Val.{to_z, of_z}
use Rattle.inputs.proofs.Facts.{price_facts}
use Rattle.limits.specs.LimitRanges.{term_days_within_most}
use Rattle.paper_bonds.specs.Bonds.{flows_of, carry_of, limits_of}
use Rattle.paper_bonds.proofs.BondFigures.{bond_statics_valid}
use Rattle.bond.specs.FlowLaws.{CarryInputs, carry_most_lem}
use Rattle.bond.proofs.Sizes.{rate_kept_in_bits}
use Rattle.bond.proofs.Facts.{BondFacts, bond_facts, first_rate_high}
use Rattle.bond.proofs.Evaluated.limits_of.Goals as goal
use Rattle.bond.proofs.Evaluated.limits_of.Goals.{After-carry_of-carry, Start}

facts_known : (s : Start) → BondFacts s.args.self.now.b
facts_known s = bond_facts s.args.self.now.b s.args.self.now.price_known.valid

-- REPORate is its own bits read back
bits_read_back : (s : Start) → to_z w64 (of_z w64 s.args.self.now.b.repo) ≡ s.args.self.now.b.repo
bits_read_back s = rate_kept_in_bits s.args.self.now.b.repo (facts_known s).repo

inputs_in_range : (s : Start) → CarryInputs s.args.x.k s.args.self.now.b.repo
inputs_in_range s = record { days = term_days_within_most s.args.x s.requires; rate = (facts_known s).repo }

carry_is : (c : After-carry_of-carry)
    → c.carry_of-carry.result
    ≡ carry_of c.before.before.before.args.self.now.b.repo c.before.before.before.args.x.k
    (flows_of c.before.before.before.args.self.now.flows.now)
carry_is c = rw (bits_read_back c.before.before.before.before.before) at c.carry_of-carry.ensures

pub carry_of-carry-requires : goal.carry_of-carry-requires
carry_of-carry-requires c = record { carry_inputs = rw (bits_read_back (goal.at.carry_of-carry-requires c).Start) (inputs_in_range (goal.at.carry_of-carry-requires c).Start); numbers_value = c.args.self.now.price_known.flows }

pub limits_of-requires : goal.limits_of-requires
limits_of-requires c =
    let b = c.args.self.now.b in
    let figured = c.args.self.now.figured in record {
      scale_range = record {
        carry = rw (carry_is (goal.at.limits_of-requires c).After-carry_of-carry) (carry_most_lem _ _ _ (inputs_in_range (goal.at.limits_of-requires c).Start) c.args.self.now.price_known.flows);
        accrued = (facts_known (goal.at.limits_of-requires c).Start).accrued;
        face = c.args.self.now.price_known.face;
        repo = rw (bits_read_back (goal.at.limits_of-requires c).Start) (facts_known (goal.at.limits_of-requires c).Start).repo;
      };
      st_value = rw figured.statics (bond_statics_valid b c.args.self.now.price_known.valid);
      term_range = record {
        price = rw figured.price (price_facts _ c.args.self.now.price_known.price).most;
        rate_high = rw figured.rate (first_rate_high b c.args.self.now.price_known.valid);
        term = c.requires;
      };
    }

pub returns : goal.returns
unfolding limits_of
returns c =
    let figured = c.args.self.now.figured in
    rw (
      c.limits_of.ensures,
      bits_read_back (goal.at.returns c).Start,
      carry_is (goal.at.returns c).After-carry_of-carry,
      figured.statics,
      figured.price,
      figured.rate,
    )
