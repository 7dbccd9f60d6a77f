-- `text_bond::statics_of` meets its contract: each number is read at the place of its name.
use Rattle.text_protocol.specs.Names.{the, place_of, bond_names, code}
use Rattle.text_protocol.specs.Calls.{bond_statics_of}
use Rattle.text_bond.proofs.statics_of.Goals as goal

pub returns : goal.returns
unfolding bond_statics_of the place_of bond_names code
returns c =
    rw (
      c.number_at.ensures,
      c.number_at-2.ensures,
      c.number_at-3.ensures,
      c.number_at-4.ensures,
      c.number_at-5.ensures,
      c.number_at-6.ensures,
      c.number_at-7.ensures,
      c.number_at-8.ensures,
      c.number_at-9.ensures,
      c.number_at-10.ensures,
      c.number_at-11.ensures,
      c.number_at-12.ensures,
      c.number_at-13.ensures,
      c.number_at-14.ensures,
      c.number_at-15.ensures,
      c.number_at-16.ensures,
    )
