-- `text_bond::bond_of` meets its contract: each number is read at the place of its name.
use mir.Syntax.{w64}
use mir.Facts.{to_z-of_z}
use Rattle.text_protocol.specs.Names.{the, place_of, bond_names, code}
use Rattle.text_protocol.specs.Calls.{term_of, bond_of}
use borrow.Author.Rules.{rules}
use Rattle.text_bond.proofs.bond_of.Goals as goal

pub returns : goal.returns
unfolding bond_of term_of the place_of bond_names code
returns c =
    let repo = to_z-of_z {w = w64} {z = c.signed_at.result} (search rules) in
    rw (
      repo,
      c.number_at.ensures,
      c.number_at-2.ensures,
      c.number_at-3.ensures,
      c.number_at-4.ensures,
      c.number_at-5.ensures,
      c.number_at-6.ensures,
      c.number_at-7.ensures,
      c.statics_of.ensures,
      c.term_of.ensures,
      c.term_of-2.ensures,
      c.term_of-3.ensures,
      c.signed_at.ensures,
    )
