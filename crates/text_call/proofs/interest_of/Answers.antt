-- `text_call::interest_of` meets its contract: each number is read at the place that its name has among
-- `interest_names`; MONEY and SECRATE are signed, and stay as they are read.
use mir.Syntax.{w64}
use mir.Facts.{to_z-of_z}
use Rattle.text_protocol.specs.Names.{the, place_of, interest_names, code}
use Rattle.text_protocol.specs.Calls.{interest_of}
use borrow.Author.Rules.{rules}
use Rattle.text_call.proofs.interest_of.Goals as goal

pub returns : goal.returns
unfolding interest_of the place_of interest_names code
returns c =
    let money = to_z-of_z {w = w64} {z = c.signed_at.result} (search rules) in
    let secrate = to_z-of_z {w = w64} {z = c.signed_at-2.result} (search rules) in
    rw (
      money,
      secrate,
      c.number_at.ensures,
      c.number_at-2.ensures,
      c.number_at-3.ensures,
      c.number_at-4.ensures,
      c.number_at-5.ensures,
      c.number_at-6.ensures,
      c.number_at-7.ensures,
      c.number_at-8.ensures,
      c.number_at-9.ensures,
      c.number_at-10.ensures,
      c.number_at-11.ensures,
      c.number_at-12.ensures,
      c.signed_at.ensures,
      c.signed_at-2.ensures,
    )
