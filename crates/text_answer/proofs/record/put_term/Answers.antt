-- `put_term` meets its contract: K RRCL RRCH BANDLOWER BANDUPPER NEARTOP NEARBOTTOM.
use mir.Facts.{to_z-of_z}
use mir.Syntax.{w64}
use native.Mathlib.Omega.{arith}
use Rattle.text_bytes.specs.Numbers.{spaced}
use Rattle.text_protocol.specs.Answers.{term_numbers}
use Rattle.text_out.specs.Appends.{appending}
use Rattle.text_answer.proofs.record.put_term.Goals as goal

pub returns-clause-text : goal.returns-clause-text
unfolding term_numbers spaced
returns-clause-text c =
    let term = c.args.term in
    let low = to_z-of_z {w = w64} {z = term.low} (record { sfits = omega arith }) in
    let high = to_z-of_z {w = w64} {z = term.high} (record { sfits = omega arith }) in
    grind (arith, appending, low, high)
