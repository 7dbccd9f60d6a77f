-- `say_worked` meets its contract: LOWER UPPER, and the figures of each key maturity.
use mir.Facts.{to_z-of_z}
use mir.Syntax.{w64}
use native.Mathlib.Omega.{arith}
use Rattle.text_answer.proofs.Told.{interest_told}
use Rattle.text_answer.proofs.interest_line.say_worked.Goals as goal

pub returns-clause-text : goal.returns-clause-text
returns-clause-text c =
    let a = c.args.a in
    let low = to_z-of_z {w = w64} {z = a.pair.lower} (record { sfits = omega arith }) in
    let high = to_z-of_z {w = w64} {z = a.pair.upper} (record { sfits = omega arith }) in
    interest_told c.args.a c.args.out.now _ _ _ _ _ c.put_number.ensures.text (rw low at c.put_next_signed.ensures.text)
    (rw high at c.put_next_signed-2.ensures.text) c.put_maturities.ensures.text c.put_byte.ensures.text
