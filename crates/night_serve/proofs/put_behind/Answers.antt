-- `night_serve::put_behind` meets its contract: the byte, and then the number.
use mathlib.Core.List.{[], ◌∷◌, append_assoc}
use lib.IntN.{pos}
use lib.ListN.{get_or}
use mir.Facts.{to_z-of_z}
use mir.Syntax.{w64}
use borrow.Author.Rules.{rules}
use Rattle.text_bytes.specs.Numbers.{signed}
use Rattle.night_serve.proofs.put_behind.Goals as goal

pub returns-clause-text : goal.returns-clause-text
returns-clause-text c =
    let n = get_or c.args.numbers.now c.args.i (pos 0) in
    let z = to_z-of_z {w = w64} {z = n} (search rules) in
    rw (c.put_signed.ensures.text, c.put_byte.ensures.text, z)
    (append_assoc c.args.out.now (c.args.b ∷ []) (signed n))
