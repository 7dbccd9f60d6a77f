-- `text_call::term_of` meets its contract: the term whose days stand at a place, and its band behind them.
use mir.Facts.{to_z-of_z}
use mir.Syntax.{w64}
use borrow.Author.Rules.{rules}
use Rattle.text_call.proofs.term_of.Goals as goal

pub returns : goal.returns
returns c = let low = to_z-of_z {w = w64} {z = c.signed_at.result} (search rules) in let high = to_z-of_z
    {w = w64} {z = c.signed_at-2.result} (search rules) in rw (
      c.number_at.ensures,
      (rw (low, high) at c.band_of.ensures),
      c.signed_at.ensures,
      c.signed_at-2.ensures,
    )
