-- `evaluation::evaluate` meets its contract: each arm is one law of `Answers`, and the book's bounds keep the close
-- within a price.
use mathlib.Core.Path.{refl, sym, ◌∙◌}
use Prim.Native.Nat.{◌≤◌}
use native.Mathlib.Omega.{arith}
use Rattle.paper.specs.Numbers.{price_most}
use Rattle.evaluation.proofs.Sides.{lesser_le}
use Rattle.evaluation.proofs.Answers.{gathered_fitted, no_book_makes_beyond, book_makes_evaluation, close_le}
use Rattle.evaluation.proofs.Answers.{between_le}
use Rattle.evaluation.proofs.evaluate.Goals as goal

pub on_grid-requires : goal.on_grid-requires
on_grid-requires c =
    let s = c.requires in
    let bounds = s.bound.bounded c.in-Ok.book c.in-Ok.is in
    let close : c.close_of-close.result ≤ price_most =
    rw c.close_of-close.ensures (close_le _ _ _ s.units_le_price_most.0 bounds.mean) in
    let bid : c.max-bid.result ≤ price_most =
    rw c.max-bid.ensures (omega (arith, bounds.bid, s.bid_le_price_most.0)) in
    let ask : c.lesser_ask-ask.result ≤ price_most =
    rw c.lesser_ask-ask.ensures (lesser_le _ _ _ bounds.ask s.bid_le_price_most.1) in
    (s.units_le_price_most.1, s.units_le_price_most.2, rw c.between.ensures (between_le _ _ _ _ bid close ask))

pub returns : goal.returns
returns c = λ numbers e v x.
    rw (
      c.on_grid.ensures,
      c.between.ensures,
      c.lesser_ask-ask.ensures,
      c.max-bid.ensures,
      c.close_of-close.ensures,
    )
    (book_makes_evaluation _ _ _ _ c.in-Ok.book
    (sym c.in-Ok.is ∙ gathered_fitted numbers _ e v x))

pub returns-in_default : goal.returns-in_default
returns-in_default c = λ numbers e v x.
    no_book_makes_beyond _ _ _ _ _ refl (sym c.in_default.is ∙ gathered_fitted numbers _ e v x)
