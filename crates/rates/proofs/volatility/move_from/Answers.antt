-- `volatility::move_from` meets its contract: two prices are less than 10^10 apart, so that the millionths fit.
use mathlib.Core.Path.{◌≡◌}
use mathlib.Core.Bool.{true}
use Prim.Native.Nat.{ℕ, ◌≤◌}
use native.Mathlib.Omega.{arith}
use lib.Dec.{leb}
use borrow.Author.Tests.{leb-true}
use Rattle.paper.specs.Numbers.{price_least, price_most}
use Rattle.paper.specs.Roundings.{apart}
use Rattle.paper.specs.Ranges.{is_price}
use Rattle.paper_desk.specs.Rates.{move_from}
use Rattle.paper.proofs.Logic.{and_left, and_right}
use Rattle.rates.proofs.volatility.move_from.Goals as goal

price_range : (p : ℕ) → is_price p ≡ true → (price_least ≤ p) × (p ≤ price_most)
unfolding is_price
price_range p e = (leb-true _ _ (and_left (leb price_least p) _ e), leb-true _ _ (and_right (leb price_least p) _ e))

pub overflow_mul-abs_diff : goal.overflow_mul-abs_diff
unfolding apart
overflow_mul-abs_diff c = omega (arith, c.abs_diff.ensures, price_range _ c.requires.0, price_range _ c.requires.1)

pub up-requires : goal.up-requires
up-requires c = (price_range _ c.requires.0).0

pub returns : goal.returns
unfolding move_from apart
returns c = rw (c.up.ensures, c.abs_diff.ensures)
