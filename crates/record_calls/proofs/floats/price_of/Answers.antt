-- `price_of` meets its contract: `x != x` tells what is no number from every other float, whose bits may be read.
use mathlib.Core.Path.{◌≡◌, refl, sym, ◌∙◌, subst}
use mathlib.Core.Bool.{true, false}
use lib.Dec.{T}
use lib.Ieee.{Float, nan, inf, fin, ne, is_nan, binary64, to_bits}
use lib.Ieee.Compare.{differs_from_itself, nan_differs}
use Rattle.std.specs.declared.option.Option.TheVariants.{None}
use Rattle.paper.proofs.Logic.{not_true_and_false}
use Rattle.paper.specs.Floats.{price_of_bits, price_of}
use Rattle.paper.proofs.ByValue.{nan_refused}
use Rattle.record_calls.proofs.floats.price_of.Goals as goal

differs_refused : (x : Float) → ne x x ≡ true → price_of x ≡ None
differs_refused x h = rw (differs_from_itself x (subst T (sym h) tt)) nan_refused

-- a float that is itself is a number or an infinity
no_nan : (x : Float) → ne x x ≡ false → is_nan x ≡ false
unfolding is_nan
no_nan nan h = absurd (not_true_and_false (ne nan nan) nan_differs h)
no_nan (inf s) h = refl
no_nan (fin s m e) h = refl

by_bits : (x : Float) → is_nan x ≡ false → price_of x ≡ price_of_bits (to_bits binary64 x)
unfolding price_of
by_bits x h = rw h

pub returns-then-x : goal.returns-then-x
returns-then-x c = sym (differs_refused _ c.if-x.true)

pub float_to_bits-x : goal.float_to_bits-x
float_to_bits-x c = rw (no_nan c.args.x c.if-x.false) tt

pub returns : goal.returns
returns c = c.price_of_bits.ensures ∙ sym (by_bits _ (no_nan _ c.if-x.false))
