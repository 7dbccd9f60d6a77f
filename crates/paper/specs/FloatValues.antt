-- W-211's price of a float said on its value, as the logic's own floats have it: `fin s m e` is m·2^e, below zero where
-- s is true, and 2^e is `up e`/`down e`. `ByValue` proves that the rule on the bits is this one.
use Rattle.std.specs.Prelude.{◌*◌, true, false, Float}
use Rattle.std.specs.Float.{nan, inf, fin}
use Rattle.std.specs.Float.Ieee.{up, down}
use Rattle.std.specs.declared.option.Option.{Option}
use Rattle.std.specs.declared.option.Option.TheVariants.{None}
use Rattle.paper.specs.declared.Price.{Price}
use Rattle.paper.specs.Ranges.{price_made}
use Rattle.paper.specs.Floats.{units_of}

unfoldable pub price_of_value : Float → Option Price
price_of_value nan = None
price_of_value (inf s) = None
price_of_value (fin true m e) = None
price_of_value (fin false m e) = price_made (units_of (record { num = m * up e; den = down e }))
