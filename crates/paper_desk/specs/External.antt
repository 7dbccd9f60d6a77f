-- Document 02, W-211: what is received of the outside source, and the pair that a record keeps after it.
use Rattle.std.specs.Prelude.{Bool, true, false, ◌||◌, ℕ}
use Rattle.std.specs.declared.option.Option.{Option}
use Rattle.std.specs.declared.option.Option.TheVariants.{None, Some}
use Rattle.paper.specs.declared.Price.{Price}
use Rattle.paper.specs.declared.Outside.{Outside}
use Rattle.paper.specs.declared.Notice.{Notice}
use Rattle.paper.specs.declared.Notice.TheVariants.{Bid, Ask, Withdrawal}
use Rattle.paper.specs.declared.External.{External}
use Rattle.paper.specs.Ranges.{no_external}
use Rattle.paper.specs.Floats.{price_of}

-- "our outside source sends a bid and an ask as 64-bit floats, and a notice": both together, or a notice
pub data Receipt : Type 0 where
  together : Outside → Receipt
  notice : Notice → Receipt

-- ---- 20

-- "a float that isn't finite, isn't above zero, or rounds to 0 or above 10^10 units": it has no price
unfoldable pub has_none : Option Price → Bool
has_none (Some price) = false
has_none None = true

-- "20 .. on receipt": one bad float of two refuses both
unfoldable pub is_bad : Receipt → Bool
is_bad (together sent) = has_none (price_of sent.bid) || has_none (price_of sent.ask)
is_bad (notice (Bid bid)) = has_none (price_of bid)
is_bad (notice (Ask ask)) = has_none (price_of ask)
is_bad (notice Withdrawal) = false

-- ---- the kept pair

-- the units of a price, 0 where there is none
unfoldable pub units_made : Option Price → ℕ
units_made (Some price) = price.units
units_made None = 0

-- "Both sent together replace the kept pair, a notice changes one side, a withdrawal clears both"
unfoldable pub kept_after : External → Receipt → External
kept_after kept (together sent) =
    record { bid = units_made (price_of sent.bid); ask = units_made (price_of sent.ask) }
kept_after kept (notice (Bid bid)) = record { bid = units_made (price_of bid); ask = kept.ask }
kept_after kept (notice (Ask ask)) = record { bid = kept.bid; ask = units_made (price_of ask) }
kept_after kept (notice Withdrawal) = no_external
