-- Document 01, "Ranges, bands, alerts, moves" (17.5): near sides and alerts.
use Rattle.std.specs.Prelude.{Bool, false, ◌&&◌, ℕ, ◌+◌, leb, ltb, ℤ, pos, ◌*ℤ◌}
use Rattle.std.proofs.Math.IntN.{sub_ℕ}
use Rattle.std.specs.Int.Signed.{lt_z}
use Rattle.paper.specs.declared.Side.{Side}
use Rattle.paper.specs.declared.Side.TheVariants.{Upper, Lower}
use Rattle.paper.specs.declared.Limits.{Limits}
use Rattle.std.specs.declared.option.Option.{Option}
use Rattle.std.specs.declared.option.Option.TheVariants.{None, Some}
use Rattle.paper.specs.declared.NearSeconds.{NearSeconds}
use Rattle.paper.specs.Lists.{pick}
use Rattle.paper.specs.Numbers.{one_in_ten_thousandths}

-- "PcH - bid" at the top, "ask - PcL" at the bottom
unfoldable pub distance : Side → Limits → (price : ℕ) → ℤ
distance Upper x price = sub_ℕ x.upper price
distance Lower x price = sub_ℕ price x.lower

-- "Near the top: bid present and PcH - bid strictly less than w·(PcH - PcL). Near the bottom likewise with ask - PcL."
unfoldable pub is_near : Side → (w : ℕ) → Limits → (price : ℕ) → Bool
is_near side w x price =
    ltb 0 price && lt_z (pos one_in_ten_thousandths *ℤ distance side x price) (pos w *ℤ sub_ℕ x.upper x.lower)

-- "A near side keeps the second at which it became near"
unfoldable pub kept_since : Option ℕ → (second : ℕ) → Option ℕ
kept_since None second = Some second
kept_since (Some earlier) second = Some earlier

-- "a quote that isn't near clears it"
unfoldable pub near_after : (near : Bool) → Option ℕ → (second : ℕ) → Option ℕ
near_after near old second = pick near (kept_since old second) None

-- "near, and at least u seconds since that second"
unfoldable pub alert : (u : ℕ) → Option ℕ → (second : ℕ) → Bool
alert u None second = false
alert u (Some since) second = leb (since + u) second

-- "It clears that side's near seconds": of one term
unfoldable pub near_cleared : Side → NearSeconds → NearSeconds
near_cleared Upper n = record { top = None; bottom = n.bottom }
near_cleared Lower n = record { top = n.top; bottom = None }
