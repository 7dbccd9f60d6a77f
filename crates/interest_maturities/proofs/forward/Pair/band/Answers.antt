-- `interest_maturities::forward::Pair::band` meets its contract: held where the pair is 0/1.
use Rattle.std.proofs.Common.{rules, w64}
use mir.Val.{SFits}
use mir.Facts.{to_z-of_z}
use Rattle.interest_maturities.proofs.Bits.{rate_kept_in_bits}
use Rattle.interest_maturities.proofs.Ordered.{min_is_lesser, max_is_greater}
use Rattle.interest_maturities.specs.Pair.{band_worked, band_held}
use Rattle.interest_maturities.proofs.forward.Pair.band.Goals as goal

pub returns-then-is_held : goal.returns-then-is_held
unfolding band_held band_worked
returns-then-is_held c =
    let low : SFits w64 c.max.result = search rules in
    let high : SFits w64 c.min.result = search rules in
    let lower = to_z-of_z {w = w64} {z = c.worked-band.result.low} (search rules) in
    let upper = to_z-of_z {w = w64} {z = c.worked-band.result.high} (search rules) in
    let range = c.args.self.pair_range.given in
    let secrate = rate_kept_in_bits c.args.self.i.secrate range.secrate in
    let money = rate_kept_in_bits c.args.self.i.money range.money in
    rw (
      to_z-of_z low,
      to_z-of_z high,
      ← c.is_held.ensures,
      c.if-is_held.true,
      c.max.ensures.value,
      c.min.ensures.value,
      max_is_greater,
      min_is_lesser,
      lower,
      upper,
      secrate,
      money,
      c.worked-band.ensures,
    )

pub returns-else-is_held : goal.returns-else-is_held
unfolding band_held band_worked
returns-else-is_held c = rw (← c.is_held.ensures, c.if-is_held.false, c.worked-band.ensures)
