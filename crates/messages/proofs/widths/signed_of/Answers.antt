-- `signed_of` meets its contract: by the half that the number is of.
use Prim.Native.Nat.{◌/◌, ◌≤◌, ◌<◌}
use mir.Facts.{to_z-of_z, to_z_pos}
use mir.Syntax.{w64}
use Rattle.paper.proofs.Differences.{minus_one_less_is_negsuc}
use Rattle.paper_messages.specs.Bytes.{in_width, width_most}
use Rattle.messages.specs.FieldRoom.{greatest_of}
use Rattle.messages.proofs.Halves.{lower_fits, lower_is_signed, upper_small}
use Rattle.messages.proofs.Halves.{upper_fits, upper_is_signed}
use Rattle.messages.proofs.widths.signed_of.Goals as goal
use Rattle.messages.proofs.widths.signed_of.Goals.{Else-number-most}

pre : (c : Else-number-most)
    → let a = c.before.before.args in
    (a.width ≤ width_most) × (a.number < in_width a.width)
pre c = c.before.before.requires

high : (c : Else-number-most) → greatest_of c.before.before.args.width / 2 < c.before.before.args.number
high c = rw c.before.greatest-most.ensures at c.if-number-most.false

pub overflow_sub-result-else-number-most : goal.overflow_sub-result-else-number-most
overflow_sub-result-else-number-most c =
    let k = high (goal.at.overflow_sub-result-else-number-most c).Else-number-most in
    rw (c.greatest-most.ensures, to_z_pos w64 (upper_small _ _ (pre (goal.at.overflow_sub-result-else-number-most c).Else-number-most).0 (pre (goal.at.overflow_sub-result-else-number-most c).Else-number-most).1 k), minus_one_less_is_negsuc _)
    (upper_fits _ _ (pre (goal.at.overflow_sub-result-else-number-most c).Else-number-most).0 (pre (goal.at.overflow_sub-result-else-number-most c).Else-number-most).1 k)

pub returns-then-number-most : goal.returns-then-number-most
returns-then-number-most c =
    let low = rw c.greatest-most.ensures at c.if-number-most.true in
    let p = c.requires in
    rw (to_z_pos w64 (lower_fits _ _ p.0 p.1 low)) (lower_is_signed _ _ p.0 p.1 low)

pub returns-else-number-most : goal.returns-else-number-most
returns-else-number-most c =
    let k = high (goal.at.returns-else-number-most c).Else-number-most in
    rw (
      c.greatest-most.ensures,
      to_z_pos w64 (upper_small _ _ (pre (goal.at.returns-else-number-most c).Else-number-most).0 (pre (goal.at.returns-else-number-most c).Else-number-most).1 k),
      minus_one_less_is_negsuc _,
      to_z-of_z (upper_fits _ _ (pre (goal.at.returns-else-number-most c).Else-number-most).0 (pre (goal.at.returns-else-number-most c).Else-number-most).1 k),
    ) (upper_is_signed _ _ (pre (goal.at.returns-else-number-most c).Else-number-most).0 (pre (goal.at.returns-else-number-most c).Else-number-most).1 k)
