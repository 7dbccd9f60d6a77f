-- `sum_value` meets its contract: by the half that the sum is of.
use Prim.Native.Nat.{◌<◌}
use native.Mathlib.Omega.{arith}
use mir.Facts.{to_z-of_z, to_z_pos}
use mir.Syntax.{w64}
use Rattle.paper.proofs.Differences.{minus_one_less_is_negsuc}
use Rattle.paper_messages.specs.Bytes.{in_width}
use Rattle.paper_messages.specs.Fields.{sum_width}
use Rattle.messages.proofs.Halves.{lower_fits, lower_is_signed, upper_small, upper_fits, upper_is_signed}
use Rattle.text_broadcast.proofs.sum_value.Goals as goal
use Rattle.text_broadcast.proofs.sum_value.Goals.{Else-number-le-SIGNED_MOST}

-- a sum has four bytes
small : (c : Else-number-le-SIGNED_MOST) → c.before.args.sum < in_width sum_width
small c = omega arith

pub returns-then-number-le-SIGNED_MOST : goal.returns-then-number-le-SIGNED_MOST
returns-then-number-le-SIGNED_MOST c =
    let four : c.args.sum < in_width sum_width = omega arith in
    let low = c.if-number-le-SIGNED_MOST.true in
    rw (to_z_pos w64 (lower_fits sum_width _ (omega arith) four low))
    (lower_is_signed sum_width _ (omega arith) four low)

pub overflow_sub-result-2 : goal.overflow_sub-result-2
overflow_sub-result-2 c =
    let high = c.if-number-le-SIGNED_MOST.false in
    rw (to_z_pos w64 (upper_small sum_width _ (omega arith) (small (goal.at.overflow_sub-result-2 c).Else-number-le-SIGNED_MOST) high), minus_one_less_is_negsuc _)
    (upper_fits sum_width _ (omega arith) (small (goal.at.overflow_sub-result-2 c).Else-number-le-SIGNED_MOST) high)

pub returns : goal.returns
returns c =
    let high = c.if-number-le-SIGNED_MOST.false in
    rw (
      to_z_pos w64 (upper_small sum_width _ (omega arith) (small (goal.at.returns c).Else-number-le-SIGNED_MOST) high),
      minus_one_less_is_negsuc _,
      to_z-of_z (upper_fits sum_width _ (omega arith) (small (goal.at.returns c).Else-number-le-SIGNED_MOST) high),
    ) (upper_is_signed sum_width _ (omega arith) (small (goal.at.returns c).Else-number-le-SIGNED_MOST) high)
