-- `nedrubal::nedrubal_range_limit` meets its contract: every number is handed on by its bits, read back, and made
-- unsigned once.
use Rattle.std.proofs.Common.{rules, w64, SFits}
use mir.Facts.{to_z-of_z}
use Rattle.paper_desk.specs.Gateway.{range_call}
use Rattle.nedrubal.proofs.Handed.{read_is_unsigned, none, more, given_of_numbers, same_call}
use Rattle.nedrubal.proofs.nedrubal_range_limit.Goals as goal

pub returns : goal.returns
returns c =
    let f = c.ranges in
    let answered : SFits w64 c.range_answer.result = search rules in
    rw (to_z-of_z answered, c.range_answer.ensures)
    (same_call range_call
    (given_of_numbers (search (none, more, f) depth 60) c.given_of-given.ensures)
    (read_is_unsigned f.p c.unsigned.ensures)
    (read_is_unsigned f.rate c.unsigned-2.ensures)
    (read_is_unsigned f.side c.unsigned-3.ensures))
