-- `answer::figure` meets its contract: a number below 2^63 keeps its value.
use native.Mathlib.Omega.{arith}
use mir.Syntax.{w64}
use mir.ValLaws.{to_z_pos}
use Rattle.gateway.proofs.answer.figure.Goals as goal

pub returns : goal.returns
returns c = to_z_pos w64 c.args.n (omega arith)
