use mathlib.Core.Path.{◌∙◌, ap}
use mathlib.Core.List.{List, ◌++◌}
use Prim.Native.Nat.{ℕ, ◌≤◌}
use native.Mathlib.Omega.{arith}
use lib.ListN.{length}
use lib.Seq.{length-take-le}
use Rattle.text_bytes.specs.Numbers.{decimal}
use Rattle.text_out.proofs.DigitTurns.{spelling_more, spelling_all}
use Rattle.text_out.proofs.Text.put_number.Goals as goal

pub loop-i-preserved : goal.loop-i-preserved
loop-i-preserved c = spelling_more _ _ _ _ _ _ _ c.loop-i.invariant c.loop-i-test.true

pub returns-clause-text : goal.returns-clause-text
returns-clause-text c =
    let start : c.self.inside.length ≤ length c.self.inside.bytes = omega arith in
    let long = ap length c.self.view_is in
    spelling_all _ _ _ _ _ _ _ c.loop-i.invariant (omega arith) c.places.ensures
    (omega (arith, simp length-take-le at long))
    ∙ ap (λ (t : List ℕ). t ++ decimal c.args.x) c.self.view_is
