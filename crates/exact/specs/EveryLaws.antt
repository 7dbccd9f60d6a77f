-- Laws of a test of every part of a list, for those who walk over a lent slice.
use Rattle.std.specs.Prelude.{◌≡◌, Bool, true, false, ◌&&◌, length, get_or}
use Rattle.std.proofs.Math.Path.{ap}
use Rattle.std.proofs.Common.{◌∙◌, arith}
use mathlib.Core.List.{List, [], ◌∷◌, map}
use Prim.Native.Nat.{ℕ, zero, suc, ◌<◌}
use Rattle.paper.specs.Lists.{every}
use Rattle.paper.proofs.Logic.{and_left, and_right}

module _ {A : Type 0} (p : A → Bool) where
  -- all pass where the one at hand does and the rest do
  pub every_cons : {all : List A} {x : A} {rest : List A} → all ≡ x ∷ rest → every p all ≡ (p x && every p rest)
  unfolding every
  every_cons is = ap (every p) is

  -- so one that passes leaves it to the rest, and one that does not decides it
  pub every_in : {all : List A} {x : A} {rest : List A} → all ≡ x ∷ rest → p x ≡ true → every p all ≡ every p rest
  every_in is e = every_cons is ∙ rw e

  pub every_out : {all : List A} {x : A} {rest : List A} → all ≡ x ∷ rest → p x ≡ false → every p all ≡ false
  every_out is e = every_cons is ∙ rw e

  pub every_nil : {all : List A} → all ≡ [] → every p all ≡ true
  unfolding every
  every_nil is = ap (every p) is

  -- where all pass, the one of number i does
  pub every_at : (all : List A) (i : ℕ) → every p all ≡ true → i < length all → get_or (map p all) i false ≡ true
  unfolding every
  every_at [] i e h = absurd (omega arith)
  every_at (x ∷ rest) zero e h = and_left (p x) (every p rest) e
  every_at (x ∷ rest) (suc i) e h = every_at rest i (and_right (p x) (every p rest) e) (omega arith)
