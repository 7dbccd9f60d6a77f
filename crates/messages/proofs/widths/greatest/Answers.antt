-- `greatest` meets its contract: each entry of the table is the greatest number of its width.
use mathlib.Core.Path.{◌≡◌, refl}
use mathlib.Core.List.{List, [], ◌∷◌, map}
use Prim.Native.Nat.{ℕ, zero, suc, ◌≤◌}
use native.Mathlib.Omega.{arith}
use lib.ListN.{get_or}
use Rattle.messages.specs.FieldRoom.{greatest_of}
use Rattle.messages.proofs.widths.greatest.Goals as goal

table : List ℕ
table = map greatest_of (0 ∷ 1 ∷ 2 ∷ 3 ∷ 4 ∷ 5 ∷ 6 ∷ 7 ∷ 8 ∷ [])

of_table : (width : ℕ) → width ≤ 8 → get_or table width 0 ≡ greatest_of width
unfolding table
of_table zero h = refl
of_table (suc zero) h = refl
of_table (suc (suc zero)) h = refl
of_table (suc (suc (suc zero))) h = refl
of_table (suc (suc (suc (suc zero)))) h = refl
of_table (suc (suc (suc (suc (suc zero))))) h = refl
of_table (suc (suc (suc (suc (suc (suc zero)))))) h = refl
of_table (suc (suc (suc (suc (suc (suc (suc zero))))))) h = refl
of_table (suc (suc (suc (suc (suc (suc (suc (suc zero)))))))) h = refl
of_table (suc (suc (suc (suc (suc (suc (suc (suc (suc width))))))))) h = absurd (omega arith)

-- no goal now: array-read-result
-- array-read-result : tie.Need-array-read-result
-- array-read-result c = search rules

pub returns : goal.returns
unfolding table
returns c = of_table c.args.width c.requires
