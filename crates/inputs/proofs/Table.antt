-- The code's tests of the table of statics are the paper's (specs/Table.antt has theirs), for every table and every
-- static, by one induction over the rows.
use mathlib.Core.Path.{◌≡◌, refl, sym, ◌∙◌}
use mathlib.Core.Bool.{Bool, true, false, ◌&&◌, and_assoc, and-false, and-true}
use mathlib.Core.List.{List, [], ◌∷◌}
use Prim.Native.Nat.{ℕ}
use lib.Dec.{leb, eqb, leb-zero}
use borrow.Author.Tests.{eqb-true}
use Rattle.paper.specs.declared.Statics.{Statics}
use Rattle.paper.specs.Lists.{pick}
use Rattle.paper.specs.Ranges.{within, Static, statics_table, numbers_of, in_table}
use Rattle.paper.proofs.Logic.{and_left, and_right, and_both}
use Rattle.paper.proofs.StaticsFacts.{flag_in_row}
use Rattle.inputs.specs.Table.{test, joined, tests_pass}

-- whether each yes or no is in the range of its row
abbrev flags_pass : List Static → List ℕ → Bool
flags_pass [] numbers = true
flags_pass (row ∷ rows) [] = true
flags_pass (row ∷ rows) (x ∷ numbers) =
    pick row.is_flag (within row.least row.most x && flags_pass rows numbers) (flags_pass rows numbers)

test_is : (row : Static) (x : ℕ) → test row x ≡ within row.least row.most x
test_is row x = go (eqb row.least 0) refl
  where
    go : (b : Bool) → eqb row.least 0 ≡ b
        → pick b (leb x row.most) (within row.least row.most x) ≡ within row.least row.most x
    go true e = rw (eqb-true row.least 0 e, leb-zero)
    go false e = refl

joined_is : (rows : List Static) (numbers : List ℕ) (passed : Bool) → flags_pass rows numbers ≡ true
    → joined rows numbers passed ≡ (passed && in_table rows numbers)
joined_is [] numbers passed f = sym (and-true passed)
joined_is (row ∷ rows) [] passed f = sym (and-false passed)
joined_is (row ∷ rows) (x ∷ numbers) passed f =
    go row.is_flag refl (λ before g. joined_is rows numbers before g)
  where
    go : (b : Bool) → row.is_flag ≡ b
        → ((before : Bool) → flags_pass rows numbers ≡ true
        → joined rows numbers before ≡ (before && in_table rows numbers))
        → joined rows numbers (pick b passed (passed && test row x))
        ≡ (passed && (within row.least row.most x && in_table rows numbers))
    go true e rest =
        let own : Bool = within row.least row.most x in
        let passes : (own && flags_pass rows numbers) ≡ true = rw e at f in
        rest passed (and_right own _ passes) ∙ rw (and_left own _ passes)
    go false e rest = rest (passed && test row x) (rw e at f) ∙ rw (test_is row x, and_assoc)

-- THE CODE'S TESTS ARE THE TABLE'S
pub tests_are_the_table : (st : Statics) → tests_pass st ≡ in_table statics_table (numbers_of st)
tests_are_the_table st = joined_is statics_table (numbers_of st) true (search (flag_in_row, and_both) depth 40)
