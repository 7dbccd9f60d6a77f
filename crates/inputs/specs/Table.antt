-- The table of statics as the code judges it: its tests in its order, joined from the left, without those that always
-- pass, of a least of 0 and of yes or no. proofs/Table.antt says that it is the paper's.
use Rattle.std.specs.Prelude.{Bool, true, false, ◌&&◌, List, [], ◌∷◌, ℕ, leb, eqb}
use Rattle.paper.specs.declared.Statics.{Statics}
use Rattle.paper.specs.Lists.{pick}
use Rattle.paper.specs.Ranges.{within, Static, statics_table, numbers_of}

-- a row's test
abbrev pub test : Static → ℕ → Bool
test row x = pick (eqb row.least 0) (leb x row.most) (within row.least row.most x)

-- the tests joined to what has passed before them
abbrev pub joined : List Static → List ℕ → Bool → Bool
joined [] numbers passed = passed
joined (row ∷ rows) [] passed = false
joined (row ∷ rows) (x ∷ numbers) passed = joined rows numbers (pick row.is_flag passed (passed && test row x))

abbrev pub tests_pass : Statics → Bool
tests_pass st = joined statics_table (numbers_of st) true
