-- A signed number that is handed on is what the machine reads back from its bits, and so are as many as there are.
use mathlib.Core.Path.{◌≡◌, refl, ap, ◌∙◌}
use mathlib.Core.List.{List, [], ◌∷◌}
use Prim.Native.Nat.{ℕ}
use lib.IntN.{ℤ}
use mir.Syntax.{w64}
use mir.Val.{SFits, to_z, of_z}
use mir.Facts.{to_z-of_z}
use Rattle.paper.specs.declared.GivenStatics.{GivenStatics}
use Rattle.paper.specs.Ranges.{unsigned, given_of}

-- what was made unsigned of the bits was made unsigned of the number
pub read_is_unsigned : {r : ℕ} {x : ℤ} → SFits w64 x → r ≡ unsigned (to_z w64 (of_z w64 x)) → r ≡ unsigned x
read_is_unsigned f e = e ∙ ap unsigned (to_z-of_z f)

-- the first numbers are read back from the bits of the second, each of which fits
pub data ReadBack : List ℤ → List ℤ → Type 0 where
  none : ReadBack [] []
  more : {x : ℤ} {read xs : List ℤ} → SFits w64 x → ReadBack read xs → ReadBack (to_z w64 (of_z w64 x) ∷ read) (x ∷ xs)

same_numbers : {read xs : List ℤ} → ReadBack read xs → read ≡ xs
same_numbers none = refl
same_numbers (more f r) = rw (to_z-of_z f, same_numbers r)

-- the statics that were made of the bits were made of the numbers
pub given_of_numbers : {g : GivenStatics} {read xs : List ℤ} → ReadBack read xs → g ≡ given_of read → g ≡ given_of xs
given_of_numbers r e = e ∙ ap given_of (same_numbers r)

-- a call of the same statics and the same three numbers answers the same
pub same_call : {A : Type 0} (call : GivenStatics → (x y z : ℕ) → A) {g g' : GivenStatics} {x x' y y' z z' : ℕ}
    → g ≡ g' → x ≡ x' → y ≡ y' → z ≡ z' → call g x y z ≡ call g' x' y' z'
same_call call of-g of-x of-y of-z = λ i. call (of-g i) (of-x i) (of-y i) (of-z i)
