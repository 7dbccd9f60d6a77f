-- Words that are spelled, and then others.
use mathlib.Core.Path.{◌≡◌, refl, sym}
use mathlib.Core.List.{List, [], ◌∷◌, ◌++◌, append_assoc}
use Prim.Native.Nat.{ℕ}
use Rattle.text_bytes.specs.Bytes.{space}
use Rattle.text_protocol.specs.Reasons.{spelled}

pub spelled_both : (xs ys : List (List ℕ)) → spelled (xs ++ ys) ≡ spelled xs ++ spelled ys
unfolding spelled
spelled_both [] ys = refl
spelled_both (x ∷ xs) ys = rw (spelled_both xs ys) (sym (append_assoc (space ∷ x) (spelled xs) (spelled ys)))
