-- A line behind others: what it does to the evening that they leave, and where what is told of it stands.
use mathlib.Core.Path.{◌≡◌, refl, ap, ◌∙◌}
use mathlib.Core.List.{List, [], ◌∷◌, ◌++◌, append_assoc}
use Prim.Native.Nat.{ℕ}
use Rattle.text_evening.specs.declared.Telling.{Telling}
use Rattle.text_evening.specs.Evening.{Evening, after, answer, after_all, answers}

pub after_one_more : (before : List (List ℕ)) (l : List ℕ) (e : Evening)
    → after_all (before ++ l ∷ []) e ≡ after l (after_all before e)
unfolding after_all
after_one_more [] l e = refl
after_one_more (k ∷ before) l e = after_one_more before l (after k e)

-- what is told of it stands behind what is told of the others
pub told_at : (telling : Telling) (before later : List (List ℕ)) (l : List ℕ) (e : Evening)
    → answers telling (before ++ l ∷ later) e
    ≡ answers telling before e ++ answer telling l (after_all before e)
    ++ answers telling later (after l (after_all before e))
unfolding answers after_all
told_at telling [] later l e = refl
told_at telling (k ∷ before) later l e =
    ap (λ (text : List ℕ). answer telling k e ++ text) (told_at telling before later l (after k e))
    ∙ simp append_assoc
