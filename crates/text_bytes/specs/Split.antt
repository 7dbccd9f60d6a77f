-- A text in pieces: none has a byte that parts them, and a byte that parts stands between each two.
use Rattle.std.specs.Prelude.{◌≡◌, Bool, false, List, [], ◌∷◌, ◌++◌, ℕ}

-- no byte parts
pub data Free (parts : ℕ → Bool) : List ℕ → Type 0 where
  free_none : Free parts []
  free : {b : ℕ} {t : List ℕ} → parts b ≡ false → Free parts t → Free parts (b ∷ t)

-- no piece has a byte that parts
pub data AllFree (parts : ℕ → Bool) : List (List ℕ) → Type 0 where
  no_piece : AllFree parts []
  piece : {p : List ℕ} {ps : List (List ℕ)} → Free parts p → AllFree parts ps → AllFree parts (p ∷ ps)

-- pieces with a byte between each two
pub data Joined (b : ℕ) : List (List ℕ) → List ℕ → Type 0 where
  last : {p : List ℕ} → Joined b (p ∷ []) p
  before : {p t : List ℕ} {ps : List (List ℕ)} → Joined b ps t → Joined b (p ∷ ps) (p ++ b ∷ t)
