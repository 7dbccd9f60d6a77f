-- The pieces of a text between the bytes that part it: a text is parted in one way.
use mathlib.Core.Path.{◌≡◌, refl, sym, ap, ◌∙◌}
use mathlib.Core.Bool.{Bool, true, false}
use mathlib.Core.List.{List, [], ◌∷◌, ◌++◌}
use Prim.Native.Nat.{ℕ}
use Rattle.paper.specs.Lists.{pick}
use Rattle.text_bytes.specs.Bytes.{grow, pieces}
use Rattle.text_bytes.specs.Split.{Free, free_none, free, AllFree, no_piece, piece, Joined, last, before}
use Rattle.text_bytes.proofs.Spelling.{impossible}

pub free_append : {parts : ℕ → Bool} {s t : List ℕ} → Free parts s → Free parts t → Free parts (s ++ t)
free_append free_none g = g
free_append (free e f) g = free e (free_append f g)

module _ (parts : ℕ → Bool) where
  pub pieces_none : {p : List ℕ} → Free parts p → pieces parts p ≡ p ∷ []
  unfolding pieces grow
  pieces_none free_none = refl
  pieces_none (free e f) = rw (e, pieces_none f)

  -- THE LAW: the first piece ends at the first byte that parts, and the others follow
  pub pieces_more : {p : List ℕ} {b : ℕ} (t : List ℕ) → Free parts p → parts b ≡ true
      → pieces parts (p ++ b ∷ t) ≡ p ∷ pieces parts t
  unfolding pieces grow
  pieces_more t free_none h = rw h
  pieces_more t (free e f) h = rw (e, pieces_more t f h)

  -- a text is one piece; or a piece, a byte that parts, and more
  pub data Parted : List ℕ → Type 0 where
    all : {p : List ℕ} → Free parts p → Parted p
    more : {p : List ℕ} {b : ℕ} (t : List ℕ) → Free parts p → parts b ≡ true → Parted (p ++ b ∷ t)

  longer : {b : ℕ} {t : List ℕ} → parts b ≡ false → Parted t → Parted (b ∷ t)
  longer e (all f) = all (free e f)
  longer {b} e (more {p} u f h) = more {p = b ∷ p} u (free e f) h

  pub parted : (t : List ℕ) → Parted t
  parted [] = all free_none
  parted (b ∷ t) = go (parts b) refl (parted t)
    where
      go : (x : Bool) → parts b ≡ x → Parted t → Parted (b ∷ t)
      go true e q = more {p = []} t free_none e
      go false e q = longer e q

  -- there is always a piece
  pub pieces_some : {A : Type 0} (t : List ℕ) → pieces parts t ≡ [] → A
  pieces_some {A} t e = go t (parted t) e
    where
      go : (t : List ℕ) → Parted t → pieces parts t ≡ [] → A
      go t (all f) e = let z : t ∷ [] ≡ [] = sym (pieces_none f) ∙ e in impossible cc
      go _ (more {p} u f h) e = let z : p ∷ pieces parts u ≡ [] = sym (pieces_more u f h) ∙ e in impossible cc

  -- no piece has a byte that parts
  grow_free : (b : ℕ) {ps : List (List ℕ)} → parts b ≡ false → AllFree parts ps → AllFree parts (grow b ps)
  unfolding grow
  grow_free b e no_piece = no_piece
  grow_free b e (piece f g) = piece (free e f) g

  pub pieces_free : (t : List ℕ) → AllFree parts (pieces parts t)
  unfolding pieces
  pieces_free [] = piece free_none no_piece
  pieces_free (b ∷ t) = go (parts b) refl (pieces_free t)
    where
      go : (x : Bool) → parts b ≡ x → AllFree parts (pieces parts t)
          → AllFree parts (pick x ([] ∷ pieces parts t) (grow b (pieces parts t)))
      go true e g = piece free_none g
      go false e g = grow_free b e g

  joined_pieces : {b : ℕ} {ps : List (List ℕ)} {t : List ℕ} → parts b ≡ true → AllFree parts ps → Joined b ps t
      → pieces parts t ≡ ps
  joined_pieces h (piece f no_piece) last = pieces_none f
  joined_pieces h (piece {p} f g) (before {t = t} j) =
      pieces_more t f h ∙ ap (λ (ps : List (List ℕ)). p ∷ ps) (joined_pieces h g j)
  joined_pieces {b = b} {t = t} h no_piece x5 = elim x5 [ ]

  -- A TEXT IS SPLIT IN ONE WAY
  pub split_once : {b : ℕ} {ps qs : List (List ℕ)} {t : List ℕ} → parts b ≡ true → AllFree parts ps → AllFree parts qs
      → Joined b ps t → Joined b qs t → ps ≡ qs
  split_once h f g j k = sym (joined_pieces h f j) ∙ joined_pieces h g k
