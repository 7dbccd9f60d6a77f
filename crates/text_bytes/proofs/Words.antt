-- The words of a line, where the line is put together of blanks and words.
use mathlib.Core.Path.{◌≡◌, refl, ap, ◌∙◌}
use mathlib.Core.Bool.{Bool, true, false, ◌&&◌}
use mathlib.Core.List.{List, [], ◌∷◌, ◌++◌}
use Prim.Native.Nat.{ℕ, ◌≤◌, ◌<◌}
use native.Mathlib.Omega.{arith}
use lib.Dec.{leb}
use lib.ListN.{length}
use borrow.Author.Tests.{leb-true, ne_eqb}
use Rattle.paper.proofs.Logic.{not_true_and_false, and_left, and_right}
use Rattle.text_bytes.specs.Bytes.{is_blank, space, tab, carriage_return, minus_sign, grow, pieces, full, words}
use Rattle.text_bytes.specs.Spells.{Blanks, no_blank, blank}

-- ---- words

-- no byte is a blank
pub data Solid : List ℕ → Type 0 where
  nil : Solid []
  solid : {b : ℕ} {t : List ℕ} → is_blank b ≡ false → Solid t → Solid (b ∷ t)

-- a word ends before it
pub data Ends : List ℕ → Type 0 where
  end : Ends []
  parted : {b : ℕ} {t : List ℕ} → is_blank b ≡ true → Ends (b ∷ t)

pub solid_append : {s t : List ℕ} → Solid s → Solid t → Solid (s ++ t)
solid_append nil q = q
solid_append (solid e p) q = solid e (solid_append p q)

pub words_blanks : {t : List ℕ} (u : List ℕ) → Blanks t → words (t ++ u) ≡ words u
unfolding words pieces full
words_blanks u no_blank = refl
words_blanks u (blank h p) = rw h (words_blanks u p)

pieces_solid : {w : List ℕ} (rest : List ℕ) (ps : List (List ℕ)) → Solid w → pieces is_blank rest ≡ [] ∷ ps
    → pieces is_blank (w ++ rest) ≡ w ∷ ps
unfolding pieces grow
pieces_solid rest ps nil e = e
pieces_solid rest ps (solid h s) e = rw (h, pieces_solid rest ps s e)

pub words_solid : (w : List ℕ) {rest : List ℕ} → Solid w → 0 < length w → Ends rest → words (w ++ rest) ≡ w ∷ words rest
unfolding words full pieces
words_solid [] s h e = let z : ⊥ = omega arith in absurd z
words_solid (b ∷ t) s h end = rw (pieces_solid [] [] s refl)
words_solid (b ∷ t) s h (parted {b = d} {t = u} g) = rw (pieces_solid (d ∷ u) (pieces is_blank u) s (rw g), g)

pub words_none : {t : List ℕ} → Blanks t → words t ≡ []
unfolding words pieces full
words_none no_blank = refl
words_none (blank h p) = rw h (words_none p)

-- no byte from the minus on is a blank
pub high_solid : (b : ℕ) → minus_sign ≤ b → is_blank b ≡ false
unfolding is_blank
high_solid b h =
    rw (
      ne_eqb b space (λ e. apart b space h (omega arith) e),
      ne_eqb b tab (λ e. apart b tab h (omega arith) e),
      ne_eqb b carriage_return (λ e. apart b carriage_return h (omega arith) e),
    )
  where
    apart : (b n : ℕ) → minus_sign ≤ b → n < minus_sign → b ≡ n → ⊥
    apart b n h k e = omega arith

-- whether every byte is the minus or above it, as letters and digits are
unfoldable pub all_high : List ℕ → Bool
all_high [] = true
all_high (b ∷ t) = leb minus_sign b && all_high t

pub letters_are_solid : (t : List ℕ) → all_high t ≡ true → Solid t
unfolding all_high
letters_are_solid [] e = nil
letters_are_solid (b ∷ t) e =
    solid (high_solid b (leb-true minus_sign b (and_left (leb minus_sign b) (all_high t) e)))
    (letters_are_solid t (and_right (leb minus_sign b) (all_high t) e))

-- ---- a line is blanks and words

-- a line beside its words: blanks stand before each, and a word ends where the line or a blank does
pub data Split : List ℕ → List (List ℕ) → Type 0 where
  last : {t : List ℕ} → Blanks t → Split t []
  word : {t w rest : List ℕ} {ws : List (List ℕ)} → Blanks t → Solid w → 0 < length w → Ends rest → Split rest ws
      → Split (t ++ (w ++ rest)) (w ∷ ws)

pub split_words : {l : List ℕ} {ws : List (List ℕ)} → Split l ws → words l ≡ ws
split_words (last b) = words_none b
split_words (word {t} {w} {rest} bs s h e r) =
    words_blanks (w ++ rest) bs ∙ words_solid w s h e ∙ ap (λ (ws : List (List ℕ)). w ∷ ws) (split_words r)

pub record SplitOf (l : List ℕ) : Type 0 where
  pub ws : List (List ℕ)
  pub is : Split l ws

split_blank : {b : ℕ} {l : List ℕ} {ws : List (List ℕ)} → is_blank b ≡ true → Split l ws → SplitOf (b ∷ l)
split_blank h (last p) = record { ws = []; is = last (blank h p) }
split_blank {b} h (word {t} {w} {rest} {ws} bs s k e r) =
    record { ws = w ∷ ws; is = word {t = b ∷ t} (blank h bs) s k e r }

ends_blanks : {t : List ℕ} → Blanks t → Ends t
ends_blanks no_blank = end
ends_blanks (blank h p) = parted h

split_solid : {b : ℕ} {l : List ℕ} {ws : List (List ℕ)} → is_blank b ≡ false → Split l ws → SplitOf (b ∷ l)
split_solid {b} {l} h (last p) =
    record {
      ws = (b ∷ []) ∷ [];
      is = word {t = []} {w = b ∷ []} no_blank (solid h nil) (omega arith) (ends_blanks p) (last p);
    }
split_solid {b} h (word {w = w} {rest} {ws} no_blank s k e r) =
    record { ws = (b ∷ w) ∷ ws; is = word {t = []} {w = b ∷ w} {rest = rest} no_blank (solid h s) (omega arith) e r }
split_solid {b} h (word {w = w} {rest} {ws} (blank {b = d} {t = u} g bs) s k e r) =
    record {
      ws = (b ∷ []) ∷ w ∷ ws;
      is =
          word {t = []} {w = b ∷ []} {rest = d ∷ (u ++ (w ++ rest))} no_blank (solid h nil) (omega arith) (parted g)
          (word {t = d ∷ u} {w = w} {rest = rest} (blank g bs) s k e r);
    }

pub split : (l : List ℕ) → SplitOf l
split [] = record { ws = []; is = last no_blank }
split (b ∷ t) = go (is_blank b) refl (split t)
  where
    go : (x : Bool) → is_blank b ≡ x → SplitOf t → SplitOf (b ∷ t)
    go true h r = split_blank h r.is
    go false h r = split_solid h r.is

ends_head : {b : ℕ} {t : List ℕ} → Ends (b ∷ t) → is_blank b ≡ true
ends_head (parted g) = g

-- a word does not stand where a word ends
pub word_not_here : {A : Type 0} {w : List ℕ} (rest : List ℕ) → Solid w → 0 < length w → Ends (w ++ rest) → A
word_not_here rest nil h e = let z : ⊥ = omega arith in absurd z
word_not_here rest (solid {b} g s) h e = absurd (not_true_and_false (is_blank b) (ends_head e) g)
