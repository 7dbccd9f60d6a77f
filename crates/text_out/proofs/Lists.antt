-- One turn of each loop, on plain values: what is left of a word, or of the numbers, leads to the same bytes.
use mathlib.Core.Path.{◌≡◌, refl}
use mathlib.Core.List.{List, [], ◌∷◌}
use Prim.Native.Nat.{ℕ, suc, ◌+◌, ◌-◌, ◌*◌, ◌≤◌, ◌<◌}
use native.Mathlib.Omega.{arith}
use lib.IntN.{ℤ, pos}
use lib.ListN.{length, drop, get_or, drop_of_length-le}
use lib.Seq.{drop-cons}
use Rattle.paper.specs.Numbers.{all_numbers_most}
use Rattle.text_bytes.specs.Numbers.{spaced}
use Rattle.text_out.specs.Places.{next_signed_bytes}
use Rattle.text_out.specs.Wrote.{Wrote, Left, left_none, left_more, left_all}
use Rattle.text_out.specs.Told.{Told, told, wrote_one}
use Rattle.text_out.specs.Sizes.{word_bytes, rows_bytes}

-- ---- the loop of `put_bytes`: what is left of the word w from its i-th byte on leads to the same bytes
abbrev pub Copying : List ℕ → ℕ → List ℕ → List ℕ → ℕ → ℕ → Type 0
Copying b₀ n₀ w b n i = Left b₀ n₀ w word_bytes b n (drop i w) (word_bytes - i)

pub copying_none : (b : List ℕ) (n : ℕ) (w : List ℕ) → Copying b n w b n 0
copying_none b n w = left_none b n w word_bytes word_bytes (omega arith)

module _ (b₀ : List ℕ) (n₀ : ℕ) (w b : List ℕ) (n i : ℕ) (p : Copying b₀ n₀ w b n i) where
  pub copying_more : (b' : List ℕ) (n' : ℕ) → i < length w → i < word_bytes → Wrote b n b' n' (get_or w i 0 ∷ []) 1
      → Copying b₀ n₀ w b' n' (i + 1)
  copying_more b' n' h j q =
      let m : word_bytes - i ≡ 1 + (word_bytes - (i + 1)) = omega arith in
      let f : i + 1 ≡ suc i = omega arith in
      rw f (left_more (rw (m, drop-cons w i 0 h, f) at p) q)

  pub copying_all : length w ≤ i → Wrote b₀ n₀ b n w word_bytes
  copying_all h = left_all (rw (drop_of_length-le w h) at p)

-- ---- the loop of `put_numbers`
abbrev pub Telling : List ℕ → ℕ → List ℤ → List ℕ → ℕ → ℕ → Type 0
Telling b₀ n₀ zs b n i = Left b₀ n₀ (spaced zs) rows_bytes b n (spaced (drop i zs))
    (next_signed_bytes * (all_numbers_most - i))

pub telling_none : (b : List ℕ) (n : ℕ) (zs : List ℤ) → Telling b n zs b n 0
telling_none b n zs = left_none b n (spaced zs) rows_bytes rows_bytes (omega arith)

module _ (b₀ : List ℕ) (n₀ : ℕ) (zs : List ℤ) (b : List ℕ) (n i : ℕ) (p : Telling b₀ n₀ zs b n i) where
  pub telling_more : (b' : List ℕ) (n' : ℕ) → i < length zs → i < all_numbers_most
      → Told b n b' n' (get_or zs i (pos 0) ∷ []) next_signed_bytes
      → Telling b₀ n₀ zs b' n' (i + 1)
  unfolding spaced
  telling_more b' n' h j q =
      let m : next_signed_bytes * (all_numbers_most - i) ≡ next_signed_bytes + next_signed_bytes * (all_numbers_most - (i + 1)) =
      omega arith in
      let f : i + 1 ≡ suc i = omega arith in
      rw f (left_more (rw (m, drop-cons zs i (pos 0) h, f) at p) (wrote_one q))

  pub telling_all : length zs ≤ i → Told b₀ n₀ b n zs rows_bytes
  unfolding spaced
  telling_all h = told refl (left_all (rw (drop_of_length-le zs h) at p))
