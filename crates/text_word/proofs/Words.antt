-- The words of a text, from a place on.
use mathlib.Core.Path.{◌≡◌, refl, ap, ap₂, ◌∙◌}
use mathlib.Core.Bool.{Bool, true, false, ◌&&◌, not}
use mathlib.Core.List.{List, [], ◌∷◌}
use Prim.Native.Nat.{ℕ, suc, ◌+◌, ◌-◌, ◌≤◌, ◌<◌}
use native.Mathlib.Omega.{arith}
use lib.ListN.{length, take, drop, drop_of_length-le, length-drop}
use lib.Seq.{drop-drop}
use lib.Dec.{eqb}
use Rattle.std.specs.Cmp.Lexicographic.{pointwise}
use Rattle.paper.specs.Lists.{pick}
use Rattle.text_bytes.specs.Bytes.{is_blank, run, grow, pieces, full, words, same}
use Rattle.text_word.specs.Parts.{is_solid}

grow_first : (b : ℕ) (p : List ℕ) (qs : List (List ℕ)) → qs ≡ p ∷ drop 1 qs → grow b qs ≡ (b ∷ p) ∷ drop 1 (grow b qs)
unfolding grow
grow_first b p [] e = let z : ◌≡◌ {A = ℕ} 0 1 = cc in let y : ⊥ = omega arith in absurd y
grow_first b p (q ∷ qs) e = let h : q ≡ p = cc in rw h

grow_rest : (b : ℕ) (qs : List (List ℕ)) → drop 1 (grow b qs) ≡ drop 1 qs
unfolding grow
grow_rest b [] = refl
grow_rest b (q ∷ qs) = refl

-- the first piece of a text is what stands before its first blank
cut_first : (t : List ℕ) → pieces is_blank t ≡ take (run is_solid t) t ∷ drop 1 (pieces is_blank t)
unfolding pieces run is_solid
cut_first [] = refl
cut_first (b ∷ t) = go (is_blank b) (cut_first t)
  where
    go : (x : Bool) → pieces is_blank t ≡ take (run is_solid t) t ∷ drop 1 (pieces is_blank t)
        → pick x ([] ∷ pieces is_blank t) (grow b (pieces is_blank t)) ≡ take (pick (not x) (suc (run is_solid t)) 0) (b ∷
        t) ∷ drop 1 (pick x ([] ∷ pieces is_blank t) (grow b (pieces is_blank t)))
    go true e = refl
    go false e = grow_first b (take (run is_solid t) t) (pieces is_blank t) e

cut_rest : (t : List ℕ) → full (drop 1 (pieces is_blank t)) ≡ words (drop (run is_solid t) t)
unfolding pieces run is_solid words full
cut_rest [] = refl
cut_rest (b ∷ t) = go (is_blank b) refl (cut_rest t)
  where
    go : (x : Bool) → is_blank b ≡ x → full (drop 1 (pieces is_blank t)) ≡ full (pieces is_blank (drop (run is_solid t) t))
        → full (drop 1 (pick x ([] ∷ pieces is_blank t) (grow b (pieces is_blank t)))) ≡ full (pieces is_blank (drop (pick
        (not x) (suc (run is_solid t)) 0) (b ∷ t)))
    go true h e = rw h
    go false h e = rw (grow_rest b (pieces is_blank t)) e

-- blanks in front are nothing
pub words_skip : (t : List ℕ) → words t ≡ words (drop (run is_blank t) t)
unfolding words pieces run is_solid full
words_skip [] = refl
words_skip (b ∷ t) = go (is_blank b) refl (words_skip t)
  where
    go : (x : Bool) → is_blank b ≡ x → full (pieces is_blank t) ≡ full (pieces is_blank (drop (run is_blank t) t))
        → full (pick x ([] ∷ pieces is_blank t) (grow b (pieces is_blank t))) ≡ full (pieces is_blank (drop (pick x (suc
        (run is_blank t)) 0) (b ∷ t)))
    go true h e = e
    go false h e = rw h

run_run : (q : ℕ → Bool) (t : List ℕ) → run q (drop (run q t) t) ≡ 0
unfolding run
run_run q [] = refl
run_run q (b ∷ t) = go (q b) refl (run_run q t)
  where
    go : (x : Bool) → q b ≡ x → run q (drop (run q t) t) ≡ 0 → run q (drop (pick x (suc (run q t)) 0) (b ∷ t)) ≡ 0
    go true h e = e
    go false h e = rw h

words_is : (t : List ℕ) → words t ≡ full (pieces is_blank t)
unfolding words
words_is t = refl

-- a first word
full_first : (t : List ℕ) (ps : List (List ℕ)) → run is_blank t ≡ 0 → 0 < length t → full (take (run is_solid t) t ∷ ps)
    ≡ take (run is_solid t) t ∷ full ps
unfolding full run is_solid
full_first [] ps h k = let z : ⊥ = omega arith in absurd z
full_first (b ∷ t) ps h k = go (is_blank b) h
  where
    go : (x : Bool) → pick x (suc (run is_blank t)) 0 ≡ 0 → full (take (pick (not x) (suc (run is_solid t)) 0) (b ∷ t) ∷
        ps) ≡ take (pick (not x) (suc (run is_solid t)) 0) (b ∷ t) ∷ full ps
    go true e = let z : ⊥ = omega arith in absurd z
    go false e = refl

pub words_first : (t : List ℕ) → run is_blank t ≡ 0 → 0 < length t → words t ≡ take (run is_solid t) t ∷ words (drop (run
    is_solid t) t)
words_first t h k = words_is t ∙ ap full (cut_first t) ∙ full_first t (drop 1 (pieces is_blank t)) h k ∙ ap (λ (ps :
    List (List ℕ)). take (run is_solid t) t ∷ ps) (cut_rest t)

-- THE LAW: from s on, the blanks end at a and the word there at e
module _ (l : List ℕ) (s a : ℕ) (skip : a ≡ s + run is_blank (drop s l)) where
  here : words (drop s l) ≡ words (drop a l)
  here = words_skip (drop s l) ∙ ap words (drop-drop (run is_blank (drop s l)) s l) ∙ rw skip

  pub words_part : (e : ℕ) → a < length l → e ≡ a + run is_solid (drop a l) → words (drop s l) ≡ take (e - a) (drop a l)
      ∷ words (drop e l)
  words_part e h k =
      let z : run is_blank (drop a l) ≡ 0 = rw (skip, ← drop-drop (run is_blank (drop s l)) s l) (run_run is_blank (drop s
      l)) in
      let o : 0 < length (drop a l) = rw (length-drop a l) (omega arith) in
      let m : e - a ≡ run is_solid (drop a l) = omega arith in
      here ∙ words_first (drop a l) z o ∙ ap₂ (λ (x : List ℕ) (y : List (List ℕ)). x ∷ y) (rw m) (ap words (drop-drop
      (run is_solid (drop a l)) a l) ∙ rw k)

  pub words_end : length l ≤ a → words (drop s l) ≡ []
  unfolding words pieces full
  words_end h = here ∙ rw (drop_of_length-le l h)

pub run_some : (t : List ℕ) → run is_blank t ≡ 0 → 0 < length t → 0 < run is_solid t
unfolding run is_solid
run_some [] h k = k
run_some (b ∷ t) h k = go (is_blank b) h
  where
    go : (x : Bool) → pick x (suc (run is_blank t)) 0 ≡ 0 → 0 < pick (not x) (suc (run is_solid t)) 0
    go true e = let z : ⊥ = omega arith in absurd z
    go false e = omega arith

-- the word there is not empty
pub word_some : (l : List ℕ) (s a e : ℕ) → a ≡ s + run is_blank (drop s l) → a < length l → e ≡ a + run is_solid (drop a
    l) → a < e
word_some l s a e skip h k =
    let z : run is_blank (drop a l) ≡ 0 = rw (skip, ← drop-drop (run is_blank (drop s l)) s l) (run_run is_blank (drop s
    l)) in
    let o : 0 < length (drop a l) = rw (length-drop a l) (omega arith) in
    omega (arith, run_some (drop a l) z o)

-- the library's test of two lists is that of two words
pub same_is : (p w : List ℕ) → pointwise eqb p w ≡ same p w
unfolding same
same_is [] [] = refl
same_is [] (c ∷ w) = refl
same_is (b ∷ p) [] = refl
same_is (b ∷ p) (c ∷ w) = go (eqb b c) (same_is p w)
  where
    go : (x : Bool) → pointwise eqb p w ≡ same p w → (x && pointwise eqb p w) ≡ pick x (same p w) false
    go true e = e
    go false e = refl
