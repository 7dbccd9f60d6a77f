-- One turn of the loop over a line's words, on plain values: what is left of the words leads to the same meaning.
use mathlib.Core.Path.{◌≡◌, refl, sym, ◌∙◌}
use mathlib.Core.Bool.{Bool, true, false}
use mathlib.Core.List.{List, [], ◌∷◌, ◌++◌}
use Prim.Native.Nat.{ℕ, suc, ◌+◌, ◌-◌, ◌≤◌, ◌<◌}
use native.Mathlib.Omega.{arith}
use lib.Dec.{eqb}
use lib.IntN.{ℤ}
use lib.ListN.{length, take, drop, set, length-append}
use lib.Seq.{take_all, take-take, take-append-le, length-take-le, take-suc-set}
use borrow.Author.Tests.{le-leb, lt-leb, eq-eqb, ne_eqb}
use Rattle.std.specs.Prelude.{Option, None, Some}
use Rattle.paper.specs.Lists.{pick}
use Rattle.text_protocol.specs.declared.Item.{Item}
use Rattle.text_protocol.specs.declared.Pairs.{Pairs}
use Rattle.text_protocol.specs.declared.CallKind.{CallKind}
use Rattle.text_protocol.specs.declared.CallKind.TheVariants as kind
use Rattle.text_bytes.specs.Bytes.{is_blank, run, words}
use Rattle.text_protocol.specs.Names.{kind_of}
use Rattle.text_protocol.specs.Kinds.{kind_number, kind_or_none}
use Rattle.text_protocol.specs.Line.{Said, Nothing, NoCall, no_pairs, more, taking, on_with, finished, item_of, fill}
use Rattle.text_protocol.specs.Line.{is_heading, called, meaning, kept_most, longest}
use Rattle.text_word.specs.Parts.{is_solid}
use Rattle.text_word.proofs.Words.{words_part, words_end}
use Rattle.text_line.specs.ReadLine.{reading_of}

-- ---- one number more

pub keeps_room : (xs : List ℤ) (n : ℕ) (z : ℤ) → length xs ≡ kept_most → n < kept_most
    → take (n + 1) (set xs n z) ≡ more (take n xs) z
unfolding more
keeps_room xs n z l h =
    let f : n + 1 ≡ suc n = omega arith in
    let i : n < length xs = omega arith in
    let t : length (take n xs) ≡ n = length-take-le n xs (omega arith) in
    let m : length (take n xs ++ (z ∷ [])) ≤ kept_most = rw (length-append (take n xs) (z ∷ []), t) (omega arith) in
    rw (f, take-suc-set xs n z i, take_all kept_most (take n xs ++ (z ∷ [])) m)

pub keeps_full : (xs : List ℤ) (n : ℕ) (z : ℤ) → length xs ≡ kept_most → n ≤ kept_most → kept_most ≤ n
    → take n xs ≡ more (take n xs) z
unfolding more
keeps_full xs n z l m h =
    let e : n ≡ kept_most = omega arith in
    let t : length (take n xs) ≡ n = length-take-le n xs (omega arith) in
    let a : kept_most ≤ length (take n xs) = omega arith in
    sym (rw (take-append-le kept_most (take n xs) (z ∷ []) a, take-take kept_most n xs h, e))

-- ---- the words behind the call's

pub record Filling (l : List ℕ) (k : ℕ) (goal : Said) (zs : List ℤ) (s : ℕ) (p : Pairs) : Type 0 where
  pub in_l : s ≤ length l
  pub rest : fill k zs p (words (drop s l)) ≡ goal

module _ (l : List ℕ) (k : ℕ) (goal : Said) (zs : List ℤ) (s : ℕ) (p : Pairs) (f : Filling l k goal zs s p) (a : ℕ)
    (skip : a ≡ s + run is_blank (drop s l)) where
  pub filling_end : length l ≤ a → finished k zs p ≡ goal
  unfolding fill
  filling_end h = rw (words_end l s a skip h) at f.rest

  module _ (e : ℕ) (h : a < length l) (word : e ≡ a + run is_solid (drop a l)) (zs' : List ℤ) (w : Item)
      (t : Option Pairs) (is : w ≡ item_of (take (e - a) (drop a l))) (q : reading_of t zs' ≡ taking k zs p w) where
    first : on_with (reading_of t zs') (λ zs ps. fill k zs ps (words (drop e l))) ≡ goal
    unfolding fill
    first = rw (q, is) (rw (words_part l s a skip e h word) at f.rest)

    pub filling_bad : t ≡ None → NoCall ≡ goal
    unfolding on_with
    filling_bad o = rw o at first

    pub filling_more : (ps : Pairs) → t ≡ Some ps → e ≤ length l → Filling l k goal zs' e ps
    unfolding on_with
    filling_more ps o i = record { in_l = i; rest = rw o at first }

-- ---- the line

pub long_line : (l : List ℕ) → longest < length l → NoCall ≡ meaning l
unfolding meaning
long_line l h = rw (lt-leb (length l) longest h)

kind_some : (k : CallKind) → kind_number k ≡ 0 → ⊥
kind_some kind.Admit e = omega (arith, e)
kind_some kind.Evaluate e = omega (arith, e)
kind_some kind.Quote e = omega (arith, e)
kind_some kind.Move e = omega (arith, e)
kind_some kind.Read e = omega (arith, e)
kind_some kind.Open e = omega (arith, e)
kind_some kind.Outside e = omega (arith, e)
kind_some kind.Notice e = omega (arith, e)
kind_some kind.Withdraw e = omega (arith, e)
kind_some kind.Interest e = omega (arith, e)
kind_some kind.Bond e = omega (arith, e)

module _ (l : List ℕ) (short : length l ≤ longest) (a : ℕ) (skip : a ≡ 0 + run is_blank (drop 0 l)) where
  pub blank_line : length l ≤ a → Nothing ≡ meaning l
  unfolding meaning called
  blank_line h = rw (le-leb (length l) longest short, words_end l 0 a skip h)

  module _ (e : ℕ) (first : Bool) (h : a < length l) (word : e ≡ a + run is_solid (drop a l))
      (is : first ≡ is_heading (take (e - a) (drop a l))) where
    pub heading_line : first ≡ true → Nothing ≡ meaning l
    unfolding meaning called
    heading_line y = rw (le-leb (length l) longest short, words_part l 0 a skip e h word, ← is, y)

    module _ (t : Option CallKind) (other : first ≡ false) (kind : kind_or_none t ≡ kind_of (take (e - a) (drop a l))) where
      meant : meaning l ≡ pick (eqb (kind_or_none t) 0) NoCall (fill (kind_or_none t) [] no_pairs (words (drop e l)))
      unfolding meaning called
      meant = rw (le-leb (length l) longest short, words_part l 0 a skip e h word, ← is, other, ← kind)

      pub no_call : t ≡ None → NoCall ≡ meaning l
      no_call z = sym (rw z at meant)

      pub some_call : (k : CallKind) → t ≡ Some k → fill (kind_number k) [] no_pairs (words (drop e l)) ≡ meaning l
      some_call k z = sym (rw (z, ne_eqb (kind_number k) 0 (kind_some k)) at meant)
