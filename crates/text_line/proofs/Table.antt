-- The table of the calls, row by row.
use mathlib.Core.Path.{◌≡◌, refl, sym, ap, ◌∙◌}
use mathlib.Core.Bool.{Bool, true, false, cond}
use mathlib.Core.List.{List, [], ◌∷◌}
use Prim.Native.Nat.{ℕ, suc, ◌+◌, ◌*◌}
use native.Mathlib.Omega.{arith}
use borrow.Author.Tests.{ne_eqb}
use Rattle.std.specs.Prelude.{None, Some}
use Rattle.std.specs.List.{find}
use Rattle.std.specs.Str.{bytes_eq}
use Rattle.paper.specs.Lists.{pick}
use Rattle.text_bytes.specs.Bytes.{same}
use Rattle.text_word.proofs.Words.{same_is}
use Rattle.text_protocol.specs.declared.CallKind.{CallKind}
use Rattle.text_line.specs.declared.TheConstants.{CALLS}
use Rattle.text_protocol.specs.Names.{Form, forms, bond_kind, place_of, code}
use Rattle.text_protocol.specs.Names.{kind_from, kind_of, evaluate_names, bond_names}
use Rattle.text_protocol.specs.Kinds.{kind_number, kind_or_none}
use Rattle.text_protocol.specs.Line.{place_in}
use Rattle.text_line.specs.ReadLine.{word_of, LowsAt}

-- a kind for each form of a table, where the first has the number k
abbrev Kinds : (k : ℕ) → List CallKind → List Form → Type 0
Kinds k [] [] = Unit {0}
Kinds k [] (f ∷ fs) = ⊥
Kinds k (r ∷ rs) [] = ⊥
Kinds k (r ∷ rs) (f ∷ fs) = (word_of r ≡ f.word) × (kind_number r ≡ k) × Kinds (suc k) rs fs

abbrev kind_in : List CallKind → List ℕ → ℕ
kind_in rs w = kind_or_none (find (λ r. bytes_eq w (word_of r)) rs)

kind_found : (w : List ℕ) (k : ℕ) (rs : List CallKind) (fs : List Form) → Kinds k rs fs → kind_in rs w ≡ kind_from k fs w
unfolding kind_from
kind_found w k [] [] h = refl
kind_found w k [] (f ∷ fs) h = absurd h
kind_found w k (r ∷ rs) [] h = absurd h
kind_found w k (r ∷ rs) (f ∷ fs) h =
    let e : bytes_eq w (word_of r) ≡ same w f.word = rw (← h.0) (same_is w (word_of r)) in
    rw (← e) (go (bytes_eq w (word_of r)) (kind_found w (suc k) rs fs h.2))
  where
    go : (x : Bool) → kind_in rs w ≡ kind_from (suc k) fs w
        → kind_or_none (cond x (Some r) (find (λ r. bytes_eq w (word_of r)) rs)) ≡ pick x k (kind_from (suc k) fs w)
    go true i = h.1
    go false i = i

-- the word's kind is the one of the first call that has the word
pub kind_is : (w : List ℕ) → kind_in CALLS w ≡ kind_of w
unfolding kind_of forms
kind_is w = kind_found w 1 CALLS forms (refl, refl, (refl, refl, (refl, refl, (refl, refl, (refl, refl, (refl, refl, (refl, refl, (refl, refl, (refl, refl, (refl, refl, (refl, refl, tt)))))))))))

-- ---- where the RRCL of each term stands

pub lows_of_a_bond : (k : ℕ) → k ≡ bond_kind → LowsAt k 9
unfolding place_in place_of bond_names code
lows_of_a_bond k e = record { first = rw e; second = rw e; third = rw e; small = omega arith }

pub lows_of_another : (k : ℕ) → (k ≡ bond_kind → ⊥) → LowsAt k 5
unfolding place_in place_of evaluate_names code
lows_of_another k n =
    let e = ne_eqb k bond_kind n in
    record { first = rw e; second = rw e; third = rw e; small = omega arith }
