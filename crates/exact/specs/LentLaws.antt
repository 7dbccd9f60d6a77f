-- Laws of a lent slice that is read in parts of one width: a walk over it by place.
use Rattle.std.specs.Prelude.{◌≡◌, Bool, true, false, not, ◌⊎◌, List, [], ◌∷◌, ℤ}
use Rattle.std.proofs.Common.{sym, ◌∙◌, inl, inr, div-add-mod', mul-le-mul_right}
use Rattle.std.proofs.Math.Path.{ap}
use Prim.Native.Nat.{ℕ, suc, ◌+◌, ◌-◌, ◌*◌, ◌/◌, ◌%◌, ◌≤◌, ◌<◌}
use native.Mathlib.Omega.{arith}
use Rattle.std.proofs.lemmas.Bool.{not-true, not-false}
use Rattle.std.proofs.Math.ListN.{length}
use Rattle.paper.specs.Lists.{every}
use Rattle.paper.specs.Ranges.{parts_from}
use Rattle.paper.proofs.Logic.{le_or_lt}
use Rattle.paper.proofs.Roundings.{quotient_low, quotient_high, quotient_unique}
use Rattle.exact.specs.EveryLaws.{every_in, every_out, every_nil}

-- ---- a place: where a part begins, or the end

pub record Place (width : ℕ) (numbers : List ℤ) (at : ℕ) : Type 0 where
  pub inside : at ≤ length numbers
  pub parts : ℕ
  pub is : at ≡ parts * width

pub place_first : (width : ℕ) (numbers : List ℤ) → Place width numbers 0
place_first width numbers = record { inside = omega arith; parts = 0; is = omega arith }

-- before the end there is a whole part
pub place_room : (width : ℕ) (numbers : List ℤ) (at : ℕ) → length numbers % width ≡ 0 → Place width numbers at
    → at < length numbers
    → at + width ≤ length numbers
place_room width numbers at e p h = go (le_or_lt (length numbers / width) p.parts)
  where
    go : (length numbers / width ≤ p.parts) ⊎ (p.parts < length numbers / width) → at + width ≤ length numbers
    go (inl l) = absurd (omega (arith, e, p.is, div-add-mod' (length numbers) width, mul-le-mul_right width l))
    go (inr l) =
        let more : p.parts + 1 ≤ length numbers / width = omega arith in
        omega (arith, e, p.is, div-add-mod' (length numbers) width, mul-le-mul_right width more)

pub place_next : (width : ℕ) (numbers : List ℤ) (at : ℕ) → Place width numbers at → at + width ≤ length numbers
    → Place width numbers (at + width)
place_next width numbers at p h = record { inside = h; parts = p.parts + 1; is = omega (arith, p.is) }

-- ---- the parts from a place on

unfoldable pub parts_left : {A : Type 0} → (read : List ℤ → ℕ → A) → (width : ℕ) → (numbers : List ℤ) → (at : ℕ) → List A
parts_left read width numbers at = parts_from read width numbers at ((length numbers - at) / width)

module _ {A : Type 0} (read : List ℤ → ℕ → A) (width : ℕ) (numbers : List ℤ) where
  -- at first all are left
  pub left_first : parts_left read width numbers 0 ≡ parts_from read width numbers 0 (length numbers / width)
  unfolding parts_left
  left_first = ap (λ (n : ℕ). parts_from read width numbers 0 (n / width)) (omega arith)

  -- the one at hand, and the rest
  pub left_here : (at : ℕ) → 0 < width → at + width ≤ length numbers
      → parts_left read width numbers at ≡ read numbers at ∷ parts_left read width numbers (at + width)
  unfolding parts_left parts_from
  left_here at w h =
      let rest : ℕ = length numbers - (at + width) in
      let low : rest / width * width ≤ rest = quotient_low rest width w in
      let high : rest < (rest / width + 1) * width = quotient_high rest width w in
      let more : rest / width + 1 ≡ (length numbers - at) / width =
      quotient_unique (length numbers - at) width (rest / width + 1) w (omega arith) (omega arith) in
      let one : (length numbers - at) / width ≡ suc (rest / width) = omega arith in
      ap (parts_from read width numbers at) one

  -- and at the end none
  pub left_end : (at : ℕ) → 0 < width → length numbers ≤ at → parts_left read width numbers at ≡ []
  unfolding parts_left parts_from
  left_end at w h =
      let nothing : length numbers - at ≡ 0 = omega arith in
      let zero_of : 0 ≡ 0 / width = quotient_unique 0 width 0 w (omega arith) (omega arith) in
      let none : (length numbers - at) / width ≡ 0 = ap (λ (n : ℕ). n / width) nothing ∙ omega arith in
      ap (parts_from read width numbers at) none

-- ---- whether every part passes: the one walk of every loop that judges part after part

-- what the walk keeps at a place: the parts that are left decide for all
pub record Judging {A : Type 0} (valid : A → Bool) (read : List ℤ → ℕ → A) (width : ℕ) (numbers : List ℤ)
    (all : List A) (at : ℕ) : Type 0 where
  pub place : Place width numbers at
  pub decides : every valid (parts_left read width numbers at) ≡ every valid all

-- its turn at a place before the end: there is a whole part, and by what the test says of it the answer is no, or the
-- walk goes on behind it
pub record Turn {A : Type 0} (valid : A → Bool) (read : List ℤ → ℕ → A) (width : ℕ) (numbers : List ℤ) (all : List A)
    (at : ℕ) : Type 0 where
  pub room : at + width ≤ length numbers
  pub fails : (says : Bool) → says ≡ valid (read numbers at) → not says ≡ true → false ≡ every valid all
  pub goes_on : (says : Bool) → says ≡ valid (read numbers at) → not says ≡ false
      → Judging valid read width numbers all (at + width)

module _ {A : Type 0} (valid : A → Bool) (read : List ℤ → ℕ → A) (width : ℕ) (numbers : List ℤ) (all : List A) where
  pub judging_first : parts_left read width numbers 0 ≡ all → Judging valid read width numbers all 0
  judging_first e = record { place = place_first width numbers; decides = ap (every valid) e }

  module _ (at : ℕ) (w : 0 < width) (j : Judging valid read width numbers all at) where
    pub judging_turn : length numbers % width ≡ 0 → at < length numbers → Turn valid read width numbers all at
    judging_turn whole before =
        record {
          room = room;
          fails = λ says is no. sym (every_out valid here (sym is ∙ not-true says no)) ∙ j.decides;
          goes_on =
              λ says is yes.
              record {
                place = place_next width numbers at j.place room;
                decides = sym (every_in valid here (sym is ∙ not-false says yes)) ∙ j.decides;
              };
        }
      where
        room : at + width ≤ length numbers
        room = place_room width numbers at whole j.place before

        here : parts_left read width numbers at ≡ read numbers at ∷ parts_left read width numbers (at + width)
        here = left_here read width numbers at w room

    pub judging_end : length numbers ≤ at → true ≡ every valid all
    judging_end h = sym (every_nil valid (left_end read width numbers at w h)) ∙ j.decides
