-- What `chunks_exact` with `all` or `any` answers of a lent slice: what the definition's walk by place does. A closure
-- answers b of a chunk, and `turn` makes of that whether the part passes: itself for `all`, its opposite for `any`.
use Rattle.std.specs.Prelude.{◌≡◌, Bool, true, false, not, MatchBool, IsTrue, List, Option, Some, None, IfSome, IsSomeAnd, is_some, option_map, ◌&&◌, ℤ}
use Rattle.std.proofs.Common.{sym, ◌∙◌, Bor, mul-le-mul_right}
use Rattle.std.proofs.Math.Path.{refl, ap}
use Prim.{tt}
use Prim.Native.Nat.{ℕ, zero, suc, ◌+◌, ◌*◌, ◌/◌, ◌≤◌, ◌<◌}
use native.Mathlib.Omega.{arith}
use denote.Param.Members.{Mut, Called}
use Rattle.std.proofs.Math.ListN.{length}
use Rattle.std.specs.List.{IsSubsliceAt}
use Rattle.std.specs.Iterator.Runs.{Run, AllItems, AnyItem, AllItemsGive, AnyItemGives, CallKeepsClosure, IsChunksExactRun}
use Rattle.paper.specs.Lists.{every}
use Rattle.paper.specs.Ranges.{parts_from}
use Rattle.paper.proofs.Logic.{le_or_lt, not_true_and_false}
use Rattle.paper.proofs.Roundings.{quotient_high}
use mathlib.Core.Logic.{◌⊎◌, inl, inr}

-- ---- every part by its number

module _ {A : Type 0} (valid : A → Bool) (read : List ℤ → ℕ → A) (width : ℕ) (numbers : List ℤ) where
  pub every_by_number : (count at : ℕ) → ((k : ℕ) → k < count → valid (read numbers (at + k * width)) ≡ true)
      → every valid (parts_from read width numbers at count) ≡ true
  unfolding every parts_from
  every_by_number zero at f = refl
  every_by_number (suc count) at f =
      let here : at + 0 * width ≡ at = omega arith in
      let passes : valid (read numbers at) ≡ true = rw here at (f 0 (omega arith)) in
      let next : (k : ℕ) → at + suc k * width ≡ (at + width) + k * width = λ k. omega arith in
      rw passes
      (every_by_number count (at + width)
      (λ k h. sym (ap (λ (n : ℕ). valid (read numbers n)) (next k)) ∙ f (suc k) (omega arith)))

  pub not_every_by_number : (count at k : ℕ) → k < count → valid (read numbers (at + k * width)) ≡ false
      → every valid (parts_from read width numbers at count) ≡ false
  unfolding every parts_from
  not_every_by_number zero at k h e = absurd (omega arith)
  not_every_by_number (suc count) at zero h e =
      let here : at + 0 * width ≡ at = omega arith in
      let fails : valid (read numbers at) ≡ false = rw here at e in
      rw fails
  not_every_by_number (suc count) at (suc k) h e =
      let next : at + suc k * width ≡ (at + width) + k * width = omega arith in
      let rest = not_every_by_number count (at + width) k (omega arith)
      (sym (ap (λ (n : ℕ). valid (read numbers n)) next) ∙ e) in
      rw rest (neither (valid (read numbers at)))
    where
      neither : (b : Bool) → (b && false) ≡ false
      neither true = refl
      neither false = refl

-- ---- of the chunks

some_and : {X : Type 0} (o : Option X) (P : X → Type 0) → IfSome o P → is_some o ≡ true → IsSomeAnd o P
some_and (Some x) P p e = p
some_and None P p e = absurd (not_true_and_false false e refl)

both_of : {X : Type 0} (o : Option X) (P Q R : X → Type 0) → ((x : X) → P x → Q x → R x) → IfSome o P → IsSomeAnd o Q
    → IsSomeAnd o R
both_of (Some x) P Q R f p q = f x p q
both_of None P Q R f p q = q

known : {X : Type 0} (o : Option X) (C : Type 0) → IsSomeAnd o (λ x. C) → C
known (Some x) C c = c
known None C c = absurd c

there : {X : Type 0} (o : Option X) (z : X) → option_map (λ y. y) o ≡ Some z → is_some o ≡ true
there (Some x) z e = refl
there None z e = ap is_some e

from_first : (n : ℕ) → 0 + n ≡ n
from_first n = omega arith

module _ {S F A : Type 0} {steps : S → Option (Bor (List ℤ)) → S → Type 0} (p : Run steps)
    (g : Mut F (Bor (List ℤ) × Unit {0}) Bool) (f : F) (valid : A → Bool) (read : List ℤ → ℕ → A) (width : ℕ)
    (numbers : List ℤ) (wide : 0 < width) (chunks : IsChunksExactRun p width numbers)
    (test : List ℤ → Bool)
    (same : (x : List ℤ) (at : ℕ) → IsSubsliceAt width numbers at x → test x ≡ valid (read numbers at))
    (turn : Bool → Bool)
    (asks : (x : Bor (List ℤ)) (b : Bool) → length x.now ≡ width → Called g f (x, tt) b f → turn b ≡ test x.now) where
  answered : (b : Bool) (k : ℕ) → IsSomeAnd (p.at k) (λ x. Called g f (x, tt) b f)
      → turn b ≡ valid (read numbers (0 + k * width))
  answered b k c =
      rw from_first
      (known (p.at k) _
      (both_of (p.at k) _ _ (λ x. turn b ≡ valid (read numbers (k * width)))
      (λ x part call. asks x b part.0 call ∙ same x.now (k * width) part.2) (chunks.2 k) c))

  -- where it answers so of every chunk, every part passes
  pub every_chunk_passes : (b : Bool) → turn b ≡ true → p.whole ≡ true → Bor (List ℤ)
      → AllItems p (λ x. Called g f (x, tt) b f)
      → true ≡ every valid (parts_from read width numbers 0 (length numbers / width))
  every_chunk_passes b t w d all =
      sym
      (every_by_number valid read width numbers _ 0
      (λ k h. sym (answered b k (some_and (p.at k) _ (all k) (there (p.at k) _ (p.reads k d (omega (arith, chunks.1 w))))))
      ∙ t))

  -- and where it answers so of one, that part does not
  pub some_chunk_fails : (b : Bool) → turn b ≡ false → AnyItem p (λ x. Called g f (x, tt) b f)
      → false ≡ every valid (parts_from read width numbers 0 (length numbers / width))
  some_chunk_fails b t one = sym (not_every_by_number valid read width numbers _ 0 one.0 place (sym (answered b one.0 one.2) ∙ t))
    where
      place : one.0 < length numbers / width
      place = go (le_or_lt (length numbers / width) one.0)
        where
          go : (length numbers / width ≤ one.0) ⊎ (one.0 < length numbers / width) → one.0 < length numbers / width
          go (inr l) = l
          go (inl l) =
              let most : (length numbers / width + 1) * width ≤ p.len * width = mul-le-mul_right width (omega (arith, one.1)) in
              absurd (omega (arith, most, quotient_high (length numbers) width wide, chunks.0))

  -- so `all` answers whether every part passes, and `any` whether not every part does
  module _ (keeps : CallKeepsClosure g f) (d : Bor (List ℤ)) where
    pub all_answers : turn true ≡ true → turn false ≡ false → (r : Bool)
        → MatchBool r (IsTrue p.whole × AllItemsGive p g f true) (AnyItemGives p g f false)
        → r ≡ every valid (parts_from read width numbers 0 (length numbers / width))
    all_answers y n true m = every_chunk_passes true y m.0 d (m.1 keeps)
    all_answers y n false m = some_chunk_fails false n (m keeps)

    pub any_answers : turn true ≡ false → turn false ≡ true → (r : Bool)
        → MatchBool r (AnyItemGives p g f true) (IsTrue p.whole × AllItemsGive p g f false)
        → not r ≡ every valid (parts_from read width numbers 0 (length numbers / width))
    any_answers y n true m = some_chunk_fails true y (m keeps)
    any_answers y n false m = every_chunk_passes false n m.0 d (m.1 keeps)

-- a run of `chunks_exact` reads the slice that it was made of
pub chunks_read : {S : Type 0} {steps : S → Option (Bor (List ℤ)) → S → Type 0} (p : Run steps) (size : S → ℕ)
    (rest : S → List ℤ) (s : S) (width : ℕ) (numbers : List ℤ) → 0 < width → p.from ≡ s → size s ≡ width
    → rest s ≡ numbers → (0 < size p.from → IsChunksExactRun p (size p.from) (rest p.from))
    → IsChunksExactRun p width numbers
chunks_read p size rest s width numbers wide begun sized whole f =
    let a : size p.from ≡ width = ap size begun ∙ sized in
    let b : rest p.from ≡ numbers = ap rest begun ∙ whole in
    (rw (a, b) at f) wide
