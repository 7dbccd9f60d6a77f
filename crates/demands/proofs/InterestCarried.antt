-- Demand 3 on the interest side: over any number of evenings that follow each other, the volatility that the last call
-- answers is near the exact one. Each call answers, for the key maturity that we follow, the volatility's rule of what
-- it was given; so the shares' induction serves.
use mathlib.Core.Path.{◌≡◌, refl, ◌∙◌, ap}
use mathlib.Core.Bool.{true}
use mathlib.Core.List.{List, [], ◌∷◌, map}
use Prim.Native.Nat.{ℕ, zero, suc, ◌+◌, ◌/◌, ◌≤◌, ◌<◌}
use native.Mathlib.Nat.{div-lt_iff_lt-mul}
use native.Mathlib.Omega.{arith}
use lib.IntN.{ℤ}
use lib.ListN.{length, get_or}
use borrow.Author.Tests.{leb-true}
use Rattle.paper.specs.declared.Maturity.{Maturity}
use Rattle.paper.specs.declared.MaturityFigures.{MaturityFigures}
use Rattle.paper.specs.declared.InterestAnswer.{InterestAnswer}
use Rattle.paper.specs.declared.Verdict.TheVariants.{Done}
use Rattle.paper.specs.Lists.{eight}
use Rattle.paper.specs.Numbers.{key_numbers, all_key_numbers_most}
use Rattle.paper.specs.Ranges.{parts_from, unsigned}
use Rattle.paper.specs.Roundings.{RoundedUp}
use Rattle.paper_interest.specs.Interest.{LentKey, key_at, keys_of, whole_keys, valid_interest, valid_keys, maturity_of}
use Rattle.paper_interest.specs.Interest.{maturities_of, in_range, change_of, repo_volatility, maturity_figures, no_figures}
use Rattle.paper_interest.specs.Interest.{accepted_interest, interest_answer}
use Rattle.paper_desk.specs.Exact.{NearExact, CarriedOn, begun, once_more}
use Rattle.paper_interest.specs.InterestExact.{Evening, no_key, key_in, Carried, answered_in, carried_after}
use Rattle.paper_interest.specs.InterestExact.{key_given, Follow, start, next, repo_choice, exact_change, exact_repo_square}
use Rattle.paper.proofs.Logic.{and_left, and_right}
use Rattle.paper_desk.proofs.CarriedOn.{carried_near}
use Rattle.paper_interest.proofs.InterestRanges.{valid_interest_in_range}
use Rattle.paper_interest.proofs.InterestRefusals.{accepted_exactly, accepted_figures}

-- a whole change is rounded already
change_rounded : (k : Maturity) → RoundedUp (change_of k) (exact_change k)
unfolding exact_change
change_rounded k = record { covers = omega arith; least = λ z l. omega arith; positive = omega arith }

-- ---- what a call answers for one of its key maturities

eight_at : {A : Type 0} (f : ℕ → A) (d : A) (n : ℕ) → n < 8 → get_or (eight f) n d ≡ f n
eight_at f d zero l = refl
eight_at f d (suc zero) l = refl
eight_at f d (suc (suc zero)) l = refl
eight_at f d (suc (suc (suc zero))) l = refl
eight_at f d (suc (suc (suc (suc zero)))) l = refl
eight_at f d (suc (suc (suc (suc (suc zero))))) l = refl
eight_at f d (suc (suc (suc (suc (suc (suc zero)))))) l = refl
eight_at f d (suc (suc (suc (suc (suc (suc (suc zero))))))) l = refl
eight_at f d (suc (suc (suc (suc (suc (suc (suc (suc n)))))))) l = absurd (omega arith)

map_at : {A B : Type 0} (f : A → B) (d : A) (e : B) (xs : List A) (n : ℕ) → n < length xs
    → get_or (map f xs) n e ≡ f (get_or xs n d)
map_at f d e [] n l = absurd (omega arith)
map_at f d e (x ∷ xs) zero l = refl
map_at f d e (x ∷ xs) (suc n) l = map_at f d e xs n (omega arith)

map_length : {A B : Type 0} (f : A → B) (xs : List A) → length (map f xs) ≡ length xs
map_length f [] = refl
map_length f (x ∷ xs) = ap suc (map_length f xs)

parts_length : {A : Type 0} (read : List ℤ → ℕ → A) (width : ℕ) (numbers : List ℤ) (at count : ℕ)
    → length (parts_from read width numbers at count) ≡ count
unfolding parts_from
parts_length read width numbers at zero = refl
parts_length read width numbers at (suc more) = ap suc (parts_length read width numbers (at + width) more)

-- "one to eight key maturities"
keys_most : (numbers : List ℤ) → valid_keys numbers ≡ true → length (keys_of numbers) ≤ 8
unfolding valid_keys whole_keys keys_of
keys_most numbers v =
    let most : length numbers ≤ all_key_numbers_most = leb-true _ _ (search (v, and_left, and_right)) in
    let few : length numbers / key_numbers < 9 =
    (div-lt_iff_lt-mul {k = key_numbers} {x = length numbers} {y = 9} (omega arith)).1 (omega arith) in
    rw (parts_length key_at key_numbers numbers 0 (length numbers / key_numbers)) (omega arith)

module _ (e : Evening) (done : (interest_answer e.given e.numbers).pair.verdict ≡ Done)
    (there : e.place < (interest_answer e.given e.numbers).count) where
  in_range_lem : in_range e.given e.numbers ≡ true
  in_range_lem = ((accepted_exactly e.given e.numbers).0 done).0

  answers : interest_answer e.given e.numbers ≡ accepted_interest e.given (maturities_of e.numbers)
  answers = accepted_figures e.given e.numbers done

  among : e.place < length (maturities_of e.numbers)
  unfolding accepted_interest
  among = omega (arith, ap (λ (x : InterestAnswer). x.count) answers)

  among_keys : e.place < length (keys_of e.numbers)
  unfolding maturities_of
  among_keys = omega (arith, among, map_length maturity_of (keys_of e.numbers))

  figures_answered_lem : get_or (interest_answer e.given e.numbers).figures e.place no_figures
      ≡ maturity_figures e.given (maturity_of (key_in e))
  unfolding accepted_interest maturities_of key_in
  figures_answered_lem =
      let few : e.place < 8 =
      omega (arith, among_keys, keys_most e.numbers (and_right (valid_interest e.given) _ in_range_lem)) in
      ap (λ (x : InterestAnswer). get_or x.figures e.place no_figures) answers
      ∙ eight_at (λ n. get_or (map (maturity_figures e.given) (maturities_of e.numbers)) n no_figures) no_figures
      e.place few
      ∙ map_at (maturity_figures e.given) (maturity_of no_key) no_figures (maturities_of e.numbers) e.place among
      ∙ ap (maturity_figures e.given)
      (map_at maturity_of no_key (maturity_of no_key) (keys_of e.numbers) e.place among_keys)

  -- the volatility's rule of what the call was given
  volatility_answered : (answered_in e).volatility ≡ repo_volatility e.given (maturity_of (key_in e))
  unfolding answered_in maturity_figures
  volatility_answered = ap (λ (f : MaturityFigures). f.volatility) figures_answered_lem

-- ---- evenings that follow each other

given_volatility : (last : Carried) (k : LentKey) → k ≡ key_given last k → (maturity_of k).volatility ≡ last.volatility
unfolding key_given maturity_of unsigned
given_volatility last k g = ap (λ (x : LentKey). unsigned x.volatility) g

interest_carried : {first : Carried} {es : List Evening} → Follow first es
    → CarriedOn (length es) (carried_after first es).volatility (exact_repo_square first es)
unfolding carried_after exact_repo_square repo_volatility repo_choice
interest_carried {first} start = begun first.volatility
interest_carried {first} (next {e} {es} f done there given) =
    let k : Maturity = maturity_of (key_in e) in
    let before : CarriedOn (length es) k.volatility (exact_repo_square first es) =
    rw (given_volatility (carried_after first es) (key_in e) given) (interest_carried f) in
    let ok : valid_interest e.given ≡ true = and_left _ (valid_keys e.numbers) (in_range_lem e done there) in
    rw (volatility_answered e done there)
    (once_more before e.given.model e.given.b k.tentative.bp (change_of k) (exact_change k)
    (valid_interest_in_range e.given ok).weighs (change_rounded k))

-- Demand 3 in bp
pub evenings_near : (first : Carried) (es : List Evening) → Follow first es
    → NearExact (length es) (carried_after first es).volatility (exact_repo_square first es)
evenings_near first es f = carried_near (interest_carried f)
