-- Laws of the book: row by row it comes to what the paper says of all rows.
use mathlib.Core.Path.{◌≡◌, refl, sym, ap, ◌∙◌}
use mathlib.Core.Bool.{Bool, true, false}
use mathlib.Core.List.{List, [], ◌∷◌}
use Prim.Native.Nat.{ℕ, ◌+◌, ◌*◌, ◌≤◌, ◌<◌, max}
use native.Mathlib.Nat.{mul-le-mul_left, mul-le-mul_right, max-le, max-zero}
use native.Mathlib.Omega.{arith}
use lib.Dec.{ltb, eqb}
use borrow.Author.Tests.{ltb-true, ltb-false, eq-eqb, ne_eqb}
use Rattle.paper.specs.declared.Roubles.{Roubles}
use Rattle.paper.specs.Lists.{pick, those}
use Rattle.paper.specs.Numbers.{row_numbers, all_numbers_most, price_most, volume_most}
use Rattle.paper.specs.Roundings.{half_up}
use Rattle.paper_desk.specs.Evaluation.{traded, weights, worth, mean, close_of, lesser_ask, best_bid, best_ask}
use Rattle.evaluation.specs.declared.Book.{Book}
use Rattle.evaluation.specs.Book.{Room, Bounded, added, book_of, close_in}
use Rattle.evaluation.proofs.Prices.{Fitting}
use Rattle.evaluation.proofs.Sides.{lesser_is_first, lesser_le, lesser_assoc}

-- ---- a book, joined with the rows that are still to come

unfoldable pub joined : Book → List Roubles → Book
joined b rs =
    record {
      weight = b.weight + weights rs;
      worth = b.worth + worth rs;
      bid = max b.bid (best_bid rs);
      ask = lesser_ask b.ask (best_ask rs);
    }

abbrev pub empty : Book
empty = record { weight = 0; worth = 0; bid = 0; ask = 0 }

pub joined_first : (rs : List Roubles) → joined empty rs ≡ book_of rs
unfolding joined book_of lesser_ask
joined_first rs =
    let first : 0 + weights rs ≡ weights rs = omega arith in
    let second : 0 + worth rs ≡ worth rs = omega arith in
    let third : max 0 (best_bid rs) ≡ best_bid rs = omega arith in
    λ i. record { weight = first i; worth = second i; bid = third i; ask = best_ask rs }

max_assoc : (a b c : ℕ) → max a (max b c) ≡ max (max a b) c
max_assoc a b c = omega arith

pub joined_next : (b : Book) (r : Roubles) (rs : List Roubles) → joined b (r ∷ rs) ≡ joined (added b r) rs
unfolding joined added weights worth best_bid best_ask
joined_next b r rs =
    let first : b.weight + (r.weight + weights rs) ≡ b.weight + r.weight + weights rs = omega arith in
    let second : b.worth + (r.weight * r.close + worth rs) ≡ b.worth + r.weight * r.close + worth rs =
    omega arith in
    λ i. record {
      weight = first i;
      worth = second i;
      bid = max_assoc b.bid r.bid (best_bid rs) i;
      ask = sym (lesser_assoc b.ask r.ask (best_ask rs)) i;
    }

pub joined_none : (b : Book) → joined b [] ≡ b
unfolding joined weights worth best_bid best_ask
joined_none b =
    let first : b.weight + 0 ≡ b.weight = omega arith in
    let second : b.worth + 0 ≡ b.worth = omega arith in
    λ i. record {
      weight = first i;
      worth = second i;
      bid = max-zero b.bid i;
      ask =
          sym (lesser_is_first b.ask 0 refl) i;
    }

-- ---- the close: a row of weight 0 adds nothing, so the sums over all rows are those over the rows with weight

-- every row of `traded` has weight
heavy : (rs : List Roubles) (s : Roubles) (ss : List Roubles) → traded rs ≡ s ∷ ss → 0 < s.weight
unfolding traded those
heavy [] s ss e = absurd (let z : ◌≡◌ {A = ℕ} 0 1 = cc in omega arith)
heavy (r ∷ rs) s ss e = step (ltb 0 r.weight) refl e (heavy rs s ss)
  where
    step : (t : Bool) → ltb 0 r.weight ≡ t → pick t (r ∷ traded rs) (traded rs) ≡ s ∷ ss
        → (traded rs ≡ s ∷ ss → 0 < s.weight) → 0 < s.weight
    step true q p h = let same : r ≡ s = cc in rw same at (ltb-true 0 r.weight q)
    step false q p h = h p

traded_weights : (rs : List Roubles) → weights (traded rs) ≡ weights rs
unfolding traded those weights
traded_weights [] = refl
traded_weights (r ∷ rs) = step (ltb 0 r.weight) refl (traded_weights rs)
  where
    step : (t : Bool) → ltb 0 r.weight ≡ t → weights (traded rs) ≡ weights rs
        → weights (pick t (r ∷ traded rs) (traded rs)) ≡ r.weight + weights rs
    step true e h = ap (λ (n : ℕ). r.weight + n) h
    step false e h = omega (arith, ltb-false 0 r.weight e)

traded_worth : (rs : List Roubles) → worth (traded rs) ≡ worth rs
unfolding traded those worth
traded_worth [] = refl
traded_worth (r ∷ rs) = step (ltb 0 r.weight) refl (traded_worth rs)
  where
    step : (t : Bool) → ltb 0 r.weight ≡ t → worth (traded rs) ≡ worth rs
        → worth (pick t (r ∷ traded rs) (traded rs)) ≡ r.weight * r.close + worth rs
    step true e h = ap (λ (n : ℕ). r.weight * r.close + n) h
    step false e h =
        let light : r.weight ≤ 0 = ltb-false 0 r.weight e in
        omega (arith, mul-le-mul_right r.close light)

-- the close from the book of all rows is the mean over those with weight
pub close_of_book : (previous : ℕ) (rs : List Roubles) → close_in previous (book_of rs) ≡ close_of previous rs
unfolding close_in book_of close_of mean weights
close_of_book previous rs = step (traded rs) refl
  where
    step : (ts : List Roubles) → traded rs ≡ ts → pick (eqb (weights rs) 0) previous (half_up (worth rs) (weights rs))
        ≡ mean previous ts
    step [] e =
        let none : weights rs ≡ 0 = sym (traded_weights rs) ∙ ap weights e in
        rw (eq-eqb (weights rs) 0 none)
    step (s ∷ ss) e =
        let w : weights rs ≡ weights (s ∷ ss) = sym (traded_weights rs) ∙ ap weights e in
        let v : worth rs ≡ worth (s ∷ ss) = sym (traded_worth rs) ∙ ap worth e in
        let some : weights rs ≡ 0 → ⊥ = λ q. omega (arith, w, heavy rs s ss e) in
        rw (ne_eqb (weights rs) 0 some) (λ i. half_up (v i) (w i))

-- ---- ranges

-- what the book of the rows before a place keeps to
pub record Filled (at : ℕ) (b : Book) : Type 0 where
  pub sum : row_numbers * b.weight ≤ volume_most * at
  pub bounded : Bounded b

pub filled_first : Filled 0 empty
filled_first = record {
  sum = omega arith;
  bounded =
      record { mean = omega arith; bid = omega arith; ask = omega arith };
}

pub filled_room : (at : ℕ) (b : Book) (r : Roubles) → at + row_numbers ≤ all_numbers_most → Filled at b → Fitting r
    → Room b r
filled_room at b r h f t = record { sum = omega arith; mean = f.bounded.mean; weight = t.weight; close = t.close }

pub filled_next : (at : ℕ) (b : Book) (r : Roubles) → Filled at b → Fitting r → Filled (at + row_numbers) (added b r)
unfolding added
filled_next at b r f t =
    record {
      sum = omega arith;
      bounded = record {
        mean = omega (arith, mul-le-mul_left r.weight t.close);
        bid = max-le f.bounded.bid t.bid;
        ask = lesser_le b.ask r.ask price_most f.bounded.ask t.ask;
      };
    }
