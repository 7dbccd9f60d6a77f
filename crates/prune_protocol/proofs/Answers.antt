-- The kept interest answers: those of a desk on which lines were left out are the same but for some that no evaluation
-- takes any more and that go before the end.
use mathlib.Core.Path.{◌≡◌, refl, ap}
use mathlib.Core.Bool.{Bool, true, false, not, ◌&&◌, ◌||◌}
use mathlib.Core.List.{List, [], ◌∷◌, ◌++◌}
use Prim.Native.Nat.{ℕ, zero, suc, ◌≤◌}
use native.Mathlib.Omega.{arith}
use lib.Dec.{eqb}
use lib.ListN.{length, take, get_or}
use borrow.Author.Tests.{eqb-true}
use Rattle.paper.specs.declared.WorkedBand.{WorkedBand}
use Rattle.paper.specs.Lists.{pick}
use Rattle.paper.specs.Verdicts.{is_done}
use Rattle.paper.proofs.Logic.{not_true_and_false, and_left, and_right}
use Rattle.text_protocol.specs.declared.Pair.{Pair}
use Rattle.text_protocol.specs.declared.Kept.{Kept}
use Rattle.text_protocol.specs.Kept.{unknown, no_pair, is_of, found_in}
use Rattle.text_protocol.specs.Line.{meaning}
use Rattle.prune_protocol.specs.Pruning.{Part, evaluates, watches, receives, works, other, part_of, takes, outlives}
use Rattle.prune_protocol.specs.Pruning.{taken_by, taken_in, kept_by, kept_through, newest, part_matters}

-- ---- answers, the newest first

abbrev pub answers_of : Kept → List Pair
answers_of k = k.newest ∷ k.middle ∷ k.oldest ∷ []

unfoldable pub has_pair : (ym yn : ℕ) → List Pair → Bool
has_pair ym yn [] = false
has_pair ym yn (p ∷ ps) = is_of p ym yn || has_pair ym yn ps

unfoldable pub answer_in : (ym yn : ℕ) → List Pair → WorkedBand
answer_in ym yn [] = unknown
answer_in ym yn (p ∷ ps) = pick (is_of p ym yn) p.worked (answer_in ym yn ps)

-- THE SECOND LIST IS THE FIRST, IN FRONT OF LINES, but for answers that go before the end, and that no evaluation takes:
-- a newer one has their pair, or nothing names it. An answer is kept for as many further interest lines as stand behind
-- it in the first list. Whatever stands behind is older, and found by no evaluation
pub data Thinned (ls : List (List ℕ)) : (newer first second : List Pair) → Type 0 where
  no_more : {newer ys : List Pair} → Thinned ls newer [] ys
  stays : {newer xs ys : List Pair} {a : Pair} → Thinned ls (a ∷ newer) xs ys → Thinned ls newer (a ∷ xs) (a ∷ ys)
  gone : {newer xs ys : List Pair} {a : Pair} → kept_through (length xs) ls ≡ false
      → (has_pair a.ym a.yn newer || not (taken_in a.ym a.yn (length xs) ls)) ≡ true
      → Thinned ls (a ∷ newer) xs ys → Thinned ls newer (a ∷ xs) ys

pub thinned_self : (ls : List (List ℕ)) (k : Kept) → Thinned ls [] (answers_of k) (answers_of k)
thinned_self ls k = stays (stays (stays no_more))

-- ---- an evaluation takes the same answer

module _ (l : List ℕ) (ls : List (List ℕ)) (id ym yn : ℕ) (says : part_of l ≡ evaluates id)
    (named : takes (meaning l) ym yn ≡ true) where
  is_taken_lem : (n : ℕ) → taken_in ym yn n (l ∷ ls) ≡ true
  unfolding taken_in taken_by
  is_taken_lem n = rw (says, named)

  answer_same : {newer xs ys : List Pair} → Thinned (l ∷ ls) newer xs ys → has_pair ym yn newer ≡ false
      → is_done (answer_in ym yn xs).verdict ≡ true → answer_in ym yn ys ≡ answer_in ym yn xs
  unfolding is_done has_pair answer_in
  answer_same no_more h d = absurd (not_true_and_false false d refl)
  answer_same (stays {newer} {xs} {ys} {a} rest) h d = go (is_of a ym yn) refl d (λ n d. answer_same rest n d)
    where
      go : (b : Bool) → is_of a ym yn ≡ b → is_done (pick b a.worked (answer_in ym yn xs)).verdict ≡ true
          → ((is_of a ym yn || has_pair ym yn newer) ≡ false → is_done (answer_in ym yn xs).verdict ≡ true
          → answer_in ym yn ys ≡ answer_in ym yn xs)
          → pick b a.worked (answer_in ym yn ys) ≡ pick b a.worked (answer_in ym yn xs)
      go true e d more = refl
      go false e d more = more (rw e h) d
  answer_same (gone {newer} {xs} {ys} {a} out left rest) h d = go (is_of a ym yn) refl d (λ n d. answer_same rest n d)
    where
      go : (b : Bool) → is_of a ym yn ≡ b → is_done (pick b a.worked (answer_in ym yn xs)).verdict ≡ true
          → ((is_of a ym yn || has_pair ym yn newer) ≡ false → is_done (answer_in ym yn xs).verdict ≡ true
          → answer_in ym yn ys ≡ answer_in ym yn xs)
          → answer_in ym yn ys ≡ pick b a.worked (answer_in ym yn xs)
      go true e d more =
          let m : a.ym ≡ ym = eqb-true a.ym ym (and_left (eqb a.ym ym) _ e) in
          let n : a.yn ≡ yn = eqb-true a.yn yn (and_right (eqb a.ym ym) _ e) in
          absurd (not_true_and_false false (rw (m, n, h, is_taken_lem (length xs)) at left) refl)
      go false e d more = more (rw e h) d

  pub found_same : (k m : Kept) → Thinned (l ∷ ls) [] (answers_of k) (answers_of m)
      → is_done (found_in k ym yn).verdict ≡ true → found_in m ym yn ≡ found_in k ym yn
  unfolding found_in has_pair answer_in
  found_same k m t d = answer_same t refl d

-- ---- a line that is no interest line

abbrev pub NoInterest : Part → Type 0
NoInterest (evaluates i) = Unit {0}
NoInterest (watches i) = Unit {0}
NoInterest (receives i x) = Unit {0}
NoInterest (works ym yn) = ⊥
NoInterest other = Unit {0}

-- what lines do to one answer that went
record Gone (a : Pair) (newer : List Pair) (n : ℕ) (ls : List (List ℕ)) : Type 0 where
  out : kept_through n ls ≡ false
  left : (has_pair a.ym a.yn newer || not (taken_in a.ym a.yn n ls)) ≡ true

gone_passes : (l : List ℕ) (ls : List (List ℕ)) (p : Part) → part_of l ≡ p → NoInterest p → (a : Pair)
    (newer : List Pair) (n : ℕ) → Gone a newer n (l ∷ ls) → Gone a newer n ls
unfolding kept_through kept_by taken_in taken_by
gone_passes l ls (evaluates i) e h a newer n g =
    record {
      out = rw e at g.out;
      left = less (has_pair a.ym a.yn newer) (takes (meaning l) a.ym a.yn) _ (rw e at g.left);
    }
  where
    less : (x y z : Bool) → (x || not (y || z)) ≡ true → (x || not z) ≡ true
    less true y z e = refl
    less false true z e = absurd (not_true_and_false false e refl)
    less false false z e = e
gone_passes l ls (watches i) e h a newer n g = record { out = rw e at g.out; left = rw e at g.left }
gone_passes l ls (receives i x) e h a newer n g = record { out = rw e at g.out; left = rw e at g.left }
gone_passes l ls (works ym yn) e h a newer n g = absurd h
gone_passes l ls other e h a newer n g = record { out = rw e at g.out; left = rw e at g.left }

pub thinned_passes : (l : List ℕ) (ls : List (List ℕ)) → NoInterest (part_of l) → {newer xs ys : List Pair}
    → Thinned (l ∷ ls) newer xs ys → Thinned ls newer xs ys
thinned_passes l ls h no_more = no_more
thinned_passes l ls h (stays rest) = stays (thinned_passes l ls h rest)
thinned_passes l ls h (gone {newer} {xs} {ys} {a} out left rest) =
    let g : Gone a newer (length xs) ls =
    gone_passes l ls (part_of l) refl h a newer (length xs) (record { out = out; left = left }) in
    gone g.out g.left (thinned_passes l ls h rest)

-- ---- an interest line

unfoldable pub all_but_last : List Pair → List Pair
all_but_last [] = []
all_but_last (a ∷ []) = []
all_but_last (a ∷ b ∷ ps) = a ∷ all_but_last (b ∷ ps)

one_fewer : (b : Pair) (ps : List Pair) → length (all_but_last (b ∷ ps)) ≡ length ps
unfolding all_but_last
one_fewer b [] = refl
one_fewer b (c ∷ ps) = ap suc (one_fewer c ps)

-- the newest answers, so many of them
first_of : {ls : List (List ℕ)} {newer xs ys : List Pair} (n : ℕ) → length xs ≤ n → Thinned ls newer xs ys
    → Thinned ls newer xs (take n ys)
first_of n h no_more = no_more
first_of zero h (stays rest) = absurd (omega arith)
first_of (suc n) h (stays rest) = stays (first_of n (omega arith) rest)
first_of n h (gone out left rest) = gone out left (first_of n (omega arith) rest)

module _ (l : List ℕ) (ls : List (List ℕ)) (q : Pair) (says : part_of l ≡ works q.ym q.yn) where
  stands_for : (ym yn : ℕ) (taken : Bool) (newer : List Pair) (b : Bool) → is_of q ym yn ≡ b
      → (has_pair ym yn newer || not (not b && taken)) ≡ true → (has_pair ym yn (newer ++ q ∷ []) || not taken) ≡ true
  unfolding has_pair
  stands_for ym yn taken [] true e h = rw e
  stands_for ym yn taken [] false e h = rw e h
  stands_for ym yn taken (p ∷ newer) b e h = go (is_of p ym yn) h (stands_for ym yn taken newer b e)
    where
      go : (c : Bool) → ((c || has_pair ym yn newer) || not (not b && taken)) ≡ true
          → ((has_pair ym yn newer || not (not b && taken)) ≡ true
          → (has_pair ym yn (newer ++ q ∷ []) || not taken) ≡ true)
          → ((c || has_pair ym yn (newer ++ q ∷ [])) || not taken) ≡ true
      go true h more = refl
      go false h more = more h

  -- an answer that went is kept for one further line fewer, and q may now stand for its pair
  gone_shifts : (a : Pair) (newer : List Pair) (n : ℕ) → Gone a newer (suc n) (l ∷ ls)
      → Gone a (newer ++ q ∷ []) n ls
  unfolding kept_through kept_by taken_in taken_by outlives
  gone_shifts a newer n g =
      record {
        out = rw says at g.out;
        left =
            stands_for a.ym a.yn (taken_in a.ym a.yn n ls) newer (is_of q a.ym a.yn) refl
            (rw says at g.left);
      }

  shifted : {newer xs ys : List Pair} → Thinned (l ∷ ls) newer xs ys
      → Thinned ls (newer ++ q ∷ []) (all_but_last xs) ys
  unfolding all_but_last
  shifted no_more = no_more
  shifted (stays {xs = []} rest) = no_more
  shifted (stays {xs = b ∷ xs} rest) = stays (shifted rest)
  shifted (gone {xs = []} out left rest) = no_more
  shifted (gone {newer = newer} {xs = b ∷ xs} {a = a} out left rest) =
      let g : Gone a (newer ++ q ∷ []) (length xs) ls =
      gone_shifts a newer (length xs) (record { out = out; left = left }) in
      gone {newer = newer ++ q ∷ []} {xs = all_but_last (b ∷ xs)} {a = a} (rw (one_fewer b xs) g.out)
      (rw (one_fewer b xs) g.left) (shifted rest)

  module _ (a b c d e f : Pair) (t : Thinned (l ∷ ls) [] (a ∷ b ∷ c ∷ []) (d ∷ e ∷ f ∷ [])) where
    pub interest_kept : Thinned ls [] (q ∷ a ∷ b ∷ []) (q ∷ d ∷ e ∷ [])
    unfolding all_but_last
    interest_kept = stays (first_of 2 (omega arith) (shifted t))

    pub interest_left : part_matters (part_of l) ls ≡ false → Thinned ls [] (q ∷ a ∷ b ∷ []) (d ∷ e ∷ f ∷ [])
    unfolding part_matters has_pair all_but_last
    interest_left m =
        let none : (taken_in q.ym q.yn newest ls || kept_through newest ls) ≡ false = rw says at m in
        gone (none_right (taken_in q.ym q.yn newest ls) (kept_through newest ls) none)
        (ap not (none_left (taken_in q.ym q.yn newest ls) (kept_through newest ls) none)) (shifted t)
      where
        none_left : (x y : Bool) → (x || y) ≡ false → x ≡ false
        none_left true y e = e
        none_left false y e = refl

        none_right : (x y : Bool) → (x || y) ≡ false → y ≡ false
        none_right true y e = absurd (not_true_and_false true refl e)
        none_right false y e = e

-- ---- behind all lines

same_list : {newer xs ys : List Pair} → Thinned [] newer xs ys → take (length xs) ys ≡ xs
unfolding kept_through
same_list no_more = refl
same_list (stays {newer} {xs} {ys} {a} rest) = ap (λ (ps : List Pair). a ∷ ps) (same_list rest)
same_list (gone out left rest) = absurd (not_true_and_false true refl out)

abbrev kept_from : List Pair → Kept
kept_from ps = record { newest = get_or ps 0 no_pair; middle = get_or ps 1 no_pair; oldest = get_or ps 2 no_pair }

pub kept_same : (k m : Kept) → Thinned [] [] (answers_of k) (answers_of m) → m ≡ k
kept_same k m t = ap kept_from (same_list t)
