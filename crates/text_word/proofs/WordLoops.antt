-- One turn of each loop over a line, on plain values.
use mathlib.Core.Path.{◌≡◌, refl, sym, ap, ◌∙◌}
use mathlib.Core.Bool.{Bool, true, false, ◌&&◌, not, cond}
use mathlib.Core.List.{List, [], ◌∷◌}
use Prim.Native.Nat.{ℕ, zero, suc, ◌+◌, ◌-◌, ◌*◌, ◌^◌, ◌≤◌, ◌<◌}
use native.Mathlib.Omega.{arith}
use lib.Dec.{leb, eqb}
use Rattle.std.specs.List.{fold, prefix_len}
use Rattle.std.specs.Cmp.Lexicographic.{pointwise}
use Rattle.std.proofs.lemmas.List.{take_rest}
use Rattle.std.proofs.lemmas.List.Sums.{prefix_len-le-length}
use Rattle.std.proofs.lemmas.List.Folds.{fold_stays}
use lib.ListN.{length, take, drop, get_or, drop_of_length-le, length-drop}
use lib.Seq.{drop-cons, drop-drop, length-take-le}
use lib.IntN.{ℤ, pos, negsuc, ◌-ℤ◌}
use mir.Syntax.{w64}
use mir.Val.{SFits, to_z, of_z}
use mir.ValLaws.{to_z_pos}
use mir.Facts.{to_z-of_z}
use borrow.Author.Tests.{leb-true, le-leb, lt-leb, eq-eqb, ne_eqb}
use Rattle.paper.proofs.Differences.{minus_one_less_is_negsuc}
use Rattle.paper.specs.Lists.{pick}
use Rattle.std.specs.declared.option.Option.{Option}
use Rattle.std.specs.declared.option.Option.TheVariants.{None, Some}
use Rattle.text_bytes.specs.Bytes.{is_not, run, same, digit_zero, digit_nine, minus_sign}
use Rattle.text_bytes.specs.Numbers.{is_digit, size_from, size_of, up_to, above, below, number_of, greatest, least}
use Rattle.text_bytes.proofs.Spelling.{within_is_digit, low_no_digit, high_no_digit}
use Rattle.text_word.specs.Parts.{Onward, Capped}

-- ---- a run of bytes that pass a test

-- the library's word for how many in front pass a test
run_is : (q : ℕ → Bool) (t : List ℕ) → prefix_len q t ≡ run q t
unfolding run
run_is q [] = refl
run_is q (b ∷ t) = go (q b) (run_is q t)
  where
    go : (x : Bool) → prefix_len q t ≡ run q t → cond x (1 + prefix_len q t) 0 ≡ pick x (suc (run q t)) 0
    go true e = omega (arith, e)
    go false e = refl

-- the end of the run from a place on
pub run_ends : (q : ℕ → Bool) (t : List ℕ) (from n : ℕ) → from ≤ length t → n ≡ prefix_len q (take (length t - from) (drop from t))
    → (from + n ≡ from + run q (drop from t)) × (from + n ≤ length t)
run_ends q t from n h e =
    let p : n ≡ prefix_len q (drop from t) = rw (take_rest t from) at e in
    let r : n ≡ run q (drop from t) = p ∙ run_is q (drop from t) in
    let l : n ≤ length t - from = rw (p, ← length-drop from t) (prefix_len-le-length q (drop from t)) in
    (omega (arith, r), omega (arith, l))

pub running_none : (q : ℕ → Bool) (t : List ℕ) (from : ℕ) → from ≤ length t → Onward q t from from
running_none q t from h = record { in_t = h; rest = refl }

module _ (q : ℕ → Bool) (t : List ℕ) (from i : ℕ) (p : Onward q t from i) where
  pub running_more : i < length t → q (get_or t i 0) ≡ true → Onward q t from (i + 1)
  unfolding run
  running_more h e =
      let f : i + 1 ≡ suc i = omega arith in
      let r : i + suc (run q (drop (suc i) t)) ≡ from + run q (drop from t) = rw (drop-cons t i 0 h, e) at p.rest in
      record { in_t = omega arith; rest = rw f (omega (arith, r)) }

  running_at : (j : ℕ) → j ≡ i + 1 → i < length t → q (get_or t i 0) ≡ true → Onward q t from j
  running_at j f h e = rw f (running_more h e)

  pub running_end : (r : ℕ) → (r ≡ i + run q (drop i t)) × (r ≤ length t)
      → (r ≡ from + run q (drop from t)) × (r ≤ length t)
  running_end r e = (e.0 ∙ p.rest, e.1)

  pub running_stop : i < length t → q (get_or t i 0) ≡ false → (i ≡ from + run q (drop from t)) × (i ≤ length t)
  unfolding run
  running_stop h e =
      let r : i + 0 ≡ from + run q (drop from t) = rw (drop-cons t i 0 h, e) at p.rest in
      (omega (arith, r), p.in_t)

  pub running_all : length t ≤ i → (i ≡ from + run q (drop from t)) × (i ≤ length t)
  unfolding run
  running_all h =
      let r : i + 0 ≡ from + run q (drop from t) = rw (drop_of_length-le t h) at p.rest in
      (omega (arith, r), p.in_t)

pub onward_both : (q : ℕ → Bool) (t : List ℕ) (i j k m : ℕ) → Onward q t i j → Onward q t j k → k ≡ m → Onward q t i m
onward_both q t i j k m o p e = rw (← e) (record { in_t = p.in_t; rest = p.rest ∙ o.rest })

-- ---- no byte among many

abbrev none : ℕ → List ℕ → Bool
none b t = fold (λ n x. n && not (eqb x b)) true t

none_run : (b : ℕ) (t : List ℕ) → none b t ≡ true → run (is_not b) t ≡ length t
unfolding run is_not
none_run b [] e = refl
none_run b (x ∷ t) e = go (not (eqb x b)) e (none_run b t)
  where
    go : (n : Bool) → fold (λ n x. n && not (eqb x b)) n t ≡ true → (none b t ≡ true → run (is_not b) t ≡ length t)
        → pick n (suc (run (is_not b) t)) 0 ≡ suc (length t)
    go true e h = ap suc (h e)
    go false e h =
        let z : false ≡ true = sym (fold_stays (λ n x. n && not (eqb x b)) false (λ x. refl) t) ∙ e in
        cc

run_on : (q : ℕ → Bool) (n : ℕ) (t : List ℕ) → n ≤ length t → run q (take n t) ≡ n → run q t ≡ n + run q (drop n t)
unfolding run
run_on q zero t h e = omega arith
run_on q (suc n) [] h e = let z : ⊥ = omega arith in absurd z
run_on q (suc n) (x ∷ t) h e = go (q x) e (run_on q n t (omega arith))
  where
    go : (y : Bool) → pick y (suc (run q (take n t))) 0 ≡ suc n → (run q (take n t) ≡ n → run q t ≡ n + run q (drop n t))
        → pick y (suc (run q t)) 0 ≡ suc n + run q (drop n t)
    go true f h = let i : run q t ≡ n + run q (drop n t) = h (omega (arith, f)) in omega (arith, i)
    go false f h = let z : ⊥ = omega arith in absurd z

-- the run goes on behind n bytes of which none is b
pub none_onward : (b : ℕ) (t : List ℕ) (i n m : ℕ) (r : Bool) → i + n ≤ length t → m ≡ n
    → r ≡ none b (take m (drop i t)) → r ≡ true → Onward (is_not b) t i (i + n)
none_onward b t i n m r h f e y =
    let g : none b (take n (drop i t)) ≡ true = rw (← f) (sym e ∙ y) in
    let l : n ≤ length (drop i t) = rw (length-drop i t) (omega arith) in
    let k : run (is_not b) (take n (drop i t)) ≡ n = none_run b (take n (drop i t)) g ∙ length-take-le n (drop i t) l in
    let o : run (is_not b) (drop i t) ≡ n + run (is_not b) (drop n (drop i t)) = run_on (is_not b) n (drop i t) l k in
    let d : drop n (drop i t) ≡ drop (i + n) t = drop-drop n i t ∙ ap (λ (k : ℕ). drop k t) (omega arith) in
    record { in_t = h; rest = rw (← d) (omega (arith, o)) }

-- ---- digits

-- above hi the reading ends in Bad, whatever follows
number_over : (hi n : ℕ) (t : List ℕ) → hi < n → up_to hi (size_from n t) ≡ None
unfolding size_from up_to
number_over hi n [] h = rw (lt-leb n hi h)
number_over hi n (b ∷ t) h = go (is_digit b) (number_over hi (10 * n + (b - digit_zero)) t (omega arith))
  where
    go : (x : Bool) → up_to hi (size_from (10 * n + (b - digit_zero)) t) ≡ None
        → up_to hi (pick x (size_from (10 * n + (b - digit_zero)) t) None) ≡ None
    go true e = e
    go false e = refl

pub record Counting (t : List ℕ) (hi : ℕ) (goal : Option ℕ) (i x : ℕ) : Type 0 where
  pub in_t : i ≤ length t
  pub below : x ≤ hi
  pub rest : up_to hi (size_from x (drop i t)) ≡ goal

pub counting_none : (t : List ℕ) (from hi : ℕ) → from ≤ length t → Counting t hi (up_to hi (size_from 0 (drop from t)))
    from 0
counting_none t from hi h = record { in_t = h; below = omega arith; rest = refl }

module _ (t : List ℕ) (hi : ℕ) (goal : Option ℕ) (i x : ℕ) (p : Counting t hi goal i x) (h : i < length t) (b : ℕ) (e : b ≡
    get_or t i 0) where
  here : up_to hi (pick (is_digit b) (size_from (10 * x + (b - digit_zero)) (drop (suc i) t)) None) ≡ goal
  unfolding size_from
  here = rw e (rw (drop-cons t i 0 h) at p.rest)

  pub counting_low : b < digit_zero → None ≡ goal
  unfolding up_to
  counting_low q = rw (low_no_digit b q) at here

  pub counting_high : digit_nine < b → None ≡ goal
  unfolding up_to
  counting_high q = rw (high_no_digit b q) at here

  pub counting_over : digit_zero ≤ b → b ≤ digit_nine → hi < 10 * x + (b - digit_zero) → None ≡ goal
  counting_over lo up o =
      sym (number_over hi (10 * x + (b - digit_zero)) (drop (suc i) t) o) ∙ (rw (within_is_digit b lo up) at here)

  pub counting_more : digit_zero ≤ b → b ≤ digit_nine → 10 * x + (b - digit_zero) ≤ hi
      → Counting t hi goal (i + 1) (10 * x + (b - digit_zero))
  counting_more lo up o =
      let f : i + 1 ≡ suc i = omega arith in
      record { in_t = omega arith; below = o; rest = rw f (rw (within_is_digit b lo up) at here) }

pub counting_all : (t : List ℕ) (hi : ℕ) (goal : Option ℕ) (i x : ℕ) → Counting t hi goal i x → length t ≤ i → Some x ≡
    goal
unfolding size_from up_to
counting_all t hi goal i x p h = rw (le-leb x hi p.below) at (rw (drop_of_length-le t h) at p.rest)

-- ---- signs

turned_fits : (n : ℕ) → n < 2 ^ 63 → SFits w64 (negsuc 0 -ℤ pos n)
turned_fits n h = rw (minus_one_less_is_negsuc n) (record { sfits = omega arith })

module _ (v : ℕ) (n : Option ℕ) (e : n ≡ Some v) where
  pub capped_is : (hi : ℕ) → Capped hi n → v ≤ hi
  unfolding Capped
  capped_is hi h = rw e at h

  pub plus_fits : Capped greatest n → SFits w64 (pos v)
  plus_fits h = record { sfits = omega (arith, capped_is greatest h) }

  pub plus_is : Capped greatest n → Some (to_z w64 v) ≡ above n
  unfolding above
  plus_is h = rw (e, to_z_pos w64 v (omega (arith, capped_is greatest h)))

  pub minus_zero : v ≡ 0 → Some (pos 0) ≡ below n
  unfolding below
  minus_zero z = rw (e, z)

  pub less_fits : Capped least n → 0 < v → SFits w64 (pos (v - 1))
  less_fits h z = record { sfits = omega (arith, capped_is least h) }

  pub turned_of : Capped least n → 0 < v → SFits w64 (negsuc 0 -ℤ to_z w64 (v - 1))
  turned_of h z =
      let l : v - 1 < 2 ^ 63 = omega (arith, capped_is least h) in
      rw (to_z_pos w64 (v - 1) l) (turned_fits (v - 1) l)

  pub minus_is : Capped least n → 0 < v → Some (to_z w64 (of_z w64 (negsuc 0 -ℤ to_z w64 (v - 1)))) ≡
      below n
  unfolding below
  minus_is h z =
      let l : v - 1 < 2 ^ 63 = omega (arith, capped_is least h) in
      let o : v ≡ suc (v - 1) = omega arith in
      rw (to_z_pos w64 (v - 1) l, to_z-of_z (turned_fits (v - 1) l), minus_one_less_is_negsuc (v - 1), e) (by (v - 1) o)
    where
      by : (m : ℕ) → v ≡ suc m → Some (negsuc m) ≡ below (Some v)
      by m o = rw o

pub bad_plus : (n : Option ℕ) → n ≡ None → None ≡ above n
unfolding above
bad_plus n e = rw e

pub bad_minus : (n : Option ℕ) → n ≡ None → None ≡ below n
unfolding below
bad_minus n e = rw e

pub capped : (hi : ℕ) (x n : Option ℕ) → n ≡ up_to hi x → Capped hi n
unfolding Capped up_to
capped hi None n e = rw e tt
capped hi (Some v) n e = rw e (go (leb v hi) refl)
  where
    go : (b : Bool) → leb v hi ≡ b → Capped hi (pick b (Some v) None)
    go true q = leb-true v hi q
    go false q = tt

-- ---- a word that is a size_from

pub signed_none : (t : List ℕ) → length t ≡ 0 → None ≡ number_of t
unfolding number_of
signed_none [] h = refl
signed_none (b ∷ t) h = let z : ⊥ = omega arith in absurd z

pub signed_bare : (t : List ℕ) → get_or t 0 0 ≡ minus_sign → length t ≡ 1 → None ≡ number_of t
unfolding number_of size_of up_to below
signed_bare [] e h = refl
signed_bare (b ∷ []) e h = rw (eq-eqb b minus_sign e)
signed_bare (b ∷ d ∷ t) e h = let z : ⊥ = omega arith in absurd z

pub signed_minus : (t : List ℕ) (r : Option ℤ) (n : Option ℕ) → get_or t 0 0 ≡ minus_sign → (length t ≡ 0 → ⊥)
    → (length t ≡ 1 → ⊥) → n ≡ up_to least (size_from 0 (drop 1 t)) → r ≡ below n → r ≡ number_of t
unfolding number_of size_of
signed_minus [] r n e o h q s = absurd (o refl)
signed_minus (b ∷ []) r n e o h q s = absurd (h refl)
signed_minus (b ∷ d ∷ t) r n e o h q s = rw (eq-eqb b minus_sign e, ← q) s

pub signed_plus : (t : List ℕ) (r : Option ℤ) (n : Option ℕ) → (get_or t 0 0 ≡ minus_sign → ⊥) → (length t ≡ 0 → ⊥)
    → n ≡ up_to greatest (size_from 0 (drop 0 t)) → r ≡ above n → r ≡ number_of t
unfolding number_of size_of
signed_plus [] r n e o q s = absurd (o refl)
signed_plus (b ∷ t) r n e o q s = rw (ne_eqb b minus_sign e, ← q) s
