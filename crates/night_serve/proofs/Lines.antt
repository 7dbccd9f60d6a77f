-- Why what is printed is what the definitions say, as laws over lists and numbers: one line after the other.
use mathlib.Core.Path.{◌≡◌, refl, sym, ap, ◌∙◌}
use mathlib.Core.List.{List, [], ◌∷◌, ◌++◌, append-nil, append_assoc}
use Prim.Native.Nat.{ℕ, suc, ◌+◌, ◌-◌, ◌*◌, ◌≤◌, ◌<◌}
use native.Mathlib.Omega.{arith}
use lib.IntN.{ℤ}
use lib.ListN.{length, take, drop, get_or, length-append}
use lib.Seq.{take-suc, take_all}
use Rattle.paper.specs.Numbers.{row_numbers, all_numbers_most}
use Rattle.text_protocol.specs.declared.Pairs.{Pairs}
use Rattle.exchange_protocol.specs.Exchange.{in_one}
use Rattle.night_protocol.specs.Night.{rows_in}
use Rattle.night_protocol.specs.Sheet.{evaluate_text, evaluate_all}
use Rattle.night_serve.specs.declared.reading.Securities.{Securities}
use Rattle.night_serve.specs.Tables.{HeldBy}
use Rattle.night_serve.specs.Serving.{head_most, line_most}

-- ---- a line more

pub evaluate_more : (zs : List ℤ) (p : Pairs) (lines : List (List ℤ)) (ids : List ℕ) (id : ℕ)
    → evaluate_all zs p lines (ids ++ id ∷ [])
    ≡ evaluate_all zs p lines ids ++ evaluate_text zs p id (in_one (rows_in id lines))
unfolding evaluate_all
evaluate_more zs p lines [] id = append-nil (evaluate_text zs p id (in_one (rows_in id lines)))
evaluate_more zs p lines (i ∷ ids) id =
    ap (λ (x : List ℕ). evaluate_text zs p i (in_one (rows_in i lines)) ++ x) (evaluate_more zs p lines ids id)
    ∙ sym (append_assoc (evaluate_text zs p i (in_one (rows_in i lines))) (evaluate_all zs p lines ids)
    (evaluate_text zs p id (in_one (rows_in id lines))))

pub evaluate_both : (zs : List ℤ) (p : Pairs) (lines : List (List ℤ)) (xs ys : List ℕ)
    → evaluate_all zs p lines (xs ++ ys) ≡ evaluate_all zs p lines xs ++ evaluate_all zs p lines ys
unfolding evaluate_all
evaluate_both zs p lines [] ys = refl
evaluate_both zs p lines (x ∷ xs) ys =
    ap (λ (t : List ℕ). evaluate_text zs p x (in_one (rows_in x lines)) ++ t) (evaluate_both zs p lines xs ys)
    ∙ sym (append_assoc (evaluate_text zs p x (in_one (rows_in x lines))) (evaluate_all zs p lines xs)
    (evaluate_all zs p lines ys))

-- ---- the securities of the text

pub record Printing (zs : List ℤ) (p : Pairs) (s : Securities) (sheet : List ℕ) (i : ℕ) : Type 0 where
  pub most : length sheet ≤ line_most * i
  pub is : (lines : List (List ℤ)) → HeldBy lines s → sheet ≡ evaluate_all zs p lines (take i s.ids)

pub printing_none : (zs : List ℤ) (p : Pairs) (s : Securities) → Printing zs p s [] 0
unfolding evaluate_all
printing_none zs p s = record { most = omega arith; is = λ lines h. refl }

pub printing_more : (zs : List ℤ) (p : Pairs) (s : Securities) (sheet : List ℕ) (i : ℕ) → Printing zs p s sheet i
    → i < s.count → (line : List ℕ) (figures : List ℤ)
    → figures ≡ take (row_numbers * get_or s.counts i 0) (drop (all_numbers_most * i) s.figures)
    → line ≡ evaluate_text zs p (get_or s.ids i 0) figures → length line ≤ line_most
    → Printing zs p s (sheet ++ line) (i + 1)
printing_more zs p s sheet i g h line figures f e m =
    record { most = omega (arith, g.most, length-append sheet line); is = λ lines held. more lines held }
  where
    more : (lines : List (List ℤ)) → HeldBy lines s → sheet ++ line ≡ evaluate_all zs p lines (take (i + 1) s.ids)
    more lines held =
        let j : i + 1 ≡ suc i = omega arith in
        let l : i < length s.ids = omega (arith, held.ids_long, held.few) in
        let t : take (suc i) s.ids ≡ take i s.ids ++ get_or s.ids i 0 ∷ [] = take-suc s.ids i 0 l in
        rw (j, t, evaluate_more zs p lines (take i s.ids) (get_or s.ids i 0), e, f, held.rows i h, g.is lines held)

-- ---- the ids that are asked for

pub asking_more : (zs : List ℤ) (p : Pairs) (ids : List ℕ) (i : ℕ) → i < length ids
    → evaluate_all zs p [] (take (i + 1) ids)
    ≡ evaluate_all zs p [] (take i ids) ++ evaluate_text zs p (get_or ids i 0) []
unfolding rows_in in_one
asking_more zs p ids i h =
    let j : i + 1 ≡ suc i = omega arith in
    rw (j, take-suc ids i 0 h, evaluate_more zs p [] (take i ids) (get_or ids i 0))

pub record Asking (zs : List ℤ) (p : Pairs) (ids sheet₀ sheet : List ℕ) (i : ℕ) : Type 0 where
  pub most : length sheet ≤ length sheet₀ + (head_most + 1) * i
  pub is : sheet ≡ sheet₀ ++ evaluate_all zs p [] (take i ids)

pub asking_none : (zs : List ℤ) (p : Pairs) (ids sheet : List ℕ) → Asking zs p ids sheet sheet 0
unfolding evaluate_all
asking_none zs p ids sheet = record { most = omega arith; is = sym (append-nil sheet) }

module _ (zs : List ℤ) (p : Pairs) (ids sheet₀ sheet : List ℕ) (i : ℕ) (s : Asking zs p ids sheet₀ sheet i) where
  pub asked_more : i < length ids → (line : List ℕ) → line ≡ evaluate_text zs p (get_or ids i 0) []
      → length line ≤ head_most + 1 → Asking zs p ids sheet₀ (sheet ++ line) (i + 1)
  asked_more h line e m =
      record {
        most = omega (arith, s.most, length-append sheet line);
        is =
            rw (asking_more zs p ids i h, e)
            (ap (λ (x : List ℕ). x ++ evaluate_text zs p (get_or ids i 0) []) s.is
            ∙ append_assoc sheet₀ (evaluate_all zs p [] (take i ids)) (evaluate_text zs p (get_or ids i 0) []));
      }

  pub asked_all : length ids ≤ i → sheet ≡ sheet₀ ++ evaluate_all zs p [] ids
  asked_all h = rw (take_all i ids h) at s.is
