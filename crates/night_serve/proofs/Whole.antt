-- The whole sheet: the securities of the lines, and behind them those that are asked for and have no row.
use mathlib.Core.Path.{◌≡◌, refl, sym, ap, ◌∙◌}
use mathlib.Core.Bool.{Bool, true, false, ◌||◌}
use mathlib.Core.List.{List, [], ◌∷◌, ◌++◌, append-nil, append_assoc, map}
use Prim.Native.Nat.{ℕ, ◌+◌, ◌-◌, ◌*◌, ◌≤◌}
use native.Mathlib.Omega.{arith}
use lib.Dec.{eqb}
use lib.IntN.{ℤ}
use lib.ListN.{length, take, drop, length-drop}
use lib.Seq.{length-sets, take-add, length-take-le, get_or-take, drop-append_seam}
use Rattle.paper.specs.Lists.{pick, some}
use Rattle.paper.specs.Ranges.{unsigned}
use Rattle.paper.proofs.Logic.{not_true_and_false}
use Rattle.text_protocol.specs.declared.Pairs.{Pairs}
use Rattle.night_protocol.specs.Night.{Night, good, bad, night_of, is_among, joined, firsts, firsts_behind, ids_of}
use Rattle.night_protocol.specs.Night.{rows_in}
use Rattle.night_protocol.specs.Sheet.{day_numbers, words_most, evaluate_all, sheet_ids, sheet_text}
use Rattle.night_protocol.proofs.Rows.{among_at, firsts_both}
use Rattle.night_serve.specs.declared.reading.Securities.{Securities}
use Rattle.std.specs.Prelude.{Option, Some, None, Result, Ok, Err}
use Rattle.text_evidence.specs.Evidence.{unwritten, Hands}
use Rattle.night_serve.specs.declared.Served.{Served}
use Rattle.night_serve.specs.Tables.{HeldBy, HeldSome, Reads}
use Rattle.night_serve.specs.Serving.{Joins, PrintsText, PrintsAll, Answers}
use Rattle.night_serve.proofs.Lines.{evaluate_both}

-- those that are joined behind others
added : List ℕ → List ℕ → List ℕ
added base [] = []
added base (y ∷ ys) = pick (is_among y base) (added base ys) (y ∷ added (base ++ y ∷ []) ys)

behind_added : (base ys : List ℕ) → firsts_behind base ys ≡ base ++ added base ys
unfolding firsts_behind joined added
behind_added base [] = sym (append-nil base)
behind_added base (y ∷ ys) = go (is_among y base) (behind_added base ys) (behind_added (base ++ y ∷ []) ys)
  where
    go : (b : Bool) → firsts_behind base ys ≡ base ++ added base ys
        → firsts_behind (base ++ y ∷ []) ys ≡ (base ++ y ∷ []) ++ added (base ++ y ∷ []) ys
        → firsts_behind (pick b base (base ++ y ∷ [])) ys
        ≡ base ++ pick b (added base ys) (y ∷ added (base ++ y ∷ []) ys)
    go true e f = e
    go false e f = f ∙ append_assoc base (y ∷ []) (added (base ++ y ∷ []) ys)

among_more : (base : List ℕ) (y z : ℕ) → is_among z (base ++ y ∷ []) ≡ false → is_among z base ≡ false
unfolding is_among some
among_more [] y z e = refl
among_more (x ∷ base) y z e = go (eqb x z) e (λ f. among_more base y z f)
  where
    go : (b : Bool) → (b || some (λ i. eqb i z) (base ++ y ∷ [])) ≡ false
        → (some (λ i. eqb i z) (base ++ y ∷ []) ≡ false → some (λ i. eqb i z) base ≡ false)
        → (b || some (λ i. eqb i z) base) ≡ false
    go true f g = f
    go false f g = g f

-- they have no rows
none_behind : (zs : List ℤ) (p : Pairs) (lines : List (List ℤ)) (base ys : List ℕ)
    → ((z : ℕ) → is_among z base ≡ false → rows_in z lines ≡ [])
    → evaluate_all zs p lines (added base ys) ≡ evaluate_all zs p [] (added base ys)
unfolding evaluate_all added rows_in
none_behind zs p lines base [] h = refl
none_behind zs p lines base (y ∷ ys) h =
    go (is_among y base) refl (none_behind zs p lines base ys h)
    (none_behind zs p lines (base ++ y ∷ []) ys (λ z e. h z (among_more base y z e)))
  where
    go : (b : Bool) → is_among y base ≡ b
        → evaluate_all zs p lines (added base ys) ≡ evaluate_all zs p [] (added base ys)
        → evaluate_all zs p lines (added (base ++ y ∷ []) ys) ≡ evaluate_all zs p [] (added (base ++ y ∷ []) ys)
        → evaluate_all zs p lines (pick b (added base ys) (y ∷ added (base ++ y ∷ []) ys))
        ≡ evaluate_all zs p [] (pick b (added base ys) (y ∷ added (base ++ y ∷ []) ys))
    go true i e f = e
    go false i e f = rw (h y i, f)

module _ (zs : List ℤ) (p : Pairs) (s : Securities) (sheet sheet' ids' : List ℕ) (m : ℕ)
    (t : PrintsText zs p s sheet) (j : Joins s.ids s.count (drop day_numbers zs) ids' m)
    (a : sheet' ≡ sheet ++ evaluate_all zs p [] (take (m - s.count) (drop s.count ids'))) where
  module _ (lines : List (List ℤ)) (h : HeldBy lines s) where
    abbrev asked : List ℕ
    asked = map unsigned (drop day_numbers zs)

    behind : List ℕ
    behind = take (m - s.count) (drop s.count ids')

    whole : take s.count s.ids ++ take (m - s.count) (drop s.count ids') ≡ firsts_behind (take s.count s.ids) asked
    whole =
        let e : s.count + (m - s.count) ≡ m = omega (arith, j.low) in
        ap (λ (x : List ℕ). x ++ take (m - s.count) (drop s.count ids')) (sym j.kept)
        ∙ sym (take-add s.count (m - s.count) ids') ∙ ap (λ (x : ℕ). take x ids') e ∙ j.are

    is_added : take (m - s.count) (drop s.count ids') ≡ added (take s.count s.ids) asked
    is_added =
        sym (drop-append_seam (take s.count s.ids) (take (m - s.count) (drop s.count ids')))
        ∙ ap (drop (length (take s.count s.ids))) (whole ∙ behind_added (take s.count s.ids) asked)
        ∙ drop-append_seam (take s.count s.ids) (added (take s.count s.ids) asked)

    no_rows : (z : ℕ) → is_among z (take s.count s.ids) ≡ false → rows_in z lines ≡ []
    no_rows z e =
        h.others z
        (λ i k f. not_true_and_false (is_among z (take s.count s.ids))
        (among_at (take s.count s.ids) i z (rw (length-take-le s.count s.ids (omega (arith, h.ids_long, h.few))) k)
        (get_or-take s.count s.ids i 0 k ∙ f))
        e)

    the_ids : sheet_ids zs lines ≡ take s.count s.ids ++ take (m - s.count) (drop s.count ids')
    unfolding sheet_ids firsts
    the_ids =
        firsts_both [] (ids_of lines) asked ∙ ap (λ (x : List ℕ). firsts_behind x asked) (sym h.are) ∙ sym whole

    text_is : evaluate_all zs p lines (take s.count s.ids) ++ evaluate_all zs p [] (take (m - s.count) (drop s.count ids'))
        ≡ sheet_text zs p (good lines)
    unfolding sheet_text
    text_is =
        sym (ap (evaluate_all zs p lines) the_ids
        ∙ evaluate_both zs p lines (take s.count s.ids) (take (m - s.count) (drop s.count ids'))
        ∙ ap (λ (x : List ℕ). evaluate_all zs p lines (take s.count s.ids) ++ x)
        (ap (evaluate_all zs p lines) is_added ∙ none_behind zs p lines (take s.count s.ids) asked no_rows
        ∙ ap (evaluate_all zs p []) (sym is_added)))

  pub prints_all : PrintsAll zs p s sheet'
  prints_all =
      record {
        is = λ lines h.
            a ∙ ap (λ (x : List ℕ). x ++ evaluate_all zs p [] (take (m - s.count) (drop s.count ids'))) (t.is lines h)
            ∙ text_is lines h;
      }

-- ---- what is answered

module _ (t : List ℕ) (s : Securities) where
  pub held_some : (u : Unit {0}) → Reads t s (Ok u) → HeldSome s
  unfolding Reads
  held_some u h = record { lines = h.lines; held = h.held }

  module _ (zs : List ℤ) (p : Pairs) (sheet : List ℕ) (r : Served) where
    pub answers_good : (u : Unit {0}) → Reads t s (Ok u) → PrintsAll zs p s sheet → r.fault ≡ None
        → Hands (length sheet) unwritten r.told → Answers zs p sheet r (night_of t)
    unfolding Reads Answers
    answers_good u h a f w = rw h.is (f, a.is h.lines h.held, w)

    pub answers_bad : (n : ℕ) → Reads t s (Err n) → r.fault ≡ Some n → r.told ≡ unwritten
        → Answers zs p sheet r (night_of t)
    unfolding Reads Answers
    answers_bad n e f w = rw e (f, w)
