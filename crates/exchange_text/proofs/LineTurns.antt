-- What each function needs, on plain values: the ways that each ends, and one turn of the loop over the fields.
use mathlib.Core.Path.{◌≡◌, refl, sym, ap, ◌∙◌}
use mathlib.Core.List.{List, [], ◌∷◌, ◌++◌, append_assoc}
use Prim.Native.Nat.{ℕ, zero, suc, ◌+◌, ◌*◌, ◌≤◌, ◌<◌}
use native.Mathlib.Omega.{arith}
use lib.IntN.{ℤ}
use lib.ListN.{length, take, drop, get_or, set, length-set, length-drop, drop_of_length-le}
use lib.Seq.{sets, sets-eq, drop-cons, drop-drop, take_all, take-suc-set}
use borrow.Rule.Slice.PartMut.{put_mid}
use Rattle.paper.specs.Numbers.{row_numbers}
use Rattle.exchange_protocol.specs.declared.Column.{Column}
use Rattle.exchange_protocol.specs.Exchange.{semicolon, columns, line_numbers, whole_number}
use Rattle.exchange_protocol.specs.Scan.{Front, front, none, then, cell, passed, pass, line_end, field_end, cells}

columns_long : length columns ≡ line_numbers
unfolding columns
columns_long = refl

-- ---- what stands between the fields

module _ (k : ℕ) where
  pub end_more : k + 1 < line_numbers → (t : List ℕ) → pass semicolon t ≡ field_end (drop (k + 1) columns) t
  unfolding field_end
  end_more h t = rw (drop-cons columns (k + 1) whole_number (rw columns_long h))

  pub end_last : line_numbers ≤ k + 1 → (t : List ℕ) → line_end t ≡ field_end (drop (k + 1) columns) t
  unfolding field_end
  end_last h t = let l : length columns ≤ k + 1 = rw columns_long h in rw (drop_of_length-le columns l)

-- ---- a row

pub stored_row : (rows line new : List ℤ) (at : ℕ) → length line ≡ line_numbers
    → row_numbers * at + row_numbers ≤ length rows → new ≡ drop 1 line
    → put_mid (row_numbers * at) row_numbers rows new ≡ sets rows (row_numbers * at) (drop 1 line)
stored_row rows line new at l h e =
    let n : length (drop 1 line) ≡ row_numbers = omega (arith, length-drop 1 line) in
    rw (e, sets-eq (drop 1 line) rows (row_numbers * at) (omega (arith, n)), n)
    (ap (λ (x : List ℤ). take (row_numbers * at) rows ++ (drop 1 line ++ x)) (drop-drop row_numbers (row_numbers * at) rows)
    ∙ sym (append_assoc (take (row_numbers * at) rows) (drop 1 line) (drop (row_numbers * at + row_numbers) rows)))

-- ---- the fields

-- a column of the table, whatever stands for the columns past its end
pub column_is : (k : ℕ) (d : Column) → k < line_numbers → get_or columns k d ≡ get_or columns k whole_number
column_is k d h =
    let l : k < length columns = rw columns_long h in
    go columns k l
  where
    go : (cs : List Column) (j : ℕ) → j < length cs → get_or cs j d ≡ get_or cs j whole_number
    go [] j i = absurd (omega arith)
    go (c ∷ cs) zero i = refl
    go (c ∷ cs) (suc j) i = go cs j (omega arith)

-- the fields that are left, behind the numbers stored, lead to the same numbers and the same text behind them
pub record Filling (t : List ℕ) (numbers : List ℤ) (k : ℕ) (rest : List ℕ) : Type 0 where
  pub long : length numbers ≡ line_numbers
  pub left : cells (drop k columns) (take k numbers) rest ≡ cells columns [] t

module _ (t : List ℕ) (numbers : List ℤ) (k : ℕ) (rest : List ℕ) (f : Filling t numbers k rest) where
  pub filling_all : line_numbers ≤ k → front numbers rest ≡ cells columns [] t
  unfolding cells
  filling_all h =
      let l : length columns ≤ k = rw columns_long h in
      let m : length numbers ≤ k = rw f.long h in
      rw (drop_of_length-le columns l, take_all k numbers m) at f.left

  module _ (h : k < line_numbers) where
    opened : then (cell (get_or columns k whole_number) rest)
        (λ z behind. then (field_end (drop (k + 1) columns) behind)
        (λ u after. cells (drop (k + 1) columns) (take k numbers ++ z ∷ []) after)) ≡ cells columns [] t
    unfolding cells
    opened =
        let l : k < length columns = rw columns_long h in
        let e : k + 1 ≡ suc k = omega arith in
        rw e (rw (drop-cons columns k whole_number l) at f.left)

    pub filling_wrong : none ≡ cell (get_or columns k whole_number) rest → none ≡ cells columns [] t
    filling_wrong e = rw (← e) at opened

    module _ (z : ℤ) (behind : List ℕ) (g : front z behind ≡ cell (get_or columns k whole_number) rest) where
      pub filling_cut : none ≡ field_end (drop (k + 1) columns) behind → none ≡ cells columns [] t
      filling_cut q = rw (← g, ← q) at opened

      pub filling_more : (after : List ℕ) → front passed after ≡ field_end (drop (k + 1) columns) behind
          → Filling t (set numbers k z) (k + 1) after
      filling_more after q =
          let l : k < length numbers = rw f.long h in
          let i : k + 1 ≡ suc k = omega arith in
          let j : take (k + 1) (set numbers k z) ≡ take k numbers ++ z ∷ [] =
          ap (λ (n : ℕ). take n (set numbers k z)) i ∙ take-suc-set numbers k z l in
          record {
            long = length-set numbers k z ∙ f.long;
            left = rw j (rw (← g, ← q) at opened);
          }
