-- What valid statics are known to be, by name: each in the range of its row of the table, the orders, the multiples of
-- h. Whoever needs a range of a static cites it from here, and no proof takes the table apart itself.
use mathlib.Core.Path.{◌≡◌, refl, sym, ap, ◌∙◌}
use mathlib.Core.Bool.{Bool, true, false, ◌&&◌}
use mathlib.Core.List.{List, [], ◌∷◌, map}
use Prim.Native.Nat.{ℕ, zero, suc, ◌%◌, ◌≤◌, ◌<◌}
use native.Mathlib.Omega.{arith}
use lib.Dec.{leb, eqb}
use lib.IntN.{ℤ, pos}
use lib.ListN.{length, get_or}
use borrow.Author.Tests.{leb-true, eqb-true, eqb-false}
use Rattle.paper.specs.declared.Statics.{Statics}
use Rattle.paper.specs.declared.GivenStatics.{GivenStatics}
use Rattle.paper.specs.Lists.{pick}
use Rattle.paper.specs.Numbers.{rate_most, lot_most, step_most, multiplier_least, multiplier_most, weight_most}
use Rattle.paper.specs.Numbers.{wait_most, first_days_most, days_most, liquidity_most, divisor_least, divisor_most}
use Rattle.paper.specs.Numbers.{shift_most, nearness_most, seconds_most, evening_moves_most}
use Rattle.paper.specs.Ranges.{within, unsigned_at, Static, yes_or_no, statics_table, statics_count, given_of}
use Rattle.paper.specs.Ranges.{statics_of, flag_of, numbers_of, in_table, is_in_order, multiples_of_step, valid_statics}
use Rattle.paper.specs.Ranges.{valid_flags, valid_given}
use Rattle.paper.proofs.Logic.{and_left, and_right, and_both}

-- "low..high"
pub record Within (low high x : ℕ) : Type 0 where
  pub least : low ≤ x
  pub most : x ≤ high

pub within_facts : (low high x : ℕ) → within low high x ≡ true → Within low high x
within_facts low high x v =
    record {
      least = leb-true _ _ (and_left (leb low x) (leb x high) v);
      most = leb-true _ _ (and_right (leb low x) (leb x high) v);
    }

-- the row and the number at a place
pub row_facts : (rows : List Static) (numbers : List ℕ) → in_table rows numbers ≡ true → (i : ℕ) → i < length rows
    → Within (get_or rows i yes_or_no).least (get_or rows i yes_or_no).most (get_or numbers i 0)
row_facts [] numbers v i l = absurd (omega (arith, l))
row_facts (row ∷ rows) [] v i l = absurd (no v)
  where
    no : ◌≡◌ {A = Bool} (in_table (row ∷ rows) []) true → ⊥
    no e = let z : ◌≡◌ {A = ℕ} 0 1 = cc in omega arith
row_facts (row ∷ rows) (x ∷ numbers) v zero l =
    within_facts row.least row.most x (and_left _ (in_table rows numbers) v)
row_facts (row ∷ rows) (x ∷ numbers) v (suc i) l =
    row_facts rows numbers (and_right (within row.least row.most x) _ v) i (omega arith)

pub record StaticsFacts (st : Statics) : Type 0 where
  pub lot : Within 1 lot_most st.lot
  pub h : Within 1 step_most st.h
  pub q : Within multiplier_least multiplier_most st.q
  pub aup : st.aup ≤ weight_most
  pub adown : st.adown ≤ weight_most
  pub wait : Within 1 wait_most st.wait
  pub rh1 : Within 1 first_days_most st.rh1
  pub rh1_rh2 : st.rh1 ≤ st.rh2
  pub rh2_rh3 : st.rh2 ≤ st.rh3
  pub rh3 : st.rh3 ≤ days_most
  pub liq : st.liq ≤ liquidity_most
  pub min1_min2 : st.min1 ≤ st.min2
  pub min2_min3 : st.min2 ≤ st.min3
  pub min3_smax : st.min3 ≤ st.smax
  pub smax : st.smax ≤ rate_most
  pub min1_multiple : st.min1 % st.h ≡ 0
  pub min2_multiple : st.min2 % st.h ≡ 0
  pub min3_multiple : st.min3 % st.h ≡ 0
  pub smax_multiple : st.smax % st.h ≡ 0
  pub xpr : Within divisor_least divisor_most st.xpr
  pub shift : Within 1 shift_most st.shift
  pub pchmax : st.pchmax ≤ rate_most
  pub pclmax : st.pclmax ≤ rate_most
  pub w : st.w ≤ nearness_most
  pub u : Within 1 seconds_most st.u
  pub uevening : Within 1 seconds_most st.uevening
  pub eveningmax : st.eveningmax ≤ evening_moves_most

module _ (st : Statics) (v : valid_statics st ≡ true) where
  pub ranges_hold : in_table statics_table (numbers_of st) ≡ true
  unfolding valid_statics
  ranges_hold = and_left _ (is_in_order st) (and_left _ (multiples_of_step st) v)

  orders_hold : is_in_order st ≡ true
  unfolding valid_statics
  orders_hold = and_right (in_table statics_table (numbers_of st)) _ (and_left _ (multiples_of_step st) v)

  multiples_hold : multiples_of_step st ≡ true
  unfolding valid_statics
  multiples_hold = and_right (in_table statics_table (numbers_of st) && is_in_order st) _ v

  -- the range of the row at a place
  row : (i : ℕ) → i < length statics_table
      → Within (get_or statics_table i yes_or_no).least (get_or statics_table i yes_or_no).most (get_or (numbers_of st) i 0)
  row = row_facts statics_table (numbers_of st) ranges_hold

  pub statics_facts : StaticsFacts st
  statics_facts =
      let orders : is_in_order st ≡ true = orders_hold in
      let multiples : multiples_of_step st ≡ true = multiples_hold in
      record {
        lot = row 0 (omega arith);
        h = row 1 (omega arith);
        q = row 2 (omega arith);
        aup = (row 3 (omega arith)).most;
        adown = (row 4 (omega arith)).most;
        wait = row 5 (omega arith);
        rh1 = row 6 (omega arith);
        rh1_rh2 = leb-true _ _ (search (orders, and_left, and_right) depth 10);
        rh2_rh3 = leb-true _ _ (search (orders, and_left, and_right) depth 10);
        rh3 = (row 8 (omega arith)).most;
        liq = (row 9 (omega arith)).most;
        min1_min2 = leb-true _ _ (search (orders, and_left, and_right) depth 10);
        min2_min3 = leb-true _ _ (search (orders, and_left, and_right) depth 10);
        min3_smax = leb-true _ _ (search (orders, and_left, and_right) depth 10);
        smax = (row 13 (omega arith)).most;
        min1_multiple = eqb-true _ _ (search (multiples, and_left, and_right) depth 10);
        min2_multiple = eqb-true _ _ (search (multiples, and_left, and_right) depth 10);
        min3_multiple = eqb-true _ _ (search (multiples, and_left, and_right) depth 10);
        smax_multiple = eqb-true _ _ (search (multiples, and_left, and_right) depth 10);
        xpr = row 14 (omega arith);
        shift = row 15 (omega arith);
        pchmax = (row 16 (omega arith)).most;
        pclmax = (row 17 (omega arith)).most;
        w = (row 18 (omega arith)).most;
        u = row 19 (omega arith);
        uevening = row 22 (omega arith);
        eveningmax = (row 24 (omega arith)).most;
      }

pub given_statics_valid : (g : GivenStatics) → valid_given g ≡ true → valid_statics (statics_of g) ≡ true
unfolding valid_given
given_statics_valid g v = and_left _ (valid_flags g) v

-- ---- numbers and back

-- yes and no are in the range of their rows, and read back
pub flag_in_row : (b : Bool) → within 0 1 (flag_of b) ≡ true
flag_in_row true = refl
flag_in_row false = refl

flag_most : (b : Bool) → leb (flag_of b) 1 ≡ true
flag_most true = refl
flag_most false = refl

flag_back : (b : Bool) → eqb (flag_of b) 1 ≡ b
flag_back true = refl
flag_back false = refl

pub numbers_back : (st : Statics) → statics_of (given_of (map pos (numbers_of st))) ≡ st
unfolding statics_of given_of
numbers_back st = simp flag_back

-- statics that are valid are so as numbers
pub numbers_valid : (st : Statics) → valid_statics st ≡ true → valid_given (given_of (map pos (numbers_of st))) ≡ true
unfolding valid_given given_of
numbers_valid st v =
    let valid : valid_statics (statics_of (given_of (map pos (numbers_of st)))) ≡ true =
    ap valid_statics (numbers_back st) ∙ v in
    search (valid, flag_most, and_both) depth 40

-- ---- given numbers, row by row

-- a number as its row has it: of yes or no whether it is 1
abbrev pub as_row : Static → ℕ → ℕ
as_row row x = pick row.is_flag (flag_of (eqb x 1)) x

-- so many numbers from a place on
abbrev pub unsigned_from : (numbers : List ℤ) → (place : ℕ) → (count : ℕ) → List ℕ
unsigned_from numbers place zero = []
unsigned_from numbers place (suc count) = unsigned_at numbers place ∷ unsigned_from numbers (suc place) count

-- each yes or no is 1 or 0
abbrev pub flags_in : List Static → List ℕ → Bool
flags_in [] numbers = true
flags_in (row ∷ rows) [] = true
flags_in (row ∷ rows) (x ∷ numbers) = pick row.is_flag (leb x 1 && flags_in rows numbers) (flags_in rows numbers)

-- the numbers as their rows have them
abbrev as_rows : List Static → List ℕ → List ℕ
as_rows [] numbers = []
as_rows (row ∷ rows) [] = []
as_rows (row ∷ rows) (x ∷ numbers) = as_row row x ∷ as_rows rows numbers

flag_as_given : (x : ℕ) → leb x 1 ≡ true → flag_of (eqb x 1) ≡ x
flag_as_given x l = go (eqb x 1) refl
  where
    go : (b : Bool) → eqb x 1 ≡ b → flag_of b ≡ x
    go true e = sym (eqb-true x 1 e)
    go false e = let one : x ≤ 1 = leb-true x 1 l in let other = eqb-false x 1 e in omega arith

as_rows_as_given : (rows : List Static) (numbers : List ℕ) → flags_in rows numbers ≡ true
    → in_table rows (as_rows rows numbers) ≡ in_table rows numbers
as_rows_as_given [] numbers f = refl
as_rows_as_given (row ∷ rows) [] f = refl
as_rows_as_given (row ∷ rows) (x ∷ numbers) f = go row.is_flag refl (as_rows_as_given rows numbers)
  where
    go : (b : Bool) → row.is_flag ≡ b
        → (flags_in rows numbers ≡ true → in_table rows (as_rows rows numbers) ≡ in_table rows numbers)
        → (within row.least row.most (pick b (flag_of (eqb x 1)) x) && in_table rows (as_rows rows numbers))
        ≡ (within row.least row.most x && in_table rows numbers)
    go true e rest =
        let passes : (leb x 1 && flags_in rows numbers) ≡ true = rw e at f in
        rw (flag_as_given x (and_left (leb x 1) _ passes), rest (and_right (leb x 1) _ passes))
    go false e rest = rw (rest (rw e at f))

-- numbers that give valid statics are each in the range of their row
pub given_in_table : (numbers : List ℤ) → valid_given (given_of numbers) ≡ true
    → in_table statics_table (unsigned_from numbers 0 statics_count) ≡ true
unfolding valid_given given_of statics_of
given_in_table numbers v =
    let given : List ℕ = unsigned_from numbers 0 statics_count in
    let flags : flags_in statics_table given ≡ true = search (v, and_left, and_right, and_both) depth 20 in
    sym (as_rows_as_given statics_table given flags)
    ∙ ranges_hold (statics_of (given_of numbers)) (given_statics_valid (given_of numbers) v)
