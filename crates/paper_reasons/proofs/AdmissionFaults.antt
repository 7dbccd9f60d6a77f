-- The number at fault in an admission: it is named exactly where it is the first, and some number is named exactly where
-- 4 is the answer on a table of 1 to 512 slots.
use mathlib.Core.Path.{◌≡◌, refl, sym, ap, ◌∙◌}
use mathlib.Core.Logic.{◌⊎◌, inr, ⊎_elim}
use mathlib.Core.Bool.{Bool, true, false, not, ◌&&◌, ◌||◌, and-false}
use mathlib.Core.List.{List, [], ◌∷◌, ◌++◌}
use Prim.Native.Nat.{ℕ, suc, ◌%◌}
use native.Mathlib.Omega.{arith}
use lib.Dec.{leb, ltb, eqb}
use lib.ListN.{length}
use borrow.Author.Tests.{leb-true, ltb-false, le-leb, le-ltb, not-false}
use Rattle.paper.specs.declared.Admission.{Admission}
use Rattle.paper.specs.declared.GivenStatics.{GivenStatics}
use Rattle.paper.specs.declared.Record.{Record}
use Rattle.paper.specs.declared.Verdict.{Verdict}
use Rattle.paper.specs.declared.Verdict.TheVariants as verdict
use Rattle.paper.specs.Lists.{pick}
use Rattle.paper.specs.Numbers.{price_least, price_most, volatility_most, id_most, day_most}
use Rattle.paper.specs.Ranges.{within, is_price, grid_of, is_grid_price, Static, statics_table, statics_of, flag_of, numbers_of}
use Rattle.paper.specs.Ranges.{in_table, is_in_order, multiples_of_step, valid_statics, valid_flags, valid_given, tentative_top}
use Rattle.paper.specs.Ranges.{valid_tentative, valid_admission, valid_slots, given_numbers, admission_numbers}
use Rattle.paper.specs.Verdicts.{Naming, first_named, first_of, FirstAt, here, later, NoneApplies, none, also, Exactly}
use Rattle.paper.proofs.Logic.{not_true_and_false, and_left, and_right, and_both}
use Rattle.paper.proofs.StaticsFacts.{flag_in_row, statics_facts}
use Rattle.paper_desk.specs.Desk.{stands, admit, admit_checks, checks_of, step}
use Rattle.paper_desk.proofs.Refusals.{verdict_first, named_is_first_or_otherwise, first_is_named, none_named}
use Rattle.paper_desk.proofs.TentativeRange.{tentative_top_high}
use Rattle.std.specs.declared.option.Option.{Option}
use Rattle.std.specs.declared.option.Option.TheVariants.{None, Some}
use Rattle.paper_reasons.specs.AdmissionFaults.{tentative_farthest, admission_table, out_of_table, is_off, unfit}
use Rattle.paper_reasons.specs.AdmissionFaults.{first_place, fields_at_fault, field_at_fault}

-- EACH NUMBER IS NAMED EXACTLY WHERE IT IS THE FIRST AT FAULT, and none where none is
pub field_is : (a : Admission) (x : Option ℕ)
    → Exactly (field_at_fault a ≡ x)
    (FirstAt x (fields_at_fault a) ⊎ ((None ≡ x) × NoneApplies (fields_at_fault a)))
unfolding field_at_fault
field_is a x = (
  named_is_first_or_otherwise None (fields_at_fault a) x,
  ⊎_elim (first_is_named None (fields_at_fault a) x)
      (λ o. none_named None (fields_at_fault a) o.1 ∙ o.0),
)

-- ---- a number is out of the table where the table says so

-- no field is at fault in the table, nor in what stands behind it
all_in_table : (place : ℕ) (rows : List Static) (numbers : List ℕ) (behind : List (Naming (Option ℕ)))
    → NoneApplies (out_of_table place rows numbers ++ behind) → (in_table rows numbers ≡ true) × NoneApplies behind
all_in_table place [] numbers behind n = (refl, n)
all_in_table place (row ∷ rows) [] behind (also q rest) = absurd (not_true_and_false true refl q)
all_in_table place (row ∷ rows) (x ∷ numbers) behind (also q rest) =
    let more = all_in_table (suc place) rows numbers behind rest in
    (and_both (within row.least row.most x) (in_table rows numbers) (not-false _ q) more.0, more.1)

none_in_table : (place : ℕ) (rows : List Static) (numbers : List ℕ) (behind : List (Naming (Option ℕ)))
    → in_table rows numbers ≡ true → NoneApplies behind → NoneApplies (out_of_table place rows numbers ++ behind)
none_in_table place [] numbers behind t n = n
none_in_table place (row ∷ rows) [] behind t n = absurd (not_true_and_false false t refl)
none_in_table place (row ∷ rows) (x ∷ numbers) behind t n =
    also (ap not (and_left (within row.least row.most x) (in_table rows numbers) t))
    (none_in_table (suc place) rows numbers behind (and_right (within row.least row.most x) _ t) n)

-- what is named first is a number
module _ (behind : List (Naming (Option ℕ))) (numbered : FirstAt None behind → ⊥) where
  never_none : (place : ℕ) (rows : List Static) (numbers : List ℕ)
      → FirstAt None (out_of_table place rows numbers ++ behind) → ⊥
  never_none place [] numbers f = numbered f
  never_none place (row ∷ rows) [] (here w q) = let z : ◌≡◌ {A = ℕ} 0 1 = cc in omega arith
  never_none place (row ∷ rows) [] (later q f) = numbered f
  never_none place (row ∷ rows) (x ∷ numbers) (here w q) = let z : ◌≡◌ {A = ℕ} 0 1 = cc in omega arith
  never_none place (row ∷ rows) (x ∷ numbers) (later q f) = never_none (suc place) rows numbers f

-- where none of the table is named, all of it is in range
pub unnamed_in_table : (place : ℕ) (rows : List Static) (numbers : List ℕ)
    → first_named None (out_of_table place rows numbers) ≡ None → in_table rows numbers ≡ true
unnamed_in_table place [] numbers e = refl
unnamed_in_table place (row ∷ rows) [] e = absurd (let z : ◌≡◌ {A = ℕ} 0 1 = cc in omega arith)
unnamed_in_table place (row ∷ rows) (x ∷ numbers) e =
    go (within row.least row.most x) e (unnamed_in_table (suc place) rows numbers)
  where
    go : (own : Bool)
        → pick (not own) (Some place) (first_named None (out_of_table (suc place) rows numbers)) ≡ None
        → (first_named None (out_of_table (suc place) rows numbers) ≡ None → in_table rows numbers ≡ true)
        → (own && in_table rows numbers) ≡ true
    go true e rest = rest e
    go false e rest = absurd (let z : ◌≡◌ {A = ℕ} 0 1 = cc in omega arith)

-- what the table names comes before what stands behind it
pub table_before : (behind : List (Naming (Option ℕ))) (place : ℕ) (rows : List Static) (numbers : List ℕ)
    (k : ℕ) → first_named None (out_of_table place rows numbers) ≡ Some k
    → first_named None (out_of_table place rows numbers ++ behind) ≡ Some k
table_before behind place [] numbers k e = absurd (let z : ◌≡◌ {A = ℕ} 0 1 = cc in omega arith)
table_before behind place (row ∷ rows) [] k e = e
table_before behind place (row ∷ rows) (x ∷ numbers) k e =
    go (not (within row.least row.most x)) e (table_before behind (suc place) rows numbers k)
  where
    go : (out : Bool)
        → pick out (Some place) (first_named None (out_of_table (suc place) rows numbers)) ≡ Some k
        → (first_named None (out_of_table (suc place) rows numbers) ≡ Some k
        → first_named None (out_of_table (suc place) rows numbers ++ behind) ≡ Some k)
        → pick out (Some place) (first_named None (out_of_table (suc place) rows numbers ++ behind))
        ≡ Some k
    go true e rest = e
    go false e rest = rest e

pub table_passed : (behind : List (Naming (Option ℕ))) (place : ℕ) (rows : List Static) (numbers : List ℕ)
    → first_named None (out_of_table place rows numbers) ≡ None
    → first_named None (out_of_table place rows numbers ++ behind) ≡ first_named None behind
table_passed behind place [] numbers e = refl
table_passed behind place (row ∷ rows) [] e = absurd (let z : ◌≡◌ {A = ℕ} 0 1 = cc in omega arith)
table_passed behind place (row ∷ rows) (x ∷ numbers) e =
    go (not (within row.least row.most x)) e (table_passed behind (suc place) rows numbers)
  where
    go : (out : Bool)
        → pick out (Some place) (first_named None (out_of_table (suc place) rows numbers)) ≡ None
        → (first_named None (out_of_table (suc place) rows numbers) ≡ None
        → first_named None (out_of_table (suc place) rows numbers ++ behind) ≡ first_named None behind)
        → pick out (Some place) (first_named None (out_of_table (suc place) rows numbers ++ behind))
        ≡ first_named None behind
    go true e rest = absurd (let z : ◌≡◌ {A = ℕ} 0 1 = cc in omega arith)
    go false e rest = rest e

-- ---- the statics that are given and those that are made of them

-- a yes or no is made of a number; every other static is its number
abbrev made : List Static → (given : List ℕ) → List ℕ
made [] given = []
made (row ∷ rows) [] = []
made (row ∷ rows) (x ∷ given) = pick row.is_flag (flag_of (eqb x 1)) x ∷ made rows given

-- each yes or no is in the range of its row
abbrev flags_in : List Static → List ℕ → Bool
flags_in [] numbers = true
flags_in (row ∷ rows) [] = true
flags_in (row ∷ rows) (x ∷ numbers) =
    pick row.is_flag (within row.least row.most x && flags_in rows numbers) (flags_in rows numbers)

given_made : (rows : List Static) (given : List ℕ) → flags_in rows (made rows given) ≡ true → in_table rows given ≡ true
    → in_table rows (made rows given) ≡ true
given_made [] given f h = refl
given_made (row ∷ rows) [] f h = h
given_made (row ∷ rows) (x ∷ given) f h = go row.is_flag f (λ g. given_made rows given g (and_right own _ h))
  where
    own : Bool
    own = within row.least row.most x

    go : (b : Bool)
        → pick b (within row.least row.most (pick b (flag_of (eqb x 1)) x) && flags_in rows (made rows given))
        (flags_in rows (made rows given)) ≡ true
        → (flags_in rows (made rows given) ≡ true → in_table rows (made rows given) ≡ true)
        → (within row.least row.most (pick b (flag_of (eqb x 1)) x) && in_table rows (made rows given)) ≡ true
    go true g rest =
        let flag : Bool = within row.least row.most (flag_of (eqb x 1)) in
        and_both flag _ (and_left flag _ g) (rest (and_right flag _ g))
    go false g rest = and_both own _ (and_left own _ h) (rest g)

made_given : (rows : List Static) (given : List ℕ) → flags_in rows given ≡ true → in_table rows (made rows given) ≡ true
    → in_table rows given ≡ true
made_given [] given f h = refl
made_given (row ∷ rows) [] f h = h
made_given (row ∷ rows) (x ∷ given) f h = go row.is_flag f h (λ g k. made_given rows given g k)
  where
    own : Bool
    own = within row.least row.most x

    go : (b : Bool) → pick b (own && flags_in rows given) (flags_in rows given) ≡ true
        → (within row.least row.most (pick b (flag_of (eqb x 1)) x) && in_table rows (made rows given)) ≡ true
        → (flags_in rows given ≡ true → in_table rows (made rows given) ≡ true → in_table rows given ≡ true)
        → (own && in_table rows given) ≡ true
    go true g k rest =
        and_both own _ (and_left own _ g)
        (rest (and_right own _ g) (and_right (within row.least row.most (flag_of (eqb x 1))) _ k))
    go false g k rest = and_both own _ (and_left own _ k) (rest g (and_right own _ k))

table_flags : (rows : List Static) (numbers : List ℕ) → in_table rows numbers ≡ true → flags_in rows numbers ≡ true
table_flags [] numbers h = refl
table_flags (row ∷ rows) [] h = refl
table_flags (row ∷ rows) (x ∷ numbers) h = go row.is_flag (table_flags rows numbers (and_right own _ h))
  where
    own : Bool
    own = within row.least row.most x

    go : (b : Bool) → flags_in rows numbers ≡ true
        → pick b (own && flags_in rows numbers) (flags_in rows numbers) ≡ true
    go true rest = and_both own _ (and_left own _ h) rest
    go false rest = rest

zero_least : (x : ℕ) → leb 0 x ≡ true
zero_least x = le-leb 0 x (omega arith)

module _ (g : GivenStatics) where
  flags_made : flags_in statics_table (made statics_table (given_numbers g)) ≡ true
  flags_made = search (flag_in_row, and_both) depth 40

  given_in_table : in_table statics_table (given_numbers g) ≡ true
      → (in_table statics_table (numbers_of (statics_of g)) ≡ true) × (valid_flags g ≡ true)
  unfolding statics_of
  given_in_table h =
      let f : flags_in statics_table (given_numbers g) ≡ true = table_flags statics_table (given_numbers g) h in
      (given_made statics_table (given_numbers g) flags_made h, search (f, and_left, and_right, and_both) depth 20)

  table_as_given : in_table statics_table (numbers_of (statics_of g)) ≡ true → valid_flags g ≡ true
      → in_table statics_table (given_numbers g) ≡ true
  unfolding statics_of
  table_as_given h f =
      made_given statics_table (given_numbers g) (search (f, zero_least, and_left, and_right, and_both) depth 20) h

-- ---- numbers that do not go together

or_left_false : (a b : Bool) → (a || b) ≡ false → a ≡ false
or_left_false false b e = refl
or_left_false true b e = e

or_right_false : (a b : Bool) → (a || b) ≡ false → b ≡ false
or_right_false false b e = e
or_right_false true b e = absurd (not_true_and_false true refl e)

or_both_false : (a b : Bool) → a ≡ false → b ≡ false → (a || b) ≡ false
or_both_false a b e f = rw (e, f)

-- every number goes with the others
record Fits (a : Admission) (g : GivenStatics) : Type 0 where
  p1 : eqb (a.p1 % grid_of g.lot) 0 ≡ true
  p2 : eqb (a.p2 % grid_of g.lot) 0 ≡ true
  tentative : valid_tentative g.h a.tentative ≡ true
  order : is_in_order (statics_of g) ≡ true
  multiples : multiples_of_step (statics_of g) ≡ true

-- y is not below x
at_least : (x y : ℕ) → ltb y x ≡ false → leb x y ≡ true
at_least x y e = le-leb x y (ltb-false y x e)

not_below : (x y : ℕ) → leb x y ≡ true → ltb y x ≡ false
not_below x y e = le-ltb y x (leb-true x y e)

-- a multiple of the step, and not below the one before it
module _ (step before x : ℕ) where
  on_step : (is_off step x || ltb x before) ≡ false → eqb (x % step) 0 ≡ true
  on_step e = not-false (eqb (x % step) 0) (or_left_false (is_off step x) (ltb x before) e)

  in_order : (is_off step x || ltb x before) ≡ false → leb before x ≡ true
  in_order e = at_least before x (or_right_false (is_off step x) (ltb x before) e)

  both_then : eqb (x % step) 0 ≡ true → leb before x ≡ true → (is_off step x || ltb x before) ≡ false
  both_then e f = or_both_false (is_off step x) (ltb x before) (ap not e) (not_below before x f)

fits : (a : Admission) (g : GivenStatics) → NoneApplies (unfit a g) → Fits a g
unfolding statics_of
fits a g (also p (also q (also t (also r2 (also r3 (also m1 (also m2 (also m3 (also m none))))))))) =
    let rh12 : leb g.rh1 g.rh2 ≡ true = at_least g.rh1 g.rh2 r2 in
    let rh23 : leb g.rh2 g.rh3 ≡ true = at_least g.rh2 g.rh3 r3 in
    let min12 : leb g.min1 g.min2 ≡ true = in_order g.h g.min1 g.min2 m2 in
    let min23 : leb g.min2 g.min3 ≡ true = in_order g.h g.min2 g.min3 m3 in
    let min3m : leb g.min3 g.smax ≡ true = in_order g.h g.min3 g.smax m in
    let on1 : eqb (g.min1 % g.h) 0 ≡ true = not-false _ m1 in
    let on2 : eqb (g.min2 % g.h) 0 ≡ true = on_step g.h g.min1 g.min2 m2 in
    let on3 : eqb (g.min3 % g.h) 0 ≡ true = on_step g.h g.min2 g.min3 m3 in
    let onm : eqb (g.smax % g.h) 0 ≡ true = on_step g.h g.min3 g.smax m in
    record {
      p1 = not-false _ p;
      p2 = not-false _ q;
      tentative = not-false _ t;
      order = search (rh12, rh23, min12, min23, min3m, and_both) depth 10;
      multiples = search (on1, on2, on3, onm, and_both) depth 10;
    }

none_unfit : (a : Admission) (g : GivenStatics) → Fits a g → NoneApplies (unfit a g)
unfolding statics_of
none_unfit a g f =
    let o = f.order in
    let m = f.multiples in
    let rh12 : leb g.rh1 g.rh2 ≡ true = search (o, and_left, and_right) depth 10 in
    let rh23 : leb g.rh2 g.rh3 ≡ true = search (o, and_left, and_right) depth 10 in
    let min12 : leb g.min1 g.min2 ≡ true = search (o, and_left, and_right) depth 10 in
    let min23 : leb g.min2 g.min3 ≡ true = search (o, and_left, and_right) depth 10 in
    let min3m : leb g.min3 g.smax ≡ true = search (o, and_left, and_right) depth 10 in
    let on1 : eqb (g.min1 % g.h) 0 ≡ true = search (m, and_left, and_right) depth 10 in
    let on2 : eqb (g.min2 % g.h) 0 ≡ true = search (m, and_left, and_right) depth 10 in
    let on3 : eqb (g.min3 % g.h) 0 ≡ true = search (m, and_left, and_right) depth 10 in
    let onm : eqb (g.smax % g.h) 0 ≡ true = search (m, and_left, and_right) depth 10 in
    also (ap not f.p1) (also (ap not f.p2) (also (ap not f.tentative)
    (also (not_below g.rh1 g.rh2 rh12) (also (not_below g.rh2 g.rh3 rh23) (also (ap not on1)
    (also (both_then g.h g.min1 g.min2 on2 min12) (also (both_then g.h g.min2 g.min3 on3 min23)
    (also (both_then g.h g.min3 g.smax onm min3m) none))))))))

-- ---- the whole admission

-- of an admission in range
module _ (a : Admission) (v : valid_admission a ≡ true) where
  statics_valid : valid_statics (statics_of a.given) ≡ true
  unfolding valid_admission valid_given
  statics_valid = search (v, and_left, and_right) depth 20

  flags_valid : valid_flags a.given ≡ true
  unfolding valid_admission valid_given
  flags_valid = search (v, and_left, and_right) depth 20

  tentative_valid : valid_tentative a.given.h a.tentative ≡ true
  unfolding valid_admission statics_of
  tentative_valid = search (v, and_left, and_right) depth 20

  tentative_far : leb a.tentative tentative_farthest ≡ true
  unfolding valid_tentative statics_of
  tentative_far =
      let h = (statics_facts (statics_of a.given) statics_valid).h in
      let top = and_left (leb a.tentative (tentative_top a.given.h)) _ tentative_valid in
      le-leb a.tentative tentative_farthest
      (omega (
        arith,
        leb-true a.tentative (tentative_top a.given.h) top,
        tentative_top_high a.given.h
            h.least,
        h.most,
      ))

  numbers_in_table : in_table admission_table (admission_numbers a) ≡ true
  unfolding valid_admission valid_statics is_grid_price is_price
  numbers_in_table =
      let statics = table_as_given a.given (and_left _ _ (and_left _ _ statics_valid)) flags_valid in
      search (v, tentative_far, statics, zero_least, and_left, and_right, and_both) depth 20

  numbers_fit : Fits a a.given
  unfolding valid_admission valid_statics is_grid_price statics_of
  numbers_fit =
      let valid = statics_valid in
      record {
        p1 = search (v, and_left, and_right) depth 20;
        p2 = search (v, and_left, and_right) depth 20;
        tentative = tentative_valid;
        order = search (valid, and_left, and_right) depth 20;
        multiples = search (valid, and_left, and_right) depth 20;
      }

  valid_then_none : NoneApplies (fields_at_fault a)
  unfolding fields_at_fault
  valid_then_none =
      none_in_table first_place admission_table (admission_numbers a) (unfit a a.given) numbers_in_table
      (none_unfit a a.given numbers_fit)

module _ (a : Admission) where
  abbrev g : GivenStatics
  g = a.given

  none_then_valid : NoneApplies (fields_at_fault a) → valid_admission a ≡ true
  unfolding fields_at_fault valid_admission valid_given valid_statics is_grid_price is_price statics_of
  none_then_valid n =
      let both = all_in_table first_place admission_table (admission_numbers a) (unfit a g) n in
      let t : in_table admission_table (admission_numbers a) ≡ true = both.0 in
      let id : within 1 id_most a.id ≡ true = search (t, and_left, and_right) depth 20 in
      let day : leb a.day day_most ≡ true = search (t, and_left, and_right) depth 20 in
      let p1 : within price_least price_most a.p1 ≡ true = search (t, and_left, and_right) depth 20 in
      let p2 : within price_least price_most a.p2 ≡ true = search (t, and_left, and_right) depth 20 in
      let s : leb a.s volatility_most ≡ true = search (t, and_left, and_right) depth 20 in
      let given : in_table statics_table (given_numbers g) ≡ true = search (t, and_left, and_right) depth 20 in
      let st = given_in_table g given in
      let in_range_lem = st.0 in
      let flags = st.1 in
      let f = fits a g both.1 in
      let on1 = f.p1 in
      let on2 = f.p2 in
      let tentative = f.tentative in
      let order = f.order in
      let multiples = f.multiples in
      search (id, day, p1, p2, s, in_range_lem, flags, on1, on2, tentative, order, multiples, and_both) depth 20

  -- NO NUMBER IS NAMED EXACTLY WHERE THE ADMISSION IS IN RANGE
  pub unnamed_exactly_valid : Exactly (field_at_fault a ≡ None) (valid_admission a ≡ true)
  unfolding fields_at_fault
  unnamed_exactly_valid = (
    λ e. ⊎_elim (λ f. absurd (never_none (unfit a g) numbered first_place admission_table (admission_numbers a) f))
        (λ n. none_then_valid n.1) ((field_is a None).0 e),
    λ v. (field_is a None).1 (inr (refl, valid_then_none a v)),
  )
    where
      no : (place : ℕ) → ◌≡◌ {A = Option ℕ} (Some place) None → ⊥
      no place e = let z : ◌≡◌ {A = ℕ} 0 1 = cc in omega arith

      numbered : FirstAt None (unfit a g) → ⊥
      numbered (here w q) = no 3 w
      numbered (later p (here w q)) = no 4 w
      numbered (later p (later p2 (here w q))) = no 6 w
      numbered (later p (later p2 (later p3 (here w q)))) = no 14 w
      numbered (later p (later p2 (later p3 (later p4 (here w q))))) = no 15 w
      numbered (later p (later p2 (later p3 (later p4 (later p5 (here w q)))))) = no 17 w
      numbered (later p (later p2 (later p3 (later p4 (later p5 (later p6 (here w q))))))) = no 18 w
      numbered (later p (later p2 (later p3 (later p4 (later p5 (later p6 (later p7 (here w q)))))))) = no 19 w
      numbered (later p (later p2 (later p3 (later p4 (later p5 (later p6 (later p7 (later p8 (here w q))))))))) =
          no 20 w
      numbered (later p (later p2 (later p3 (later p4 (later p5 (later p6 (later p7 (later p8 (later _ x30))))))))) = elim x30 [ ]

-- ---- 4

module _ (t : List Record) (a : Admission) where
  abbrev answered : Verdict
  answered = (step (admit a) t).answer.verdict

  -- A NUMBER IS NAMED ONLY WHERE 4 IS THE ANSWER, on every table
  pub named_then_refused : (field_at_fault a ≡ None → ⊥) → answered ≡ verdict.AdmissionOutOfRange
  unfolding checks_of admit_checks first_of
  named_then_refused n = verdict_first (admit a) t ∙ go (valid_admission a) refl
    where
      go : (b : Bool) → valid_admission a ≡ b → first_of (admit_checks t a) ≡ verdict.AdmissionOutOfRange
      go true v = absurd (n ((unnamed_exactly_valid a).1 v))
      go false v = rw (v, and-false (valid_slots (length t)))

  -- SOME NUMBER IS NAMED EXACTLY WHERE 4 IS THE ANSWER on a table of 1 to 512 slots
  pub named_exactly_refused : valid_slots (length t) ≡ true
      → Exactly (answered ≡ verdict.AdmissionOutOfRange) (field_at_fault a ≡ None → ⊥)
  unfolding checks_of admit_checks first_of
  named_exactly_refused good = (
    λ e n. behind (stands t a.id) (not (stands t 0))
        (rw (good, (unnamed_exactly_valid a).0 n) at (sym (verdict_first (admit a) t) ∙ e)),
    named_then_refused,
  )
    where
      behind : (b c : Bool)
          → pick b verdict.AlreadyAdmitted (pick c verdict.NoEmptySlot verdict.Done) ≡ verdict.AdmissionOutOfRange → ⊥
      behind true c e = let z : ◌≡◌ {A = ℕ} 0 1 = cc in omega arith
      behind false true e = let z : ◌≡◌ {A = ℕ} 0 1 = cc in omega arith
      behind false false e = let z : ◌≡◌ {A = ℕ} 0 1 = cc in omega arith
