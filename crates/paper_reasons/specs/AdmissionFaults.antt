-- Which number of an admission is at fault where it is refused 4: the first in the order of the line. A number out of its
-- own range comes before every one that does not go with another.
use Rattle.std.specs.Prelude.{Bool, true, not, ◌||◌, List, [], ◌∷◌, ◌++◌, ℕ, suc, ◌%◌, ltb, eqb}
use Rattle.paper.specs.declared.Admission.{Admission}
use Rattle.paper.specs.declared.GivenStatics.{GivenStatics}
use Rattle.paper.specs.Numbers.{price_least, price_most, volatility_most, id_most, day_most}
use Rattle.paper.specs.Ranges.{within, grid_of, Static, ranging, statics_table, valid_tentative, admission_numbers}
use Rattle.paper.specs.Verdicts.{Naming, first_named}
use Rattle.std.specs.declared.option.Option.{Option}
use Rattle.std.specs.declared.option.Option.TheVariants.{None, Some}

-- ---- the ranges of an admission's numbers, in the order of its line (`admission_numbers` of `paper`)

-- the top of no step passes this: it is "the least multiple of h at or above 100,000 bp", with h up to 1,000
abbrev pub tentative_farthest : ℕ
tentative_farthest = 100999

-- the range of each: the statics have the rows of their table
abbrev pub admission_table : List Static
admission_table =
    ranging 1 id_most
    ∷ ranging 0 day_most
    ∷ ranging price_least price_most
    ∷ ranging price_least price_most
    ∷ ranging 0 volatility_most
    ∷ ranging 0 tentative_farthest
    ∷ statics_table

-- ---- what is at fault

-- the number at a place of the line, and whether it is at fault
abbrev pub number_at : (place : ℕ) → (at_fault : Bool) → Naming (Option ℕ)
number_at place at_fault = record { verdict = Some place; applies = at_fault }

-- the numbers from a place on, each at fault where it is out of the range of its row, or missing
abbrev pub out_of_table : (place : ℕ) → List Static → (numbers : List ℕ) → List (Naming (Option ℕ))
out_of_table place [] numbers = []
out_of_table place (row ∷ rows) [] = number_at place true ∷ []
out_of_table place (row ∷ rows) (x ∷ numbers) =
    number_at place (not (within row.least row.most x)) ∷ out_of_table (suc place) rows numbers

-- x is no multiple of a step or of a grid
abbrev pub is_off : (step x : ℕ) → Bool
is_off step x = not (eqb (x % step) 0)

-- P1 or P2 off the grid; TENTATIVE no multiple of h, or above its top; RH2 or RH3 below the one before it; MIN1 to MIN3
-- or SMAX no multiple of h, or below the one before it
abbrev pub unfit : Admission → GivenStatics → List (Naming (Option ℕ))
unfit a g =
    number_at 3 (is_off (grid_of g.lot) a.p1)
    ∷ number_at 4 (is_off (grid_of g.lot) a.p2)
    ∷ number_at 6 (not (valid_tentative g.h a.tentative))
    ∷ number_at 14 (ltb g.rh2 g.rh1)
    ∷ number_at 15 (ltb g.rh3 g.rh2)
    ∷ number_at 17 (is_off g.h g.min1)
    ∷ number_at 18 (is_off g.h g.min2 || ltb g.min2 g.min1)
    ∷ number_at 19 (is_off g.h g.min3 || ltb g.min3 g.min2)
    ∷ number_at 20 (is_off g.h g.smax || ltb g.smax g.min3)
    ∷ []

-- "The id is 1"
abbrev pub first_place : ℕ
first_place = 1

unfoldable pub fields_at_fault : Admission → List (Naming (Option ℕ))
fields_at_fault a = out_of_table first_place admission_table (admission_numbers a) ++ unfit a a.given

-- THE FIRST NUMBER AT FAULT, or none
unfoldable pub field_at_fault : Admission → Option ℕ
field_at_fault a = first_named None (fields_at_fault a)
