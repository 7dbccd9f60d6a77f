-- The number at fault in an admission of document 01's Z with a number or two changed: each place of the line, both
-- sides of each line that two numbers have, and which of two comes first.
-- It may use the definitions of document 01's ranges, and the values of PinnedValues.
use Rattle.std.specs.Prelude.{◌≡◌, refl, List, [], ◌∷◌, ℕ, zero, suc, ◌+◌, ℤ, pos}
use Rattle.std.proofs.Math.IntN.{pred_ℤ}
use Rattle.paper.specs.Roundings.{up}
use Rattle.paper.specs.Ranges.{unsigned, grid_of, Static, statics_table, statics_count, given_of, tentative_top}
use Rattle.paper.specs.Ranges.{valid_tentative}
use Rattle.paper.specs.PinnedValues.{◌but◌, lot_at, h_at, wait_at, minima_at, monitoring_at, useexternal_at, id_at, day_at, p1_at}
use Rattle.paper.specs.PinnedValues.{s_at, tentative_at, admission_from, z_numbers}
use Rattle.std.specs.declared.option.Option.{Option}
use Rattle.std.specs.declared.option.Option.TheVariants.{None, Some}
use Rattle.paper_reasons.specs.AdmissionFaults.{fields_at_fault, field_at_fault}

-- the place that is named, 0 where none is
place_of : Option ℕ → ℕ
place_of None = 0
place_of (Some place) = place

-- of an admission's numbers. It opens every definition that it computes with
named : List ℤ → ℕ
unfolding up unsigned grid_of given_of tentative_top valid_tentative admission_from fields_at_fault field_at_fault place_of
named numbers = place_of (field_at_fault (admission_from numbers))

-- ---- every place

-- Z itself; an id of 0 and of 10^9 + 1, a day, P1, P2, s and a tentative rate out of range
pub places : List ℕ
unfolding named z_numbers
places =
    named z_numbers
    ∷ named (z_numbers but (id_at, pos 0))
    ∷ named (z_numbers but (id_at, pos 1000000001))
    ∷ named (z_numbers but (day_at, pos 1000001))
    ∷ named (z_numbers but (p1_at, pos 0))
    ∷ named (z_numbers but (p1_at + 1, pos 10000000010))
    ∷ named (z_numbers but (s_at, pos 1000001))
    ∷ named (z_numbers but (tentative_at, pos 101000))
    ∷ []

pub places_are : places ≡ 0 ∷ 1 ∷ 1 ∷ 2 ∷ 3 ∷ 4 ∷ 5 ∷ 6 ∷ []
unfolding places
places_are = refl

-- the statics, whose ends PinnedRanges spells: from a place of the table on, each at one below the least of its row and
-- at one above the most
pub past_ends : (at : ℕ) → List Static → List (List ℕ)
unfolding named z_numbers
past_ends at [] = []
past_ends at (row ∷ rows) =
    (named (z_numbers but (at, pred_ℤ (pos row.least))) ∷ named (z_numbers but (at, pos (suc row.most))) ∷ [])
    ∷ past_ends (suc at) rows

-- so many places from one on, each for both ends
pub both_from : (place count : ℕ) → List (List ℕ)
both_from place zero = []
both_from place (suc count) = (place ∷ place ∷ []) ∷ both_from (suc place) count

-- EVERY STATIC AT ITS OWN PLACE, the lot at 7
pub statics_are : past_ends 0 statics_table ≡ both_from 7 statics_count
unfolding past_ends both_from
statics_are = refl

-- rh_1 stands before rh_2 and rh_3
abbrev days_at : ℕ
days_at = wait_at + 1

-- NUMBERS THAT DO NOT GO TOGETHER, and those beside them that do
pub together : List ℕ
unfolding named z_numbers
together =
    -- the grid is 10: 1,000,005 is off it, as P1 and as P2; with lot 11 it is 1
    named (z_numbers but (p1_at, pos 1000005))
    ∷ named (z_numbers but (p1_at + 1, pos 1000005))
    ∷ named (z_numbers but (p1_at, pos 1000005) but (lot_at, pos 11))
    -- the tentative rate: 650 is no multiple of 100; its top is 100,000
    ∷ named (z_numbers but (tentative_at, pos 650))
    ∷ named (z_numbers but (tentative_at, pos 100000))
    ∷ named (z_numbers but (tentative_at, pos 100100))
    -- rh_2 and rh_3 at the one before it, and below it
    ∷ named (z_numbers but (days_at + 1, pos 2))
    ∷ named (z_numbers but (days_at + 1, pos 1))
    ∷ named (z_numbers but (days_at + 2, pos 5))
    ∷ named (z_numbers but (days_at + 2, pos 4))
    -- the minima and S_max: no multiple, at the one before it, and below it
    ∷ named (z_numbers but (minima_at, pos 550))
    ∷ named (z_numbers but (minima_at + 1, pos 750))
    ∷ named (z_numbers but (minima_at + 1, pos 500))
    ∷ named (z_numbers but (minima_at + 1, pos 400))
    ∷ named (z_numbers but (minima_at + 2, pos 950))
    ∷ named (z_numbers but (minima_at + 2, pos 700))
    ∷ named (z_numbers but (minima_at + 2, pos 600))
    ∷ named (z_numbers but (minima_at + 3, pos 4050))
    ∷ named (z_numbers but (minima_at + 3, pos 900))
    ∷ named (z_numbers but (minima_at + 3, pos 800))
    ∷ []

pub together_are : together
    ≡ 3 ∷ 4 ∷ 0 ∷ 6 ∷ 0 ∷ 6 ∷ 0 ∷ 14 ∷ 0 ∷ 15 ∷ 17 ∷ 18 ∷ 0 ∷ 18 ∷ 19 ∷ 0 ∷ 19 ∷ 20 ∷ 0 ∷ 20 ∷ []
unfolding together
together_are = refl

-- THE FIRST OF TWO: in the order of the line; but a number out of its range before one that does not go with another,
-- and a step of 0 before what it should divide
pub firsts : List ℕ
unfolding named z_numbers
firsts =
    named (z_numbers but (monitoring_at, pos 2) but (useexternal_at, pos 2))
    ∷ named (z_numbers but (p1_at, pos 1000005) but (useexternal_at, pos 2))
    ∷ named (z_numbers but (p1_at + 1, pos 1000005) but (tentative_at, pos 650))
    ∷ named (z_numbers but (h_at, pos 0) but (tentative_at, pos 650))
    ∷ []

pub firsts_are : firsts ≡ 27 ∷ 32 ∷ 4 ∷ 8 ∷ []
unfolding firsts
firsts_are = refl
