-- W-212: the range of each field of each kind, as docs/BROADCAST.md lists it, both sides of each end; and what is heard
-- of a message that is refused, or of an unknown kind.
use Rattle.std.specs.Prelude.{◌≡◌, refl, Bool, false, List, [], ◌∷◌, ◌++◌, map, ℕ, pos, negsuc, length, replicate}
use Rattle.paper.specs.declared.Verdict.TheVariants.{Done, CutShort}
use Rattle.paper.specs.PinnedRanges.{Ranged, range, values_of, straddles, at_the_ends_alone}
use Rattle.paper.specs.Verdicts.{is_done, first_of}
use Rattle.paper_messages.specs.declared.Field.{Field}
use Rattle.paper_messages.specs.Bytes.{spelled, width_most}
use Rattle.paper_messages.specs.Fields.{eight_bytes, statics_fields, rates_fields, bands_fields, move_fields}
use Rattle.paper_messages.specs.Fields.{reasons_fields, begin_fields, end_fields, session_fields, fields_of}
use Rattle.paper_messages.specs.Messages.{is_known_kind, in_ranges, read_checks, no_message, accepted_heard}
use Rattle.std.specs.Prelude.{Ok, Err, None}
use Rattle.paper_messages.specs.Messages.{heard_at, answer_at}

-- ---- ranges

abbrev ids : Ranged
ids = range 7 1 1000000000

abbrev days : Ranged
days = range 3 0 1000000

abbrev rates : Ranged
rates = range 5 0 10000

abbrev limits : Ranged
limits = range 6 0 2020000000000

abbrev flags : Ranged
flags = range 1 0 1

statics_ranges : List Ranged
statics_ranges =
    ids  -- ID
    ∷ range 10 1 100  -- LOT
    ∷ range 100 1 1000  -- H
    ∷ range 300 100 1000  -- Q
    ∷ replicate 2 (range 500 0 10000)  -- A_UP A_DOWN
    ++ range 5 1 250  -- WAIT
    ∷ range 2 1 5  -- RH1
    ∷ replicate 2 (range 8 1 30)  -- RH2 RH3
    ++ range 50 0 500  -- LIQ
    ∷ replicate 4 rates  -- MIN1 MIN2 MIN3 SMAX
    ++ range 200 50 1000  -- XPR
    ∷ range 25 1 100  -- SHIFT
    ∷ replicate 2 rates  -- PCHMAX PCLMAX
    ++ range 1000 0 5000  -- W
    ∷ range 60 1 3600  -- U
    ∷ replicate 2 flags  -- MONITORING ISEWMA
    ++ range 120 1 3600  -- UEVENING
    ∷ flags  -- AUTOCHANGE
    ∷ range 2 0 10  -- EVENINGMAX
    ∷ flags  -- USEEXTERNAL
    ∷ []

rates_ranges : List Ranged
rates_ranges =
    ids  -- ID
    ∷ days  -- DAY
    ∷ range 4 1 10000000000  -- P
    ∷ range 8 0 1000000  -- S
    ∷ range 9 0 100999  -- TENTATIVE
    ∷ range 10 0 250  -- AGE
    ∷ replicate 3 rates  -- S1 S2 S3
    ++ replicate 6 limits  -- UPPER1 UPPER2 UPPER3 LOWER1 LOWER2 LOWER3

-- K RRCL RRCH LOWER UPPER
term_ranges : List Ranged
term_ranges = range 2 0 30 ∷ replicate 2 (pos 0, negsuc 9998, pos 9999) ++ replicate 2 limits

bands_ranges : List Ranged
unfolding term_ranges
bands_ranges = ids ∷ days ∷ term_ranges ++ term_ranges ++ term_ranges

-- ID SIDE COUNT, and the limits of the side
move_ranges : List Ranged
move_ranges = ids ∷ range 1 0 1 ∷ range 3 0 50 ∷ replicate 6 limits

-- ID DAY, and the seven reasons
reasons_ranges : List Ranged
reasons_ranges = ids ∷ days ∷ range 3 0 4 ∷ range 2 0 3 ∷ range 1 0 2 ∷ range 2 0 4 ∷ replicate 3 (range 1 0 3)

begin_ranges : List Ranged
begin_ranges = range 1 1 1 ∷ []

-- COUNT and SUM: every number that eight bytes count, and that four bytes have
end_ranges : List Ranged
end_ranges = range 5 0 9223372036854775807 ∷ (pos 0, negsuc 2147483647, pos 2147483647) ∷ []

session_ranges : List Ranged
session_ranges = ids ∷ days ∷ []

-- the fields of a kind, each at its ends and one past them, whatever kind 1 says of its fields together
field_ends : List Field → List Ranged → List (List Bool)
unfolding straddles values_of in_ranges
field_ends fields ranges = straddles (in_ranges fields) (values_of ranges) 0 ranges

pub field_ends_lem : List (List (List Bool))
unfolding field_ends statics_ranges rates_ranges bands_ranges move_ranges reasons_ranges begin_ranges end_ranges session_ranges
field_ends_lem =
    field_ends statics_fields statics_ranges
    ∷ field_ends rates_fields rates_ranges
    ∷ field_ends bands_fields bands_ranges
    ∷ field_ends move_fields move_ranges
    ∷ field_ends reasons_fields reasons_ranges
    ∷ field_ends begin_fields begin_ranges
    ∷ field_ends end_fields end_ranges
    ∷ field_ends session_fields session_ranges
    ∷ []

pub field_ends_are : field_ends_lem ≡ map at_the_ends_alone (27 ∷ 15 ∷ 17 ∷ 9 ∷ 9 ∷ 1 ∷ 2 ∷ 2 ∷ [])
unfolding field_ends_lem at_the_ends_alone
field_ends_are = refl

-- the widest field is as wide as the widest number
pub widest_is : (eight_bytes (pos 0) (pos 0)).width ≡ width_most
widest_is = refl

-- ---- places

-- how many fields each kind has, and the kinds 0 and 9, which are unknown
pub counts_are : map (λ (kind : ℕ). length (fields_of kind)) (0 ∷ 1 ∷ 2 ∷ 3 ∷ 4 ∷ 5 ∷ 6 ∷ 7 ∷ 8 ∷ 9 ∷ [])
    ≡ 0 ∷ 27 ∷ 15 ∷ 17 ∷ 9 ∷ 9 ∷ 1 ∷ 2 ∷ 2 ∷ 0 ∷ []
unfolding fields_of
counts_are = refl

-- ---- nothing is heard

-- of no byte, and of two messages of the unknown kind 9, the second behind the first: no message, for which one stands
-- whose kind is 0 and whose 27 fields are 0
pub unheard_are : (heard_at [] 0 ≡ Err CutShort)
    × (heard_at (2 ∷ 0 ∷ 0 ∷ 0 ∷ 9 ∷ 0 ∷ 3 ∷ 0 ∷ 0 ∷ 0 ∷ 9 ∷ 0 ∷ 1 ∷ []) 6
    ≡ Ok (record { kind = 9; length = 3; next = 13; message = None }))
    × (no_message ≡ record { kind = 0; fields = replicate 27 (pos 0) })
unfolding heard_at accepted_heard read_checks first_of is_done is_known_kind spelled
unheard_are = (refl, refl, refl)

-- and in one record zeros stand for what a refusal has not
pub unheard_answers_are : (answer_at [] 0
    ≡ record {
      verdict = CutShort;
      known = false;
      kind = 0;
      length = 0;
      next = 0;
      message = record { kind = 0; fields = replicate 27 (pos 0) };
    })
    × (answer_at (2 ∷ 0 ∷ 0 ∷ 0 ∷ 9 ∷ 0 ∷ 3 ∷ 0 ∷ 0 ∷ 0 ∷ 9 ∷ 0 ∷ 1 ∷ []) 6
    ≡ record {
      verdict = Done;
      known = false;
      kind = 9;
      length = 3;
      next = 13;
      message = record { kind = 0; fields = replicate 27 (pos 0) };
    })
unfolding heard_at accepted_heard read_checks first_of is_done is_known_kind spelled
unheard_answers_are = (refl, refl)
