-- Values for the tables that pin the definitions (the other files named Pinned), each spelled as a row of numbers, so
-- that a line changes one; a number left out counts as 0.
-- It may use the kinds of src/lib.rt, and of Ranges how a number is read.
use Rattle.std.specs.Prelude.{◌≡◌, refl, Bool, true, false, List, [], ◌∷◌, ◌++◌, map, ℕ, zero, suc, ◌+◌, ◌*◌, eqb, ℤ, pos, length, get_or, set, replicate}
use Rattle.paper.specs.declared.GivenStatics.{GivenStatics}
use Rattle.paper.specs.declared.Standing.{Standing}
use Rattle.paper.specs.declared.Standing.TheVariants.{Admitted, Live}
use Rattle.paper.specs.declared.Session.{Session}
use Rattle.paper.specs.declared.Session.TheVariants.{Main, Evening}
use Rattle.std.specs.declared.option.Option.{Option}
use Rattle.std.specs.declared.option.Option.TheVariants.{None, Some}
use Rattle.paper.specs.declared.Limits.{Limits}
use Rattle.paper.specs.declared.Term.{Term}
use Rattle.paper.specs.declared.Record.{Record}
use Rattle.paper.specs.declared.Admission.{Admission}
use Rattle.paper.specs.declared.Day.{Day}
use Rattle.paper.specs.declared.Quote.{Quote}
use Rattle.paper.specs.Lists.{pick, three, those}
use Rattle.paper.specs.Numbers.{rouble}
use Rattle.paper.specs.Ranges.{unsigned, unsigned_at, Static, statics_table, statics_count, flags_count}
use Rattle.paper.specs.Ranges.{given_of, given_numbers, statics_of}

-- ---- a row of numbers, and a change of one of them

infixl 30 ◌but◌
-- the row with another number at one place
abbrev pub ◌but◌ : List ℤ → ℕ × ℤ → List ℤ
xs but change = set xs change.0 change.1

-- the number at a place, and the number without a sign that it is read as
abbrev pub signed : (xs : List ℤ) → (place : ℕ) → ℤ
signed xs place = get_or xs place (pos 0)

abbrev pub plain : (xs : List ℤ) → (place : ℕ) → ℕ
plain xs place = unsigned_at xs place

-- ---- the places: the statics in the order of the table, then an admission's numbers, then a record's

abbrev pub lot_at : ℕ
lot_at = 0

abbrev pub h_at : ℕ
h_at = 1

abbrev pub q_at : ℕ
q_at = 2

abbrev pub aup_at : ℕ
aup_at = 3

abbrev pub adown_at : ℕ
adown_at = 4

abbrev pub wait_at : ℕ
wait_at = 5

abbrev pub liq_at : ℕ
liq_at = 9

-- three minima, then S_max
abbrev pub minima_at : ℕ
minima_at = 10

abbrev pub pchmax_at : ℕ
pchmax_at = 16

abbrev pub pclmax_at : ℕ
pclmax_at = 17

abbrev pub u_at : ℕ
u_at = 19

abbrev pub monitoring_at : ℕ
monitoring_at = 20

abbrev pub ewma_at : ℕ
ewma_at = 21

abbrev pub uevening_at : ℕ
uevening_at = 22

abbrev pub autochange_at : ℕ
autochange_at = 23

abbrev pub eveningmax_at : ℕ
eveningmax_at = 24

abbrev pub useexternal_at : ℕ
useexternal_at = 25

abbrev pub id_at : ℕ
id_at = statics_count

abbrev pub day_at : ℕ
day_at = statics_count + 1

abbrev pub p1_at : ℕ
p1_at = statics_count + 2

abbrev pub s_at : ℕ
s_at = statics_count + 4

abbrev pub tentative_at : ℕ
tentative_at = statics_count + 5

-- 0 admitted only, 1 live
abbrev pub live_at : ℕ
live_at = statics_count + 6

abbrev pub age_at : ℕ
age_at = statics_count + 7

-- three rates, then the lower and the upper limit of three ranges
abbrev pub rates_at : ℕ
rates_at = statics_count + 8

abbrev pub ranges_at : ℕ
ranges_at = statics_count + 11

-- k, RRcL and RRcH of three terms, then the lower and the upper limit of their bands
abbrev pub terms_at : ℕ
terms_at = statics_count + 17

abbrev pub bands_at : ℕ
bands_at = statics_count + 26

abbrev pub upper_moves_at : ℕ
upper_moves_at = statics_count + 32

abbrev pub lower_moves_at : ℕ
lower_moves_at = statics_count + 33

-- top and bottom of three terms: 0 not near, one more than the second otherwise
abbrev pub near_at : ℕ
near_at = statics_count + 34

abbrev pub second_at : ℕ
second_at = statics_count + 40

-- 0 main, one more than the evening moves made otherwise
abbrev pub session_at : ℕ
session_at = statics_count + 41

-- the outside bid, then the ask
abbrev pub external_at : ℕ
external_at = statics_count + 42

-- ---- what the numbers spell

unfoldable pub admission_from : (xs : List ℤ) → Admission
unfolding given_of
admission_from xs =
    record {
      id = plain xs id_at;
      day = plain xs day_at;
      p1 = plain xs p1_at;
      p2 = plain xs (p1_at + 1);
      s = plain xs s_at;
      tentative = plain xs tentative_at;
      given = given_of xs;
    }

unfoldable pub standing_from : (live day : ℕ) → Standing
standing_from live day = pick (eqb live 1) (Live day) (Admitted day)

unfoldable pub near_from : ℕ → Option ℕ
near_from zero = None
near_from (suc second) = Some second

unfoldable pub session_from : ℕ → Session
session_from zero = Main
session_from (suc made) = Evening made

unfoldable pub limits_from : (xs : List ℤ) → (place : ℕ) → Limits
unfolding unsigned
limits_from xs place = record { lower = plain xs place; upper = plain xs (place + 1) }

unfoldable pub term_from : (xs : List ℤ) → (place : ℕ) → Term
unfolding unsigned
term_from xs place = record { k = plain xs place; low = signed xs (place + 1); high = signed xs (place + 2) }

unfoldable pub record_from : (xs : List ℤ) → Record
unfolding given_of statics_of standing_from near_from session_from limits_from term_from
record_from xs =
    record {
      id = plain xs id_at;
      statics = statics_of (given_of xs);
      standing = standing_from (plain xs live_at) (plain xs day_at);
      p1 = record { units = plain xs p1_at };
      p2 = record { units = plain xs (p1_at + 1) };
      s = plain xs s_at;
      tentative = record { bp = plain xs tentative_at; age = plain xs age_at };
      rates = three (λ i. record { bp = plain xs (rates_at + i) });
      ranges = three (λ i. limits_from xs (ranges_at + 2 * i));
      terms = three (λ k. term_from xs (terms_at + 3 * k));
      bands = three (λ k. limits_from xs (bands_at + 2 * k));
      moves = record { upper = plain xs upper_moves_at; lower = plain xs lower_moves_at };
      near =
          three
          (λ k. record {
            top = near_from (plain xs (near_at + 2 * k));
            bottom = near_from (plain xs (near_at + 2 * k + 1));
          });
      second = plain xs second_at;
      session = session_from (plain xs session_at);
      external = record { bid = plain xs external_at; ask = plain xs (external_at + 1) };
    }

-- a day number, b, m, and three terms
unfoldable pub day_from : (xs : List ℤ) → Day
unfolding term_from
day_from xs =
    record { day = plain xs 0; b = plain xs 1; m = plain xs 2; terms = three (λ k. term_from xs (3 + 3 * k)) }

unfoldable pub quote_from : (xs : List ℤ) → Quote
unfolding unsigned
quote_from xs = record { second = plain xs 0; term = plain xs 1; bid = plain xs 2; ask = plain xs 3 }

-- yes 1, no 0
unfoldable pub yes_no : Bool → ℕ
yes_no true = 1
yes_no false = 0

-- of a day's row the places of the central rate, the bid, the ask and the volume
abbrev pub central_at : ℕ
central_at = 1

abbrev pub row_bid_at : ℕ
row_bid_at = 4

abbrev pub row_ask_at : ℕ
row_ask_at = 5

abbrev pub volume_at : ℕ
volume_at = 6

-- a row in roubles today that closes at a price, with no bid and no ask
unfoldable pub closed_at : (close : ℕ) → List ℤ
closed_at close = pos 0 ∷ pos rouble ∷ pos 0 ∷ pos close ∷ pos 0 ∷ pos 0 ∷ pos 5 ∷ []

-- ---- "Statics Z", "Earlier prices 1,000,000 unless given; s 20,000", tentative 600, id 7, last day 3

-- "Statics Z", but for the lot; of W-210's three, which Z does not have, u_evening is twice u, and the evening has two
-- moves
unfoldable pub given_with : (lot : ℕ) → GivenStatics
given_with lot =
    record {
      lot = lot;
      h = 100;
      q = 300;
      aup = 1000;
      adown = 500;
      wait = 5;
      rh1 = 2;
      rh2 = 5;
      rh3 = 8;
      liq = 50;
      min1 = 500;
      min2 = 700;
      min3 = 900;
      smax = 4000;
      xpr = 200;
      shift = 25;
      pchmax = 2000;
      pclmax = 2000;
      w = 1000;
      u = 60;
      monitoring = 1;
      ewma = 1;
      uevening = 120;
      autochange = 1;
      eveningmax = 2;
      useexternal = 0;
    }

-- "Earlier prices 1,000,000 unless given; s 20,000"; tentative 600
unfoldable pub admission_z : Admission
admission_z = record { id = 7; day = 3; p1 = 1000000; p2 = 1000000; s = 20000; tentative = 600; given = given_with 10 }

unfoldable pub z_statics : List ℤ
z_statics =
    -- lot, h, q, a_up, a_down, n
    pos 10 ∷ pos 100 ∷ pos 300 ∷ pos 1000 ∷ pos 500 ∷ pos 5
    -- rh, liq
    ∷ pos 2 ∷ pos 5 ∷ pos 8 ∷ pos 50
    -- minima, S_max
    ∷ pos 500 ∷ pos 700 ∷ pos 900 ∷ pos 4000
    -- x_pr, shift, PcH_max, PcL_max, w, u
    ∷ pos 200 ∷ pos 25 ∷ pos 2000 ∷ pos 2000 ∷ pos 1000 ∷ pos 60
    -- Monitoring, isEWMA
    ∷ pos 1 ∷ pos 1
    -- u_evening, Autochange, the evening maximum (W-210), UseEXTERNAL (W-211)
    ∷ pos 120 ∷ pos 1 ∷ pos 2 ∷ pos 0
    ∷ []

unfoldable pub z_numbers : List ℤ
unfolding z_statics
z_numbers =
    z_statics
    -- id, day, p1, p2, s, tentative
    ++ (pos 7 ∷ pos 3 ∷ pos 1000000 ∷ pos 1000000 ∷ pos 20000 ∷ pos 600 ∷ [])

-- the record of Z once it is admitted, but for its rates, which are 0 here
unfoldable pub z_record : List ℤ
unfolding z_numbers
z_record = z_numbers ++ replicate 38 (pos 0)

-- the numbers spell the admission of the starred cases
pub z_is-Z : admission_from z_numbers ≡ admission_z
unfolding z_numbers admission_from admission_z given_with
z_is-Z = refl

-- numbers that count up from 1, so that each is its own place
abbrev counted : List ℕ
counted =
    1 ∷ 2 ∷ 3 ∷ 4 ∷ 5 ∷ 6 ∷ 7 ∷ 8 ∷ 9 ∷ 10 ∷ 11 ∷ 12 ∷ 13 ∷ 14 ∷ 15 ∷ 16 ∷ 17 ∷ 18 ∷ 19 ∷ 20 ∷ 21 ∷ 22 ∷ 23 ∷ 24 ∷ 25 ∷ 26
    ∷ []

-- which static stands where
pub given_are : given_of (map pos counted)
    ≡ record {
      lot = 1;
      h = 2;
      q = 3;
      aup = 4;
      adown = 5;
      wait = 6;
      rh1 = 7;
      rh2 = 8;
      rh3 = 9;
      liq = 10;
      min1 = 11;
      min2 = 12;
      min3 = 13;
      smax = 14;
      xpr = 15;
      shift = 16;
      pchmax = 17;
      pclmax = 18;
      w = 19;
      u = 20;
      monitoring = 21;
      ewma = 22;
      uevening = 23;
      autochange = 24;
      eveningmax = 25;
      useexternal = 26;
    }
unfolding given_of
given_are = refl

-- and each is given back at its place
pub given_numbers_are : given_numbers (given_of (map pos counted)) ≡ counted
unfolding given_of
given_numbers_are = refl

-- the table has a row for each
pub counts_are : (length statics_table ≡ statics_count)
    × (length (those (λ (row : Static). row.is_flag) statics_table) ≡ flags_count)
unfolding those
counts_are = (refl, refl)
