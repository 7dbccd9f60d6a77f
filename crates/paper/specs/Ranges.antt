-- Document 01, "Units and ranges", with W-208's tentative rate and W-210's session: what is in range and on the grid,
-- and what a sound record is.
use Rattle.std.specs.Prelude.{Bool, true, false, ◌&&◌, ◌||◌, List, [], ◌∷◌, ℕ, zero, suc, ◌+◌, ◌*◌, ◌/◌, ◌%◌, ◌^◌, leb, eqb, ℤ, pos, negsuc, length, get_or}
use Rattle.std.specs.Int.Signed.{le_z}
use Rattle.std.specs.declared.option.Option.{Option}
use Rattle.std.specs.declared.option.Option.TheVariants.{None, Some}
use Rattle.paper.specs.declared.Limit.{Limit}
use Rattle.paper.specs.declared.Price.{Price}
use Rattle.paper.specs.declared.Rate.{Rate}
use Rattle.paper.specs.declared.Statics.{Statics}
use Rattle.paper.specs.declared.GivenStatics.{GivenStatics}
use Rattle.paper.specs.declared.Standing.{Standing}
use Rattle.paper.specs.declared.Standing.TheVariants.{Admitted, Live}
use Rattle.paper.specs.declared.Session.{Session}
use Rattle.paper.specs.declared.Session.TheVariants.{Main, Evening}
use Rattle.paper.specs.declared.External.{External}
use Rattle.paper.specs.declared.Side.{Side}
use Rattle.paper.specs.declared.Side.TheVariants.{Upper, Lower}
use Rattle.paper.specs.declared.NearSeconds.{NearSeconds}
use Rattle.paper.specs.declared.Limits.{Limits}
use Rattle.paper.specs.declared.Term.{Term}
use Rattle.paper.specs.declared.Record.{Record}
use Rattle.paper.specs.declared.Admission.{Admission}
use Rattle.paper.specs.declared.Day.{Day}
use Rattle.paper.specs.declared.Row.{Row}
use Rattle.paper.specs.declared.Quote.{Quote}
use Rattle.paper.specs.Lists.{pick, all_three, every}
use Rattle.paper.specs.Least.{least}
use Rattle.paper.specs.Numbers.{lot_to_ten, grid_of_one, grid_to_ten, price_least, price_most, rate_most, volatility_most}
use Rattle.paper.specs.Numbers.{tentative_most, lot_most, step_most, multiplier_least, multiplier_most, weight_most}
use Rattle.paper.specs.Numbers.{wait_most, first_days_most, days_most, liquidity_most, divisor_least, divisor_most}
use Rattle.paper.specs.Numbers.{shift_most, nearness_most, seconds_most, evening_moves_most, id_most, day_most, age_most}
use Rattle.paper.specs.Numbers.{limit_most, moves_most, second_last, slots_most, behind_most, ahead_most, term_days_most}
use Rattle.paper.specs.Numbers.{repo_least, repo_most, row_numbers, all_numbers_most, row_term_most, central_most}
use Rattle.paper.specs.Numbers.{volume_most, term_last, quote_most, past_every}
use Rattle.paper.specs.Roundings.{up}

-- "low..high"
abbrev pub within : (low high x : ℕ) → Bool
within low high x = leb low x && leb x high

abbrev pub within_z : (low high x : ℤ) → Bool
within_z low high x = le_z low x && le_z x high

-- a signed number where the paper's range begins at 0 or above: one below zero is out of every range, and so is read as
-- a number that no range holds
unfoldable pub unsigned : ℤ → ℕ
unsigned (pos n) = n
unsigned (negsuc n) = past_every

-- the number at a place of a row of signed ones, read so; 0 where there is none
abbrev pub unsigned_at : (numbers : List ℤ) → (place : ℕ) → ℕ
unsigned_at numbers place = unsigned (get_or numbers place (pos 0))

-- ---- prices, rates and limits

-- "Price: ten-thousandth of a rouble, 1 to 10^10"
unfoldable pub is_price : (p : ℕ) → Bool
is_price p = within price_least price_most p

unfoldable pub price_made : (units : ℕ) → Option Price
price_made units = pick (is_price units) (Some (record { units = units })) None

-- "Rate: basis point (bp), 10,000 = 100 per cent"
unfoldable pub is_rate : (bp : ℕ) → Bool
is_rate bp = leb bp rate_most

unfoldable pub rate_made : (bp : ℕ) → Option Rate
rate_made bp = pick (is_rate bp) (Some (record { bp = bp })) None

-- "limits .. 0..2·10^12 + 2·10^10": the range of a limit, which lies on the grid besides (`is_limit`)
unfoldable pub limit_made : (units : ℕ) → Option Limit
limit_made units = pick (leb units limit_most) (Some (record { units = units })) None

-- "Grid (10.1): ceiling(log10 lot) + 2 decimals. So g = 100 units for lot 1, 10 for 2..10, 1 for 11..100."
unfoldable pub grid_of : (lot : ℕ) → ℕ
grid_of lot = pick (leb lot 1) grid_of_one (pick (leb lot lot_to_ten) grid_to_ten 1)

-- "ceiling(log10 lot) + 2 decimals" of a rouble of 10^4 units: the least e with 10^e ≥ lot, and a grid of 10^(4 - (e +
-- 2)) units. `grid_is_power_of_ten` (proofs/Units of `paper_desk`) says that the three steps are this.
unfoldable pub ceiling_log10 : (lot : ℕ) → ℕ
ceiling_log10 lot = least 2 (λ e. leb lot (10 ^ e))

-- "on the grid, in range"
unfoldable pub is_grid_price : (g p : ℕ) → Bool
is_grid_price g p = is_price p && eqb (p % g) 0

-- ---- statics

-- a row of the table: the range of its number, and whether it is yes or no
pub record Static : Type 0 where
  pub least : ℕ
  pub most : ℕ
  pub is_flag : Bool

abbrev pub ranging : (least most : ℕ) → Static
ranging least most = record { least = least; most = most; is_flag = false }

-- "yes 1, no 0"
abbrev pub yes_or_no : Static
yes_or_no = record { least = 0; most = 1; is_flag = true }

-- THE TABLE OF STATICS, in document 01's order, then W-210's three and W-211's. A static more is a row more at its end,
-- and a line more in the functions below: everywhere else the statics are numbers in this order
abbrev pub statics_table : List Static
statics_table =
    ranging 1 lot_most  -- lot, pieces
    ∷ ranging 1 step_most  -- h, bp
    ∷ ranging multiplier_least multiplier_most  -- q, hundredths
    ∷ ranging 0 weight_most  -- a_up, ten-thousandths
    ∷ ranging 0 weight_most  -- a_down, ten-thousandths
    ∷ ranging 1 wait_most  -- wait n, trading days
    ∷ ranging 1 first_days_most  -- rh_1, days
    ∷ ranging 1 days_most  -- rh_2, days
    ∷ ranging 1 days_most  -- rh_3, days
    ∷ ranging 0 liquidity_most  -- liq, bp
    ∷ ranging 0 rate_most  -- S_1_min, bp
    ∷ ranging 0 rate_most  -- S_2_min, bp
    ∷ ranging 0 rate_most  -- S_3_min, bp
    ∷ ranging 0 rate_most  -- S_max, bp
    ∷ ranging divisor_least divisor_most  -- x_pr, hundredths
    ∷ ranging 1 shift_most  -- shift, hundredths
    ∷ ranging 0 rate_most  -- PcH_max, bp
    ∷ ranging 0 rate_most  -- PcL_max, bp
    ∷ ranging 0 nearness_most  -- w, ten-thousandths
    ∷ ranging 1 seconds_most  -- u, seconds
    ∷ yes_or_no  -- Monitoring
    ∷ yes_or_no  -- isEWMA
    ∷ ranging 1 seconds_most  -- u_evening, seconds (W-210)
    ∷ yes_or_no  -- Autochange
    ∷ ranging 0 evening_moves_most  -- the evening maximum, moves
    ∷ yes_or_no  -- UseEXTERNAL (W-211)
    ∷ []

-- how many there are, and how many of them are yes or no
abbrev pub statics_count : ℕ
statics_count = 26

abbrev pub flags_count : ℕ
flags_count = 4

-- the statics that numbers in the order of the table give; one that is left out counts as 0
unfoldable pub given_of : (numbers : List ℤ) → GivenStatics
unfolding unsigned
given_of numbers =
    record {
      lot = unsigned_at numbers 0;
      h = unsigned_at numbers 1;
      q = unsigned_at numbers 2;
      aup = unsigned_at numbers 3;
      adown = unsigned_at numbers 4;
      wait = unsigned_at numbers 5;
      rh1 = unsigned_at numbers 6;
      rh2 = unsigned_at numbers 7;
      rh3 = unsigned_at numbers 8;
      liq = unsigned_at numbers 9;
      min1 = unsigned_at numbers 10;
      min2 = unsigned_at numbers 11;
      min3 = unsigned_at numbers 12;
      smax = unsigned_at numbers 13;
      xpr = unsigned_at numbers 14;
      shift = unsigned_at numbers 15;
      pchmax = unsigned_at numbers 16;
      pclmax = unsigned_at numbers 17;
      w = unsigned_at numbers 18;
      u = unsigned_at numbers 19;
      monitoring = unsigned_at numbers 20;
      ewma = unsigned_at numbers 21;
      uevening = unsigned_at numbers 22;
      autochange = unsigned_at numbers 23;
      eveningmax = unsigned_at numbers 24;
      useexternal = unsigned_at numbers 25;
    }

-- and back: the numbers of given statics, in the order of the table
abbrev pub given_numbers : GivenStatics → List ℕ
given_numbers g =
    g.lot
    ∷ g.h
    ∷ g.q
    ∷ g.aup
    ∷ g.adown
    ∷ g.wait
    ∷ g.rh1
    ∷ g.rh2
    ∷ g.rh3
    ∷ g.liq
    ∷ g.min1
    ∷ g.min2
    ∷ g.min3
    ∷ g.smax
    ∷ g.xpr
    ∷ g.shift
    ∷ g.pchmax
    ∷ g.pclmax
    ∷ g.w
    ∷ g.u
    ∷ g.monitoring
    ∷ g.ewma
    ∷ g.uevening
    ∷ g.autochange
    ∷ g.eveningmax
    ∷ g.useexternal
    ∷ []

-- the statics that are given as numbers: "yes 1, no 0"
unfoldable pub statics_of : GivenStatics → Statics
statics_of g =
    record {
      lot = g.lot;
      h = g.h;
      q = g.q;
      aup = g.aup;
      adown = g.adown;
      wait = g.wait;
      rh1 = g.rh1;
      rh2 = g.rh2;
      rh3 = g.rh3;
      liq = g.liq;
      min1 = g.min1;
      min2 = g.min2;
      min3 = g.min3;
      smax = g.smax;
      xpr = g.xpr;
      shift = g.shift;
      pchmax = g.pchmax;
      pclmax = g.pclmax;
      w = g.w;
      u = g.u;
      monitoring = eqb g.monitoring 1;
      ewma = eqb g.ewma 1;
      uevening = g.uevening;
      autochange = eqb g.autochange 1;
      eveningmax = g.eveningmax;
      useexternal = eqb g.useexternal 1;
    }

-- and back: the numbers of statics, in the order of the table
abbrev pub flag_of : Bool → ℕ
flag_of true = 1
flag_of false = 0

abbrev pub numbers_of : Statics → List ℕ
numbers_of st =
    st.lot
    ∷ st.h
    ∷ st.q
    ∷ st.aup
    ∷ st.adown
    ∷ st.wait
    ∷ st.rh1
    ∷ st.rh2
    ∷ st.rh3
    ∷ st.liq
    ∷ st.min1
    ∷ st.min2
    ∷ st.min3
    ∷ st.smax
    ∷ st.xpr
    ∷ st.shift
    ∷ st.pchmax
    ∷ st.pclmax
    ∷ st.w
    ∷ st.u
    ∷ flag_of st.monitoring
    ∷ flag_of st.ewma
    ∷ st.uevening
    ∷ flag_of st.autochange
    ∷ st.eveningmax
    ∷ flag_of st.useexternal
    ∷ []

-- each number in the range of its row
abbrev pub in_table : List Static → (numbers : List ℕ) → Bool
in_table [] numbers = true
in_table (row ∷ rows) [] = false
in_table (row ∷ rows) (x ∷ numbers) = within row.least row.most x && in_table rows numbers

-- "rh_1 ≤ rh_2 ≤ rh_3", "S_1_min ≤ S_2_min ≤ S_3_min ≤ S_max"
abbrev pub is_in_order : Statics → Bool
is_in_order st =
    leb st.rh1 st.rh2
    && leb st.rh2 st.rh3
    && leb st.min1 st.min2
    && leb st.min2 st.min3
    && leb st.min3 st.smax

-- "S_1_min ≤ S_2_min ≤ S_3_min ≤ S_max .. multiples of h"
abbrev pub multiples_of_step : Statics → Bool
multiples_of_step st =
    eqb (st.min1 % st.h) 0 && eqb (st.min2 % st.h) 0 && eqb (st.min3 % st.h) 0 && eqb (st.smax % st.h) 0

-- the whole table: ranges, orders and multiples
unfoldable pub valid_statics : Statics → Bool
valid_statics st = in_table statics_table (numbers_of st) && is_in_order st && multiples_of_step st

-- "yes 1, no 0": each yes or no is one of them
abbrev pub valid_flags : GivenStatics → Bool
valid_flags g = leb g.monitoring 1 && leb g.ewma 1 && leb g.autochange 1 && leb g.useexternal 1

unfoldable pub valid_given : GivenStatics → Bool
valid_given g = valid_statics (statics_of g) && valid_flags g

-- ---- the tentative rate

-- W-208: "the least multiple of h at or above 100,000 bp". It is the same of every kind of security
unfoldable pub tentative_top : (h : ℕ) → ℕ
tentative_top h = up tentative_most h * h

-- "the tentative rate (0.., a multiple of h)"; W-208: it "runs to the least multiple of h at or above 100,000 bp ..,
-- and the admission range likewise"
unfoldable pub valid_tentative : (h tentative : ℕ) → Bool
valid_tentative h tentative = leb tentative (tentative_top h) && eqb (tentative % h) 0

-- ---- an admission

-- "last day number (0..10^6), the two latest evaluations (on the grid, in range), s, and the tentative rate": a record
-- has these figures too
abbrev pub valid_figures : Statics → (day p1 p2 s tentative : ℕ) → Bool
valid_figures st day p1 p2 s tentative =
    leb day day_most
    && is_grid_price (grid_of st.lot) p1
    && is_grid_price (grid_of st.lot) p2
    && leb s volatility_most
    && valid_tentative st.h tentative

-- the numbers of an admission, in the order of its line: ID DAY P1 P2 S TENTATIVE, and the statics
abbrev pub admission_numbers : Admission → List ℕ
admission_numbers a = a.id ∷ a.day ∷ a.p1 ∷ a.p2 ∷ a.s ∷ a.tentative ∷ given_numbers a.given

-- "Admission also gives id (1..10^9)" and these figures
unfoldable pub valid_admission : Admission → Bool
valid_admission a =
    within 1 id_most a.id
    && valid_given a.given
    && valid_figures (statics_of a.given) a.day a.p1 a.p2 a.s a.tentative

-- ---- a day

-- so many parts of a lent slice from a place on, each of the same width and read off where it begins
unfoldable pub parts_from : {A : Type 0} → (read : List ℤ → ℕ → A) → (width : ℕ) → (numbers : List ℤ)
    → (at count : ℕ) → List A
parts_from read width numbers at zero = []
parts_from read width numbers at (suc more) = read numbers at ∷ parts_from read width numbers (at + width) more

-- "rows of seven numbers in a lent slice of signed 64-bit numbers": a row as it is lent
pub record LentRow : Type 0 where
  pub t : ℤ
  pub central : ℤ
  pub repo : ℤ
  pub close : ℤ
  pub bid : ℤ
  pub ask : ℤ
  pub volume : ℤ

unfoldable pub row_at : (numbers : List ℤ) → (at : ℕ) → LentRow
row_at numbers at =
    record {
      t = get_or numbers at (pos 0);
      central = get_or numbers (at + 1) (pos 0);
      repo = get_or numbers (at + 2) (pos 0);
      close = get_or numbers (at + 3) (pos 0);
      bid = get_or numbers (at + 4) (pos 0);
      ask = get_or numbers (at + 5) (pos 0);
      volume = get_or numbers (at + 6) (pos 0);
    }

unfoldable pub rows_of : (numbers : List ℤ) → List LentRow
rows_of numbers = parts_from row_at row_numbers numbers 0 (length numbers / row_numbers)

-- "slice length not a multiple of 7 or over 112" is refused
unfoldable pub whole_rows : (numbers : List ℤ) → Bool
whole_rows numbers = eqb (length numbers % row_numbers) 0 && leb (length numbers) all_numbers_most

-- "Volume above 0 with close 0 is out of range."
abbrev pub close_for_volume : (volume close : ℤ) → Bool
close_for_volume volume close = le_z volume (pos 0) || le_z (pos 1) close

-- "A row: T 0..30; central rate 1..10^7 ten-thousandths; repo rate -9,999..9,999 bp; close, bid, ask 0..10^10; volume
-- 0..10^8 thousands."
unfoldable pub valid_row : LentRow → Bool
valid_row row =
    within_z (pos 0) (pos row_term_most) row.t
    && within_z (pos 1) (pos central_most) row.central
    && within_z repo_least repo_most row.repo
    && within_z (pos 0) (pos price_most) row.close
    && within_z (pos 0) (pos price_most) row.bid
    && within_z (pos 0) (pos price_most) row.ask
    && within_z (pos 0) (pos volume_most) row.volume
    && close_for_volume row.volume row.close

unfoldable pub valid_rows : (numbers : List ℤ) → Bool
valid_rows numbers = whole_rows numbers && every valid_row (rows_of numbers)

-- the row that seven numbers in range are
unfoldable pub row_of : LentRow → Row
row_of row =
    record {
      t = unsigned row.t;
      central = unsigned row.central;
      repo = row.repo;
      close = unsigned row.close;
      bid = unsigned row.bid;
      ask = unsigned row.ask;
      volume = unsigned row.volume;
    }

-- "days k 0..30 and repo band RRcL ≤ RRcH, -9,999..9,999 bp"
unfoldable pub valid_term : Term → Bool
valid_term x = leb x.k term_days_most && le_z repo_least x.low && le_z x.low x.high && le_z x.high repo_most

abbrev pub no_term : Term
no_term = record { k = 0; low = pos 0; high = pos 0 }

-- the term at a place
abbrev pub term_at : List Term → (k : ℕ) → Term
term_at terms k = get_or terms k no_term

-- "A day gives a day number; .. b 0..30; m 0..10; and three terms"
abbrev pub valid_day_numbers : Day → Bool
valid_day_numbers d =
    leb d.day day_most
    && leb d.b behind_most
    && leb d.m ahead_most
    && all_three (λ k. valid_term (term_at d.terms k))

-- and "rows"
unfoldable pub valid_day : Day → (rows : List ℤ) → Bool
valid_day d rows = valid_day_numbers d && valid_rows rows

-- ---- a quote and a move

-- "A quote has second 0..86,399, term 0..2, bid and ask 0..10^11 (0 missing)."
unfoldable pub valid_quote : Quote → Bool
valid_quote q = leb q.second second_last && leb q.term term_last && leb q.bid quote_most && leb q.ask quote_most

-- "A move names a side, 0 upper or 1 lower."
unfoldable pub valid_side : (side : ℕ) → Bool
valid_side side = leb side 1

unfoldable pub side_of : (side : ℕ) → Side
side_of side = pick (eqb side 0) Upper Lower

abbrev pub side_number : Side → ℕ
side_number Upper = 0
side_number Lower = 1

-- ---- a record

unfoldable pub is_live : Standing → Bool
is_live (Admitted day) = false
is_live (Live day) = true

-- "live with its day number, which is then the last day"; of an admitted-only record the last day is the one given at
-- admission
unfoldable pub last_day : Standing → ℕ
last_day (Admitted day) = day
last_day (Live day) = day

abbrev pub no_rate : Rate
no_rate = record { bp = 0 }

-- S_1, S_2 and S_3, which stand at 0, 1 and 2
abbrev pub rate_at : List Rate → (i : ℕ) → ℕ
rate_at rates i = (get_or rates i no_rate).bp

abbrev pub no_limits : Limits
no_limits = record { lower = 0; upper = 0 }

-- the range of the level i + 1, and the band of a term
abbrev pub range_at : Record → (i : ℕ) → Limits
range_at r i = get_or r.ranges i no_limits

abbrev pub band_at : Record → (k : ℕ) → Limits
band_at r k = get_or r.bands k no_limits

abbrev pub not_near : NearSeconds
not_near = record { top = None; bottom = None }

-- "limits on the grid 0..2·10^12 + 2·10^10"
unfoldable pub is_limit : (g x : ℕ) → Bool
is_limit g x = leb x limit_most && eqb (x % g) 0

unfoldable pub valid_limits : (g : ℕ) → Limits → Bool
valid_limits g x = is_limit g x.lower && is_limit g x.upper

unfoldable pub valid_near : Option ℕ → Bool
valid_near None = true
valid_near (Some second) = leb second second_last

unfoldable pub valid_near_seconds : NearSeconds → Bool
valid_near_seconds n = valid_near n.top && valid_near n.bottom

-- W-210: "its session: main, or evening with the evening moves made", which the evening maximum's range holds
unfoldable pub valid_session : Session → Bool
valid_session Main = true
valid_session (Evening made) = leb made evening_moves_most

-- W-211: an outside bid or ask, where there is one, is a price; 0 is none
unfoldable pub valid_external : External → Bool
valid_external x = leb x.bid price_most && leb x.ask price_most

abbrev pub no_external : External
no_external = record { bid = 0; ask = 0 }

-- a record's id, its statics, the figures that an admission gives too, and the age
abbrev pub sound_figures : Record → Bool
sound_figures r =
    within 1 id_most r.id
    && valid_statics r.statics
    && valid_figures r.statics (last_day r.standing) r.p1.units r.p2.units r.s r.tentative.bp
    && leb r.tentative.age age_most

-- "A record with a field outside the ranges, orders, multiples of h or grid that this paper gives as input ranges (and
-- rates 0..10,000, limits on the grid 0..2·10^12 + 2·10^10, move counts 0..50, age 0..250, seconds 0..86,399) counts as
-- no such id": it is sound otherwise
unfoldable pub sound : Record → Bool
sound r =
    sound_figures r
    && all_three (λ i. is_rate (rate_at r.rates i))
    && all_three (λ i. valid_limits (grid_of r.statics.lot) (range_at r i))
    && all_three (λ k. valid_term (term_at r.terms k))
    && all_three (λ k. valid_limits (grid_of r.statics.lot) (band_at r k))
    && leb r.moves.upper moves_most
    && leb r.moves.lower moves_most
    && all_three (λ k. valid_near_seconds (get_or r.near k not_near))
    && leb r.second second_last
    && valid_session r.session
    && valid_external r.external

-- "1 to 512 slots"
unfoldable pub valid_slots : (count : ℕ) → Bool
valid_slots count = within 1 slots_most count
