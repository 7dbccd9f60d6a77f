-- Document 01, "The evaluation (6.1)", with the roundings (a) to (d).
use Rattle.std.specs.Prelude.{Bool, ◌&&◌, ◌||◌, List, [], ◌∷◌, map, ℕ, zero, suc, ◌+◌, ◌*◌, min, max, leb, ltb, eqb, ℤ}
use Rattle.paper.specs.declared.Statics.{Statics}
use Rattle.paper.specs.declared.External.{External}
use Rattle.paper.specs.declared.Row.{Row}
use Rattle.paper.specs.declared.Roubles.{Roubles}
use Rattle.paper.specs.Lists.{pick, every, some, those}
use Rattle.paper.specs.Numbers.{rouble, year_in_day_bp, volume_most}
use Rattle.paper.specs.Roundings.{half_up, to_grid, grown}
use Rattle.paper.specs.Ranges.{is_price, rows_of, row_of, no_external}

-- (a) "Each present row price is price·Rc/10^4 · 3,650,000/(3,650,000 + T·rate), rounded once, half up, to a unit." A
-- missing price, 0, stays 0
unfoldable pub row_price : Row → (price : ℕ) → ℕ
row_price row price = half_up (price * row.central * year_in_day_bp) (rouble * grown year_in_day_bp row.t row.repo)

-- (b) "Row volume in roubles, half up to a thousand": the row's weight
unfoldable pub row_weight : Row → ℕ
row_weight row = half_up (row.volume * row.central) rouble

unfoldable pub roubles_of : Row → Roubles
roubles_of row =
    record {
      weight = row_weight row;
      close = row_price row row.close;
      bid = row_price row row.bid;
      ask =
          row_price row row.ask;
    }

-- "The close is the mean over rows whose weight (b) is above 0, weighted by it. With no such row it is the previous
-- evaluation."
unfoldable pub traded : List Roubles → List Roubles
traded rs = those (λ (r : Roubles). ltb 0 r.weight) rs

unfoldable pub weights : List Roubles → ℕ
weights [] = 0
weights (r ∷ rs) = r.weight + weights rs

unfoldable pub worth : List Roubles → ℕ
worth [] = 0
worth (r ∷ rs) = r.weight * r.close + worth rs

-- (c) "The weighted close, half up to a unit"
unfoldable pub mean : (previous : ℕ) → List Roubles → ℕ
mean previous [] = previous
mean previous (r ∷ rs) = half_up (worth (r ∷ rs)) (weights (r ∷ rs))

unfoldable pub close_of : (previous : ℕ) → List Roubles → ℕ
close_of previous rs = mean previous (traded rs)

-- "BID is the greatest row bid, ASK the least row ask"; 0 where there is none
unfoldable pub best_bid : List Roubles → ℕ
best_bid [] = 0
best_bid (r ∷ rs) = max r.bid (best_bid rs)

unfoldable pub lesser_ask : (a b : ℕ) → ℕ
lesser_ask zero b = b
lesser_ask (suc a) zero = suc a
lesser_ask (suc a) (suc b) = min (suc a) (suc b)

unfoldable pub best_ask : List Roubles → ℕ
best_ask [] = 0
best_ask (r ∷ rs) = lesser_ask r.ask (best_ask rs)

-- W-211: "With UseEXTERNAL yes, BID is the greater of the book's and the outside one, ASK the lesser (6.1); a missing
-- side leaves the book's." The pair that counts is none with no
unfoldable pub used_pair : Statics → External → External
used_pair st kept = pick st.useexternal kept no_external

unfoldable pub bid_of : (used : External) → List Roubles → ℕ
bid_of used rs = max (best_bid rs) used.bid

unfoldable pub ask_of : (used : External) → List Roubles → ℕ
ask_of used rs = lesser_ask (best_ask rs) used.ask

unfoldable pub median : (a b c : ℕ) → ℕ
median a b c = max (min a b) (min (max a b) c)

-- "Both present: the median of BID, close, ASK, also when BID > ASK. One side: min(close, ASK) or max(close, BID).
-- None: the close."
unfoldable pub between : (bid close ask : ℕ) → ℕ
between zero close zero = close
between zero close (suc ask) = min close (suc ask)
between (suc bid) close zero = max close (suc bid)
between (suc bid) close (suc ask) = median (suc bid) close (suc ask)

-- (d) "The evaluation, half up to the grid"
unfoldable pub evaluation_of : (g previous : ℕ) → (used : External) → List Row → ℕ
evaluation_of g previous used rows =
    let rs : List Roubles = map roubles_of rows in
    to_grid g (between (bid_of used rs) (close_of previous rs) (ask_of used rs)) 1

-- the day's rows, taken from the numbers lent
unfoldable pub day_rows : (numbers : List ℤ) → List Row
day_rows numbers = map row_of (rows_of numbers)

-- ---- 16: document 02, W-205, "A crossed row is a typing error."

-- "Within one row two columns were exchanged. Refuse a row whose bid and ask are both present and the bid is above the
-- ask." They are the row's numbers as given, before (a) makes roubles of them
unfoldable pub is_crossed_row : Row → Bool
is_crossed_row row = ltb 0 row.bid && ltb 0 row.ask && ltb row.ask row.bid

-- "Across boards a bid may stand above an ask": each row is judged by itself
unfoldable pub has_crossed_row : List Row → Bool
has_crossed_row rows = some is_crossed_row rows

-- ---- 7: "a rounded row price, or the evaluation, is 0 or above 10^10; a rounded row volume is above 10^8"

abbrev pub price_fits : (given rounded : ℕ) → Bool
price_fits given rounded = eqb given 0 || is_price rounded

unfoldable pub row_fits : Row → Bool
row_fits row =
    price_fits row.close (row_price row row.close)
    && price_fits row.bid (row_price row row.bid)
    && price_fits row.ask (row_price row row.ask)
    && leb (row_weight row) volume_most

unfoldable pub evaluation_fits : (g previous : ℕ) → (used : External) → List Row → Bool
evaluation_fits g previous used rows = every row_fits rows && is_price (evaluation_of g previous used rows)
