-- The figures of a security from its history: from its admission, its accepted evaluations and receipts of outside
-- prices, and its accepted quotes, moves and openings of the evening since the last evaluation. What each ask leaves in a
-- history stands in its rule (Desk).
use Rattle.std.specs.Prelude.{Bool, List, [], ◌∷◌, ℕ, ◌+◌, ◌-◌, ◌*◌, eqb, ℤ}
use Rattle.std.specs.declared.option.Option.TheVariants.{None, Some}
use Rattle.paper.specs.declared.Rate.{Rate}
use Rattle.paper.specs.declared.Statics.{Statics}
use Rattle.paper.specs.declared.Tentative.{Tentative}
use Rattle.paper.specs.declared.Standing.{Standing}
use Rattle.paper.specs.declared.Standing.TheVariants.{Admitted, Live}
use Rattle.paper.specs.declared.Session.{Session}
use Rattle.paper.specs.declared.Session.TheVariants.{Main}
use Rattle.paper.specs.declared.External.{External}
use Rattle.paper.specs.declared.Side.{Side}
use Rattle.paper.specs.declared.Side.TheVariants.{Upper, Lower}
use Rattle.paper.specs.declared.Moves.{Moves}
use Rattle.paper.specs.declared.Limits.{Limits}
use Rattle.std.specs.declared.option.Option.{Option}
use Rattle.paper.specs.declared.NearSeconds.{NearSeconds}
use Rattle.paper.specs.declared.Term.{Term}
use Rattle.paper.specs.declared.Admission.{Admission}
use Rattle.paper.specs.declared.Day.{Day}
use Rattle.paper.specs.declared.Quote.{Quote}
use Rattle.paper.specs.Lists.{pick, for_levels}
use Rattle.paper.specs.Ranges.{grid_of, statics_of, no_limits, no_term, term_at, rate_at, no_external}
use Rattle.paper_desk.specs.Evaluation.{day_rows, evaluation_of, used_pair}
use Rattle.paper_desk.specs.External.{Receipt, kept_after}
use Rattle.paper.specs.declared.Figures.{Figures}
use Rattle.paper_desk.specs.Rates.{move_of, minimum_of, figures_of}
use Rattle.paper_desk.specs.Limits.{range_limit, band_of, delta_of, same_side}
use Rattle.paper_desk.specs.Alerts.{is_near}
use Rattle.paper_desk.specs.Desk.{Ask, rule_of}
use Rattle.paper_desk.specs.History.{is_evaluation}

-- ---- what the evaluations carry on

-- the two latest evaluations, the volatility, the tentative rate with its age, and the three rates
pub record Carries : Type 0 where
  pub p1 : ℕ
  pub p2 : ℕ
  pub s : ℕ
  pub tentative : Tentative
  pub rates : List Rate

-- "Admission also gives .. the two latest evaluations .., s, and the tentative rate". "The three rates start at their
-- minima; age .. at 0"
unfoldable pub carries_first : Admission → Carries
carries_first a =
    record {
      p1 = a.p1;
      p2 = a.p2;
      s = a.s;
      tentative = record { bp = a.tentative; age = 0 };
      rates = for_levels (λ l. record { bp = minimum_of (statics_of a.given) l });
    }

-- ---- the outside prices (W-211)

-- the pair that is kept: none at admission; a receipt changes it, and whatever else is asked leaves it
abbrev pub kept_then : Option Receipt → External → External
kept_then None kept = kept
kept_then (Some told) kept = kept_after kept told

unfoldable pub external_now : List Ask → External
external_now [] = no_external
external_now (x ∷ xs) = kept_then (rule_of x).receives (external_now xs)

-- ---- the evaluations

-- the evaluation of the day (6.1), with the outside prices that count, and its figures (7.1), from the two earlier
-- evaluations, the last rate S_1, s and tentative
unfoldable pub carries_next : Statics → Day → (rows : List ℤ) → (used : External) → Carries → Carries
carries_next st d rows used x =
    let p : ℕ = evaluation_of (grid_of st.lot) x.p1 used (day_rows rows) in
    let r : ℕ = move_of p x.p1 x.p2 in
    let f : Figures = figures_of st d.b d.m (rate_at x.rates 0) r x.s x.tentative in
    record { p1 = p; p2 = x.p1; s = f.s; tentative = f.tentative; rates = f.rates }

-- what is no evaluation carries nothing on
abbrev pub carries_then : Statics → Option (Day × List ℤ) → (kept : External) → Carries → Carries
carries_then st None kept x = x
carries_then st (Some (d, rows)) kept x = carries_next st d rows (used_pair st kept) x

unfoldable pub carries : Admission → List Ask → Carries
carries a [] = carries_first a
carries a (x ∷ xs) = carries_then (statics_of a.given) (rule_of x).evaluates (external_now xs) (carries a xs)

-- ---- the last accepted evaluation, and the accepted moves since it

pub data LastDay : Type 0 where
  no_day : LastDay
  on_day : Day → LastDay

abbrev pub day_then : Option (Day × List ℤ) → LastDay → LastDay
day_then None last = last
day_then (Some (d, rows)) last = on_day d

unfoldable pub last_evaluated : List Ask → LastDay
last_evaluated [] = no_day
last_evaluated (x ∷ xs) = day_then (rule_of x).evaluates (last_evaluated xs)

-- one more for a move of that side
abbrev pub moves_then : Option Side → Side → (count : ℕ) → ℕ
moves_then None side c = c
moves_then (Some x) side c = pick (same_side x side) (c + 1) c

-- "c the moves of that side since the evaluation"; W-210: the opening "keeps c"
unfoldable pub moves_since : Side → List Ask → ℕ
moves_since side [] = 0
moves_since side (x ∷ xs) = pick (is_evaluation x) 0 (moves_then (rule_of x).moves side (moves_since side xs))

abbrev pub moves_of : List Ask → Moves
moves_of es = record { lower = moves_since Lower es; upper = moves_since Upper es }

-- ---- the standing and the terms, the ranges and the bands: by the last evaluation and the moves since

-- "A record has a standing: admitted only, or live with its day number, which is then the last day."
unfoldable pub standing_now : Admission → LastDay → Standing
standing_now a no_day = Admitted a.day
standing_now a (on_day d) = Live d.day

-- a term, 0 before the first evaluation
unfoldable pub term_now : LastDay → (term : ℕ) → Term
term_now no_day k = no_term
term_now (on_day d) k = term_at d.terms k

-- "Range of level L: P·(1 ± S_L)"; each move "shifts its three range limits by delta .., lower ones stopping at 0"
unfoldable pub range_after : Statics → (p s1 rate : ℕ) → Moves → Limits
range_after st p s1 rate c =
    record {
      lower = range_limit st p rate Lower - c.lower * delta_of st s1 p;
      upper = range_limit st p rate Upper + c.upper * delta_of st s1 p;
    }

-- the range of the level i + 1, 0 before the first evaluation
unfoldable pub range_now : Admission → List Ask → LastDay → (i : ℕ) → Limits
range_now a es no_day i = no_limits
range_now a es (on_day d) i =
    let x : Carries = carries a es in
    range_after (statics_of a.given) x.p1 (rate_at x.rates 0) (rate_at x.rates i) (moves_of es)

-- a term's band, made with the moves since the evaluation; 0 before the first evaluation
unfoldable pub band_now : Admission → List Ask → LastDay → (term : ℕ) → Limits
band_now a es no_day k = no_limits
band_now a es (on_day d) k =
    let x : Carries = carries a es in
    band_of (statics_of a.given) x.p1 (rate_at x.rates 0) (moves_of es) (term_at d.terms k)

-- ---- the near seconds, from the quotes since the last evaluation

-- the bid is held against the top, the ask against the bottom
abbrev pub quoted_price : Side → Quote → ℕ
quoted_price Upper q = q.bid
quoted_price Lower q = q.ask

-- whether a quote after these calls is near a side of its term's band
unfoldable pub near_in : Admission → List Ask → Side → Quote → Bool
near_in a es side q = is_near side a.given.w (band_now a es (last_evaluated es) q.term) (quoted_price side q)

-- a quote of the term goes on with a side's near seconds in it, or breaks them off. "One quote touches one term only."
abbrev pub seconds_then : Admission → List Ask → Side → (term : ℕ) → Option Quote → (seconds : List ℕ) → List ℕ
seconds_then a xs side k None seconds = seconds
seconds_then a xs side k (Some q) seconds =
    pick (eqb q.term k) (pick (near_in a xs side q) (q.second ∷ seconds) []) seconds

-- the seconds of a side's near quotes in a term, unbroken up to now, the latest first. They break off at "a quote that
-- isn't near", at a move of that side ("It clears that side's near seconds in all terms"), at an evaluation and at an
-- opening of the evening (W-210)
unfoldable pub near_quotes : Admission → Side → (term : ℕ) → List Ask → List ℕ
near_quotes a side k [] = []
near_quotes a side k (x ∷ xs) =
    pick ((rule_of x).clears side) [] (seconds_then a xs side k (rule_of x).quotes (near_quotes a side k xs))

-- "A near side keeps the second at which it became near": that of the first of them
unfoldable pub first_of_them : (seconds : List ℕ) → Option ℕ
first_of_them [] = None
first_of_them (second ∷ []) = Some second
first_of_them (second ∷ earlier ∷ rest) = first_of_them (earlier ∷ rest)

abbrev pub near_since : Admission → Side → (term : ℕ) → List Ask → Option ℕ
near_since a side k es = first_of_them (near_quotes a side k es)

abbrev pub near_now : Admission → List Ask → (term : ℕ) → NearSeconds
near_now a es k = record { top = near_since a Upper k es; bottom = near_since a Lower k es }

abbrev pub second_then : Option Quote → (second : ℕ) → ℕ
second_then None second = second
second_then (Some q) second = q.second

-- "An evaluation clears .. the last quote second (to 0)."
unfoldable pub last_second : List Ask → ℕ
last_second [] = 0
last_second (x ∷ xs) = pick (is_evaluation x) 0 (second_then (rule_of x).quotes (last_second xs))

-- ---- the session (W-210)

-- "main, or evening with the evening moves made": the evening since the opening, if no evaluation came after it, with
-- the moves since
unfoldable pub session_now : List Ask → Session
session_now [] = Main
session_now (x ∷ xs) = (rule_of x).session (session_now xs)
