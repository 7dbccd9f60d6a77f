-- docs/EVENING.md, "The answers": the numbers of each answer, in their order.
use Rattle.std.specs.Prelude.{Bool, true, false, List, [], ◌∷◌, ◌++◌, ℕ, zero, suc, ◌-◌, ℤ, pos, negsuc, get_or}
use Rattle.paper.specs.declared.Standing.{Standing}
use Rattle.paper.specs.declared.Session.{Session}
use Rattle.paper.specs.declared.Session.TheVariants as session
use Rattle.paper.specs.declared.External.{External}
use Rattle.paper.specs.declared.Rate.{Rate}
use Rattle.paper.specs.declared.Tentative.{Tentative}
use Rattle.paper.specs.declared.Limits.{Limits}
use Rattle.std.specs.declared.option.Option.{Option}
use Rattle.std.specs.declared.option.Option.TheVariants.{None, Some}
use Rattle.paper.specs.declared.NearSeconds.{NearSeconds}
use Rattle.paper.specs.declared.Term.{Term}
use Rattle.paper.specs.declared.Record.{Record}
use Rattle.paper.specs.declared.Answer.{Answer}
use Rattle.paper.specs.declared.MaturityFigures.{MaturityFigures}
use Rattle.paper.specs.declared.InterestAnswer.{InterestAnswer}
use Rattle.paper_bonds.specs.declared.BondLimits.{BondLimits}
use Rattle.paper_bonds.specs.declared.BondAnswer.{BondAnswer}
use Rattle.paper.specs.Lists.{pick}
use Rattle.paper.specs.Ranges.{is_live, last_day, no_limits, not_near, term_at, rate_at}
use Rattle.paper.specs.Verdicts.{number_of, is_done}
use Rattle.paper_desk.specs.Desk.{Call, admit, about, Reply, the_record, the_alerts, rule_of}
use Rattle.text_bytes.specs.Bytes.{room, line_feed}
use Rattle.text_bytes.specs.Numbers.{next, answer_text}

-- ---- how long an answer is

-- no answer is longer
abbrev pub answer_most : ℕ
answer_most = 1200

-- where so many bytes of answers wait at most, one more has room behind them
abbrev pub waiting_most : ℕ
waiting_most = room - answer_most

-- "bad" and the line's number: the answer to a line that is no call
unfoldable pub bad_text : (line : ℕ) → List ℕ
bad_text n = (98 ∷ 97 ∷ 100 ∷ []) ++ next (pos n) ++ (line_feed ∷ [])

-- ---- a record's numbers

-- yes is 1, no is 0
unfoldable pub flag : Bool → ℤ
flag true = pos 1
flag false = pos 0

-- near: the second, or -1
unfoldable pub near_number : Option ℕ → ℤ
near_number (Some second) = pos second
near_number None = negsuc 0

-- LIVE DAY
unfoldable pub standing_numbers : Standing → List ℤ
standing_numbers x = flag (is_live x) ∷ pos (last_day x) ∷ []

-- ID LIVE DAY P1 P2 S TENTATIVE AGE
unfoldable pub figure_numbers : Record → List ℤ
figure_numbers r =
    pos r.id
    ∷ flag (is_live r.standing)
    ∷ pos (last_day r.standing)
    ∷ pos r.p1.units
    ∷ pos r.p2.units
    ∷ pos r.s
    ∷ pos r.tentative.bp
    ∷ pos r.tentative.age
    ∷ []

-- S1 S2 S3
unfoldable pub rates_numbers : List Rate → List ℤ
rates_numbers rates = pos (rate_at rates 0) ∷ pos (rate_at rates 1) ∷ pos (rate_at rates 2) ∷ []

-- UPPER1 UPPER2 UPPER3 LOWER1 LOWER2 LOWER3
unfoldable pub ranges_numbers : List Limits → List ℤ
ranges_numbers ranges =
    pos (get_or ranges 0 no_limits).upper
    ∷ pos (get_or ranges 1 no_limits).upper
    ∷ pos (get_or ranges 2 no_limits).upper
    ∷ pos (get_or ranges 0 no_limits).lower
    ∷ pos (get_or ranges 1 no_limits).lower
    ∷ pos (get_or ranges 2 no_limits).lower
    ∷ []

-- K RRCL RRCH BANDLOWER BANDUPPER NEARTOP NEARBOTTOM
unfoldable pub term_numbers : Term → Limits → NearSeconds → List ℤ
term_numbers x band n =
    pos x.k
    ∷ x.low
    ∷ x.high
    ∷ pos band.lower
    ∷ pos band.upper
    ∷ near_number n.top
    ∷ near_number n.bottom
    ∷ []

-- of the term k of a record
abbrev pub term_numbers_at : Record → (k : ℕ) → List ℤ
term_numbers_at r k = term_numbers (term_at r.terms k) (get_or r.bands k no_limits) (get_or r.near k not_near)

-- MOVESUPPER MOVESLOWER LASTSECOND
unfoldable pub last_numbers : Record → List ℤ
last_numbers r = pos r.moves.upper ∷ pos r.moves.lower ∷ pos r.second ∷ []

-- SESSION EVENINGMOVES (W-210): the main session is 0 and has no evening moves
unfoldable pub session_numbers : Session → List ℤ
session_numbers session.Main = pos 0 ∷ pos 0 ∷ []
session_numbers (session.Evening made) = pos 1 ∷ pos made ∷ []

-- EXTBID EXTASK (W-211): 0 is none
unfoldable pub external_numbers : External → List ℤ
external_numbers x = pos x.bid ∷ pos x.ask ∷ []

-- a record
unfoldable pub record_numbers : Record → List ℤ
record_numbers r =
    figure_numbers r ++ rates_numbers r.rates ++ ranges_numbers r.ranges
    ++ term_numbers_at r 0 ++ term_numbers_at r 1 ++ term_numbers_at r 2 ++ last_numbers r ++ session_numbers r.session
    ++ external_numbers r.external

-- ---- what a call answers

-- the record, or the two alerts of a quote
abbrev pub reply_numbers : Reply → Answer → List ℤ
reply_numbers the_record a = record_numbers a.rec
reply_numbers (the_alerts q) a = flag a.top ∷ flag a.bottom ∷ []

-- the figures of an accepted call: an admission none, the others what they answer
unfoldable pub figures_answered : Call → Answer → List ℤ
figures_answered (admit g) a = []
figures_answered (about id x) a = reply_numbers (rule_of x).reply a

-- a refusal's number stands alone
unfoldable pub call_text : Call → Answer → List ℕ
call_text c a = answer_text (number_of a.verdict) (pick (is_done a.verdict) (figures_answered c a) [])

-- ---- what an interest line answers

-- CHANGE VOLATILITY TENTATIVE AGE UP DOWN
unfoldable pub maturity_numbers : MaturityFigures → List ℤ
maturity_numbers f =
    pos f.change
    ∷ pos f.volatility
    ∷ pos f.tentative.bp
    ∷ pos f.tentative.age
    ∷ pos f.up
    ∷ pos f.down
    ∷ []

-- of each of the first n key maturities
unfoldable pub maturities_numbers : (count : ℕ) → List MaturityFigures → List ℤ
maturities_numbers zero fs = []
maturities_numbers (suc n) [] = []
maturities_numbers (suc n) (f ∷ fs) = maturity_numbers f ++ maturities_numbers n fs

-- LOWER UPPER, and the figures of each key maturity
unfoldable pub interest_numbers : InterestAnswer → List ℤ
interest_numbers a = a.pair.lower ∷ a.pair.upper ∷ maturities_numbers a.count a.figures

unfoldable pub interest_text : InterestAnswer → List ℕ
interest_text a =
    answer_text (number_of a.pair.verdict) (pick (is_done a.pair.verdict) (interest_numbers a) [])

-- ---- what a bond line answers

-- LOWER UPPER OFFLOWER OFFUPPER
unfoldable pub bond_limits_numbers : BondLimits → List ℤ
bond_limits_numbers x =
    pos x.band.lower ∷ pos x.band.upper ∷ pos x.off.lower ∷ pos x.off.upper ∷ []

-- of the term k of a bond
abbrev pub bond_limits_at : List BondLimits → (k : ℕ) → List ℤ
bond_limits_at limits k = bond_limits_numbers (get_or limits k (record { band = no_limits; off = no_limits }))

-- P TENTATIVE AGE
unfoldable pub bond_figures_numbers : (gross : ℕ) → Tentative → List ℤ
bond_figures_numbers gross tentative = pos gross ∷ pos tentative.bp ∷ pos tentative.age ∷ []

-- P TENTATIVE AGE S1 S2 S3, and the limits of each term
unfoldable pub bond_numbers : BondAnswer → List ℤ
bond_numbers a =
    bond_figures_numbers a.gross a.tentative ++ rates_numbers a.rates
    ++ bond_limits_at a.limits 0 ++ bond_limits_at a.limits 1 ++ bond_limits_at a.limits 2

unfoldable pub bond_text : BondAnswer → List ℕ
bond_text a = answer_text (number_of a.verdict) (pick (is_done a.verdict) (bond_numbers a) [])
