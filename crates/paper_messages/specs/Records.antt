-- W-212: the message of each record. Kind 1 is of an admission's id and statics, 2, 3 and 5 of a record after an
-- evaluation, 5 with its reasons, 4 of a record after a move of a side, and 8 of a record after an opening.
use Rattle.std.specs.Prelude.{List, [], ◌∷◌, ◌++◌, map, ℕ, ltb, ℤ, pos, negsuc}
use Rattle.paper.specs.declared.Statics.{Statics}
use Rattle.paper.specs.declared.Record.{Record}
use Rattle.paper.specs.declared.Side.{Side}
use Rattle.paper.specs.declared.Side.TheVariants.{Upper, Lower}
use Rattle.paper.specs.Lists.{pick}
use Rattle.paper.specs.Ranges.{numbers_of, side_number, last_day, rate_at, term_at, range_at, band_at}
use Rattle.paper_desk.specs.Limits.{count_of}
use Rattle.paper_desk.specs.Sides.{limit_on}
use Rattle.paper_reasons.specs.declared.PriceReason.{PriceReason}
use Rattle.paper_reasons.specs.declared.PriceReason.TheVariants as price
use Rattle.paper_reasons.specs.declared.WeightReason.{WeightReason}
use Rattle.paper_reasons.specs.declared.WeightReason.TheVariants as weight
use Rattle.paper_reasons.specs.declared.ReplacementReason.{ReplacementReason}
use Rattle.paper_reasons.specs.declared.ReplacementReason.TheVariants as replacement
use Rattle.paper_reasons.specs.declared.TentativeReason.{TentativeReason}
use Rattle.paper_reasons.specs.declared.TentativeReason.TheVariants as tentative
use Rattle.paper_reasons.specs.declared.LevelReason.{LevelReason}
use Rattle.paper_reasons.specs.declared.LevelReason.TheVariants as level
use Rattle.paper_reasons.specs.declared.Reasons.{Reasons}
use Rattle.paper_messages.specs.declared.Message.{Message}
use Rattle.paper_messages.specs.Fields.{statics_message_kind, rates_message_kind, bands_message_kind, move_message_kind}
use Rattle.paper_messages.specs.Fields.{reasons_message_kind, session_message_kind, filled}

-- the first number past the signed 64-bit ones
abbrev pub past_signed : ℕ
past_signed = 9223372036854775808

-- a number as a field's value. One past the signed numbers is out of every range, and stands as -1, which is out of
-- every range that begins at 0 or above
unfoldable pub value_of : ℕ → ℤ
value_of n = pick (ltb n past_signed) (pos n) (negsuc 0)

unfoldable pub message : (kind : ℕ) → (values : List ℤ) → Message
message kind values = record { kind = kind; fields = filled (pos 0) values }

abbrev pub statics_numbers : (id : ℕ) → Statics → List ℕ
statics_numbers id st = id ∷ numbers_of st

unfoldable pub statics_message : (id : ℕ) → Statics → Message
statics_message id st = message statics_message_kind (map value_of (statics_numbers id st))

-- what a message shows of a record on a side: the limit of the range of level i + 1, and that of the band of term k
abbrev pub range_shown : Record → Side → (i : ℕ) → ℕ
range_shown r side i = limit_on side (range_at r i)

abbrev pub band_shown : Record → Side → (k : ℕ) → ℕ
band_shown r side k = limit_on side (band_at r k)

abbrev pub rates_numbers : Record → List ℕ
rates_numbers r =
    r.id
    ∷ last_day r.standing
    ∷ r.p1.units
    ∷ r.s
    ∷ r.tentative.bp
    ∷ r.tentative.age
    ∷ rate_at r.rates 0
    ∷ rate_at r.rates 1
    ∷ rate_at r.rates 2
    ∷ range_shown r Upper 0
    ∷ range_shown r Upper 1
    ∷ range_shown r Upper 2
    ∷ range_shown r Lower 0
    ∷ range_shown r Lower 1
    ∷ range_shown r Lower 2
    ∷ []

unfoldable pub rates_message : Record → Message
rates_message r = message rates_message_kind (map value_of (rates_numbers r))

abbrev pub term_values : Record → (term : ℕ) → List ℤ
term_values r term =
    value_of (term_at r.terms term).k
    ∷ (term_at r.terms term).low
    ∷ (term_at r.terms term).high
    ∷ value_of (band_shown r Lower term)
    ∷ value_of (band_shown r Upper term)
    ∷ []

unfoldable pub bands_message : Record → Message
bands_message r =
    message bands_message_kind
    (value_of r.id
    ∷ value_of (last_day r.standing)
    ∷ (term_values r 0 ++ term_values r 1 ++ term_values r 2))

-- after a move of a side: "that side's three range limits and that side's three band limits"
abbrev pub move_numbers : Record → Side → List ℕ
move_numbers r side =
    r.id
    ∷ side_number side
    ∷ count_of side r.moves
    ∷ range_shown r side 0
    ∷ range_shown r side 1
    ∷ range_shown r side 2
    ∷ band_shown r side 0
    ∷ band_shown r side 1
    ∷ band_shown r side 2
    ∷ []

unfoldable pub move_message : Record → Side → Message
move_message r side = message move_message_kind (map value_of (move_numbers r side))

-- ---- the reasons of W-207 as numbers: 0 for none, then 1, 2, .. in the order of their list

abbrev pub price_number : PriceReason → ℕ
price_number price.None = 0
price_number price.Close = 1
price_number price.Bid = 2
price_number price.Ask = 3
price_number price.Yesterday = 4

abbrev pub weight_number : WeightReason → ℕ
weight_number weight.None = 0
weight_number weight.Zero = 1
weight_number weight.Up = 2
weight_number weight.Down = 3

abbrev pub replacement_number : ReplacementReason → ℕ
replacement_number replacement.None = 0
replacement_number replacement.Yes = 1
replacement_number replacement.No = 2

abbrev pub tentative_number : TentativeReason → ℕ
tentative_number tentative.None = 0
tentative_number tentative.Rose = 1
tentative_number tentative.Fell = 2
tentative_number tentative.Waited = 3
tentative_number tentative.Level = 4

abbrev pub level_number : LevelReason → ℕ
level_number level.None = 0
level_number level.Requirement = 1
level_number level.Minimum = 2
level_number level.Maximum = 3

-- the seven reasons of an evaluation, behind the id and the day of its record
abbrev pub reasons_numbers : Record → Reasons → List ℕ
reasons_numbers r y =
    r.id
    ∷ last_day r.standing
    ∷ price_number y.price
    ∷ weight_number y.weight
    ∷ replacement_number y.replacement
    ∷ tentative_number y.tentative
    ∷ level_number y.level1
    ∷ level_number y.level2
    ∷ level_number y.level3
    ∷ []

unfoldable pub reasons_message : Record → Reasons → Message
reasons_message r y = message reasons_message_kind (map value_of (reasons_numbers r y))

-- an opening: of which security, and the day of its last evaluation
unfoldable pub session_message : Record → Message
session_message r = message session_message_kind (map value_of (r.id ∷ last_day r.standing ∷ []))
