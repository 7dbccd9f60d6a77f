-- W-212: the messages of one record, field by field, every figure but the statics another number, so that no two fields
-- can be exchanged.
use Rattle.std.specs.Prelude.{◌≡◌, refl, List, [], ◌∷◌, ◌++◌, map, ℤ, pos, negsuc}
use Rattle.paper.specs.declared.Record.{Record}
use Rattle.paper.specs.declared.Side.TheVariants.{Upper, Lower}
use Rattle.paper.specs.PinnedValues.{record_from}
use Rattle.paper.specs.Ranges.{Static, statics_table, given_of, statics_of, last_day}
use Rattle.paper_reasons.specs.declared.PriceReason.TheVariants as price
use Rattle.paper_reasons.specs.declared.WeightReason.TheVariants as weight
use Rattle.paper_reasons.specs.declared.ReplacementReason.TheVariants as replacement
use Rattle.paper_reasons.specs.declared.TentativeReason.TheVariants as tentative
use Rattle.paper_reasons.specs.declared.LevelReason.{LevelReason}
use Rattle.paper_reasons.specs.declared.LevelReason.TheVariants as level
use Rattle.std.specs.declared.option.Option.TheVariants.{None}
use Rattle.paper_reasons.specs.declared.Reasons.{Reasons}
use Rattle.paper_reasons.specs.Why.{no_reasons}
use Rattle.paper_messages.specs.Fields.{statics_message_kind, rates_message_kind, bands_message_kind, move_message_kind}
use Rattle.paper_messages.specs.Fields.{reasons_message_kind, session_message_kind, filled}
use Rattle.paper_messages.specs.Records.{value_of, message, statics_message, rates_message, bands_message}
use Rattle.paper_messages.specs.Records.{move_message, price_number, weight_number, replacement_number}
use Rattle.paper_messages.specs.Records.{tentative_number, level_number, reasons_message, session_message}

-- each static at the most of its range
unfoldable pub most_statics : List ℤ
most_statics = map (λ (row : Static). pos row.most) statics_table

-- at the places of PinnedValues
unfoldable pub sample_numbers : List ℤ
unfolding most_statics
sample_numbers =
    most_statics
    -- id, day, p1, p2, s, tentative, that it is live, age
    ++ pos 7 ∷ pos 31 ∷ pos 32 ∷ pos 33 ∷ pos 34 ∷ pos 35 ∷ pos 1 ∷ pos 36
    -- rates, ranges
    ∷ pos 41 ∷ pos 42 ∷ pos 43
    ∷ pos 51 ∷ pos 61 ∷ pos 52 ∷ pos 62 ∷ pos 53 ∷ pos 63
    -- terms, bands
    ∷ pos 71 ∷ negsuc 0 ∷ pos 72 ∷ pos 73 ∷ negsuc 1 ∷ pos 74 ∷ pos 75 ∷ negsuc 2 ∷ pos 76
    ∷ pos 81 ∷ pos 91 ∷ pos 82 ∷ pos 92 ∷ pos 83 ∷ pos 93
    -- moves up and down
    ∷ pos 3 ∷ pos 4 ∷ []

unfoldable pub sample : Record
unfolding sample_numbers record_from
sample = record_from sample_numbers

-- the id and then the statics; that each is in its place is a law of every statics (`numbers_back` of `paper`)
pub statics_message_is : statics_message 26 (statics_of (given_of most_statics))
    ≡ message statics_message_kind (pos 26 ∷ most_statics)
unfolding statics_message most_statics message filled value_of given_of statics_of
statics_message_is = refl

pub rates_message_is : rates_message sample
    ≡ message rates_message_kind
    (pos 7 ∷ pos 31 ∷ pos 32 ∷ pos 34 ∷ pos 35 ∷ pos 36 ∷ pos 41 ∷ pos 42 ∷ pos 43 ∷ pos 61 ∷ pos 62 ∷ pos 63 ∷ pos 51
    ∷ pos 52 ∷ pos 53 ∷ [])
unfolding rates_message sample message filled value_of last_day
rates_message_is = refl

pub bands_message_is : bands_message sample
    ≡ message bands_message_kind
    (pos 7 ∷ pos 31 ∷ pos 71 ∷ negsuc 0 ∷ pos 72 ∷ pos 81 ∷ pos 91 ∷ pos 73 ∷ negsuc 1 ∷ pos 74 ∷ pos 82 ∷ pos 92
    ∷ pos 75 ∷ negsuc 2 ∷ pos 76 ∷ pos 83 ∷ pos 93 ∷ [])
unfolding bands_message sample message filled value_of last_day
bands_message_is = refl

pub move_messages_are : (move_message sample Upper
    ≡ message move_message_kind (pos 7 ∷ pos 0 ∷ pos 3 ∷ pos 61 ∷ pos 62 ∷ pos 63 ∷ pos 91 ∷ pos 92 ∷ pos 93 ∷ []))
    × (move_message sample Lower
    ≡ message move_message_kind (pos 7 ∷ pos 1 ∷ pos 4 ∷ pos 51 ∷ pos 52 ∷ pos 53 ∷ pos 81 ∷ pos 82 ∷ pos 83 ∷ []))
unfolding move_message sample message filled value_of
move_messages_are = (refl, refl)

-- ---- the reasons

-- each reason by its number, in the order of docs/EVENING.md
pub reason_numbers_are : (map price_number (price.None ∷ price.Close ∷ price.Bid ∷ price.Ask ∷ price.Yesterday ∷ [])
    ≡ 0 ∷ 1 ∷ 2 ∷ 3 ∷ 4 ∷ [])
    × (map weight_number (weight.None ∷ weight.Zero ∷ weight.Up ∷ weight.Down ∷ []) ≡ 0 ∷ 1 ∷ 2 ∷ 3 ∷ [])
    × (map replacement_number (replacement.None ∷ replacement.Yes ∷ replacement.No ∷ []) ≡ 0 ∷ 1 ∷ 2 ∷ [])
    × (map tentative_number
    (tentative.None ∷ tentative.Rose ∷ tentative.Fell ∷ tentative.Waited ∷ tentative.Level ∷ [])
    ≡ 0 ∷ 1 ∷ 2 ∷ 3 ∷ 4 ∷ [])
    × (map level_number (level.None ∷ level.Requirement ∷ level.Minimum ∷ level.Maximum ∷ []) ≡ 0 ∷ 1 ∷ 2 ∷ 3 ∷ [])
reason_numbers_are = (refl, refl, refl, refl, refl)

-- each reason another number, but for two that have no third
unfoldable pub some_reasons : (one two three : LevelReason) → Reasons
some_reasons one two three =
    record {
      price = price.Yesterday;
      weight = weight.Down;
      replacement = replacement.No;
      tentative = tentative.Rose;
      level1 = one;
      level2 = two;
      level3 = three;
      figures = None;
    }

pub reasons_messages_are : (reasons_message sample (some_reasons level.Requirement level.Minimum level.Maximum)
    ≡ message reasons_message_kind
    (pos 7 ∷ pos 31 ∷ pos 4 ∷ pos 3 ∷ pos 2 ∷ pos 1 ∷ pos 1 ∷ pos 2 ∷ pos 3 ∷ []))
    × (reasons_message sample no_reasons ≡ message reasons_message_kind (pos 7 ∷ pos 31 ∷ []))
unfolding reasons_message some_reasons sample message filled value_of last_day
reasons_messages_are = (refl, refl)

-- the id and the day of the last evaluation
pub session_message_is : session_message sample ≡ message session_message_kind (pos 7 ∷ pos 31 ∷ [])
unfolding session_message sample message filled value_of last_day
session_message_is = refl

-- a number past the signed ones is out of every range
pub values_are : (value_of 9223372036854775807 ≡ pos 9223372036854775807) × (value_of 9223372036854775808 ≡ negsuc 0)
unfolding value_of
values_are = (refl, refl)
