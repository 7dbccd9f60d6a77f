-- W-212: the kinds of messages, each with its fields in the order, at the widths and with the ranges that
-- docs/BROADCAST.md lists; "prices, limits and volatility eight bytes, ids, rates and other numbers four, yes/no one
-- (0 or 1)".
use Rattle.std.specs.Prelude.{List, [], ◌∷◌, ◌++◌, map, ℕ, ◌+◌, ◌-◌, ℤ, pos, negsuc, length, get_or, replicate}
use Rattle.paper.specs.Lists.{pick}
use Rattle.paper.specs.Numbers.{price_least, price_most, rate_most, volatility_most, tentative_most, step_most, id_most}
use Rattle.paper.specs.Numbers.{day_most, age_most, limit_most, moves_most, term_days_most, repo_least, repo_most}
use Rattle.paper.specs.Ranges.{Static, statics_table, statics_count}
use Rattle.paper_messages.specs.declared.Field.{Field}

-- "Kinds: 1 statics, 2 rates and ranges, 3 bands, 4 move.": the number of a kind is its place in `kinds_table`
abbrev pub statics_message_kind : ℕ
statics_message_kind = 1

abbrev pub rates_message_kind : ℕ
rates_message_kind = 2

abbrev pub bands_message_kind : ℕ
bands_message_kind = 3

abbrev pub move_message_kind : ℕ
move_message_kind = 4

-- docs/BROADCAST.md: 5 reasons, 6 begin, 7 end, 8 session, which readers of kinds 1 to 4 skip by their length
abbrev pub reasons_message_kind : ℕ
reasons_message_kind = 5

abbrev pub begin_message_kind : ℕ
begin_message_kind = 6

abbrev pub end_message_kind : ℕ
end_message_kind = 7

abbrev pub session_message_kind : ℕ
session_message_kind = 8

-- ---- widths

-- "prices, limits and volatility eight bytes"
abbrev pub eight_bytes : (low high : ℤ) → Field
eight_bytes low high = record { width = 8; low = low; high = high }

-- "ids, rates and other numbers four"
abbrev pub four_bytes : (low high : ℤ) → Field
four_bytes low high = record { width = 4; low = low; high = high }

-- "yes/no one (0 or 1)"
abbrev pub yes_no : Field
yes_no = record { width = 1; low = pos 0; high = pos 1 }

-- a reason of W-207, in a byte: 0 for none, then 1, 2, .. in the order of its list
abbrev pub reason_of : (count : ℕ) → Field
reason_of count = record { width = 1; low = pos 0; high = pos count }

-- a sum, in four bytes: every number of them. A field's value is signed, and the sum is the number that stands for it
-- (`complement`)
abbrev pub sum_width : ℕ
sum_width = 4

abbrev pub sum_field : Field
sum_field = record { width = sum_width; low = negsuc 2147483647; high = pos 2147483647 }

-- how many messages: as many as eight bytes count
abbrev pub count_field : Field
count_field = eight_bytes (pos 0) (pos 9223372036854775807)

-- ---- fields that more than one kind has

abbrev pub id_field : Field
id_field = four_bytes (pos 1) (pos id_most)

abbrev pub day_field : Field
day_field = four_bytes (pos 0) (pos day_most)

abbrev pub rate_field : Field
rate_field = four_bytes (pos 0) (pos rate_most)

abbrev pub limit_field : Field
limit_field = eight_bytes (pos 0) (pos limit_most)

-- the greatest tentative rate: the least multiple of h at or above 100,000 is below 100,000 + h, for every h up to
-- 1,000, so at most 100,999
abbrev pub tentative_last : ℕ
tentative_last = tentative_most + step_most - 1

-- ---- the fields of each kind

-- a static: its row of the table of statics, at its width
abbrev pub static_field : Static → Field
static_field row = pick row.is_flag yes_no (four_bytes (pos row.least) (pos row.most))

abbrev pub statics_fields : List Field
statics_fields = id_field ∷ map static_field statics_table

abbrev pub rates_fields : List Field
rates_fields =
    id_field  -- ID
    ∷ day_field  -- DAY
    ∷ eight_bytes (pos price_least) (pos price_most)  -- P
    ∷ eight_bytes (pos 0) (pos volatility_most)  -- S
    ∷ four_bytes (pos 0) (pos tentative_last)  -- TENTATIVE
    ∷ four_bytes (pos 0) (pos age_most)  -- AGE
    ∷ rate_field  -- S1
    ∷ rate_field  -- S2
    ∷ rate_field  -- S3
    ∷ limit_field  -- UPPER1
    ∷ limit_field  -- UPPER2
    ∷ limit_field  -- UPPER3
    ∷ limit_field  -- LOWER1
    ∷ limit_field  -- LOWER2
    ∷ limit_field  -- LOWER3
    ∷ []

-- of one term
abbrev pub term_fields : List Field
term_fields =
    four_bytes (pos 0) (pos term_days_most)  -- K
    ∷ four_bytes repo_least repo_most  -- RRCL
    ∷ four_bytes repo_least repo_most  -- RRCH
    ∷ limit_field  -- LOWER
    ∷ limit_field  -- UPPER
    ∷ []

abbrev pub bands_fields : List Field
bands_fields =
    id_field  -- ID
    ∷ day_field  -- DAY
    ∷ (term_fields ++ term_fields ++ term_fields)

abbrev pub move_fields : List Field
move_fields =
    id_field  -- ID
    ∷ four_bytes (pos 0) (pos 1)  -- SIDE
    ∷ four_bytes (pos 0) (pos moves_most)  -- COUNT
    ∷ limit_field  -- the side's range limits, 1 to 3
    ∷ limit_field
    ∷ limit_field
    ∷ limit_field  -- the side's band limits, of the three terms
    ∷ limit_field
    ∷ limit_field
    ∷ []

abbrev pub reasons_fields : List Field
reasons_fields =
    id_field  -- ID
    ∷ day_field  -- DAY
    ∷ reason_of 4  -- PRICE: close, bid, ask, yesterday
    ∷ reason_of 3  -- WEIGHT: zero, up, down
    ∷ reason_of 2  -- REPLACEMENT: yes, no
    ∷ reason_of 4  -- TENTATIVE: rose, fell, waited, level
    ∷ reason_of 3  -- LEVEL1: requirement, minimum, maximum
    ∷ reason_of 3  -- LEVEL2
    ∷ reason_of 3  -- LEVEL3
    ∷ []

-- the format's version
abbrev pub stream_version : ℕ
stream_version = 1

abbrev pub begin_fields : List Field
begin_fields =
    four_bytes (pos stream_version) (pos stream_version)  -- VERSION
    ∷ []

abbrev pub end_fields : List Field
end_fields =
    count_field  -- COUNT
    ∷ sum_field  -- SUM
    ∷ []

abbrev pub session_fields : List Field
session_fields =
    id_field  -- ID
    ∷ day_field  -- DAY
    ∷ []

-- ---- THE KINDS, one row each

-- a kind of message: its fields, and the word that a member's line of it begins with
pub record MessageKind : Type 0 where
  pub fields : List Field
  pub word : List ℕ

-- from 1 on; the words are "statics", "rates", "bands", "move", "reasons", "begin", "end" and "session"
abbrev pub kinds_table : List MessageKind
kinds_table =
    record { fields = statics_fields; word = 115 ∷ 116 ∷ 97 ∷ 116 ∷ 105 ∷ 99 ∷ 115 ∷ [] }
    ∷ record { fields = rates_fields; word = 114 ∷ 97 ∷ 116 ∷ 101 ∷ 115 ∷ [] }
    ∷ record { fields = bands_fields; word = 98 ∷ 97 ∷ 110 ∷ 100 ∷ 115 ∷ [] }
    ∷ record { fields = move_fields; word = 109 ∷ 111 ∷ 118 ∷ 101 ∷ [] }
    ∷ record { fields = reasons_fields; word = 114 ∷ 101 ∷ 97 ∷ 115 ∷ 111 ∷ 110 ∷ 115 ∷ [] }
    ∷ record { fields = begin_fields; word = 98 ∷ 101 ∷ 103 ∷ 105 ∷ 110 ∷ [] }
    ∷ record { fields = end_fields; word = 101 ∷ 110 ∷ 100 ∷ [] }
    ∷ record { fields = session_fields; word = 115 ∷ 101 ∷ 115 ∷ 115 ∷ 105 ∷ 111 ∷ 110 ∷ [] }
    ∷ []

abbrev pub kinds_count : ℕ
kinds_count = length kinds_table

-- an unknown kind has no field that we know, and no word
abbrev pub no_kind : MessageKind
no_kind = record { fields = []; word = [] }

abbrev pub kind_row : (kind : ℕ) → MessageKind
kind_row kind = get_or (no_kind ∷ kinds_table) kind no_kind

unfoldable pub fields_of : (kind : ℕ) → List Field
fields_of kind = (kind_row kind).fields

unfoldable pub kind_word : (kind : ℕ) → List ℕ
kind_word kind = (kind_row kind).word

-- ---- the places of a message

-- a message has as many places as the kind with most fields: an id and the statics
abbrev pub places : ℕ
places = statics_count + 1

-- a list, filled up to that many
unfoldable pub filled : {A : Type 0} → A → List A → List A
filled x xs = xs ++ replicate (places - length xs) x

-- past the last field a place has no bytes, and holds 0
abbrev pub no_field : Field
no_field = record { width = 0; low = pos 0; high = pos 0 }

unfoldable pub places_of : (kind : ℕ) → List Field
places_of kind = filled no_field (fields_of kind)
