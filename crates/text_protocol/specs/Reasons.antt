-- docs/EVENING.md, "Why" (document 02, W-207): the words of the answer to an evaluation where it is said why, in their
-- order, and its bytes; and those of an admission. Which reason is named is `why_on` of paper_reasons, and each reason's
-- word is there too; which number of an admission is at fault is its `field_at_fault`.
use Rattle.std.specs.Prelude.{List, [], ◌∷◌, ◌++◌, ℕ}
use Rattle.paper.specs.declared.Verdict.{Verdict}
use Rattle.paper.specs.Lists.{pick}
use Rattle.paper.specs.Verdicts.{number_of, is_done}
use Rattle.std.specs.declared.option.Option.{Option}
use Rattle.std.specs.declared.option.Option.TheVariants.{None, Some}
use Rattle.paper_reasons.specs.declared.Fault.{Fault}
use Rattle.paper_reasons.specs.declared.Fault.TheVariants as fault
use Rattle.paper_reasons.specs.declared.Deciding.{Deciding}
use Rattle.paper_reasons.specs.declared.Reasons.{Reasons}
use Rattle.paper_reasons.specs.declared.Why.{Why}
use Rattle.paper_reasons.specs.Words.{none_word, price_word, weight_word, replacement_word, tentative_word, level_word}
use Rattle.text_bytes.specs.Bytes.{space, line_feed}
use Rattle.text_bytes.specs.Numbers.{decimal}

-- ---- what is named, as bytes

abbrev pub price_name : List ℕ
price_name = 112 ∷ 114 ∷ 105 ∷ 99 ∷ 101 ∷ []  -- "price"

abbrev pub weight_name : List ℕ
weight_name = 119 ∷ 101 ∷ 105 ∷ 103 ∷ 104 ∷ 116 ∷ []  -- "weight"

abbrev pub replacement_name : List ℕ
replacement_name = 114 ∷ 101 ∷ 112 ∷ 108 ∷ 97 ∷ 99 ∷ 101 ∷ 109 ∷ 101 ∷ 110 ∷ 116 ∷ []  -- "replacement"

abbrev pub tentative_name : List ℕ
tentative_name = 116 ∷ 101 ∷ 110 ∷ 116 ∷ 97 ∷ 116 ∷ 105 ∷ 118 ∷ 101 ∷ []  -- "tentative"

-- "level1", "level2", "level3"
abbrev pub level_name : (digit : ℕ) → List ℕ
level_name digit = 108 ∷ 101 ∷ 118 ∷ 101 ∷ 108 ∷ digit ∷ []

abbrev pub figures_name : List ℕ
figures_name = 102 ∷ 105 ∷ 103 ∷ 117 ∷ 114 ∷ 101 ∷ 115 ∷ []  -- "figures"

abbrev pub row_name : List ℕ
row_name = 114 ∷ 111 ∷ 119 ∷ []  -- "row"

abbrev pub term_name : List ℕ
term_name = 116 ∷ 101 ∷ 114 ∷ 109 ∷ []  -- "term"

abbrev pub field_name : List ℕ
field_name = 102 ∷ 105 ∷ 101 ∷ 108 ∷ 100 ∷ []  -- "field"

-- ---- the words

-- R S0 X Y S T: the figures that decided
abbrev pub deciding_words : Deciding → List (List ℕ)
deciding_words f =
    figures_name
    ∷ decimal f.r
    ∷ decimal f.before
    ∷ decimal f.x
    ∷ decimal f.y
    ∷ decimal f.s
    ∷ decimal f.t
    ∷ []

-- nothing where none did
unfoldable pub figure_words : Option Deciding → List (List ℕ)
figure_words None = []
figure_words (Some f) = deciding_words f

-- of an accepted evaluation: what is named, and its reason; then the figures that decided
unfoldable pub reason_words : Reasons → List (List ℕ)
reason_words r =
    price_name ∷ price_word r.price
    ∷ weight_name ∷ weight_word r.weight
    ∷ replacement_name ∷ replacement_word r.replacement
    ∷ tentative_name ∷ tentative_word r.tentative
    ∷ level_name 49 ∷ level_word r.level1
    ∷ level_name 50 ∷ level_word r.level2
    ∷ level_name 51 ∷ level_word r.level3
    ∷ figure_words r.figures

-- of a refused one: the row or the term at fault, or none
unfoldable pub fault_words : Option Fault → List (List ℕ)
fault_words None = none_word ∷ []
fault_words (Some (fault.Row number)) = row_name ∷ decimal number ∷ []
fault_words (Some (fault.Term number)) = term_name ∷ decimal number ∷ []

-- of an admission: the number of the line that is at fault, or nothing
unfoldable pub field_words : Option ℕ → List (List ℕ)
field_words None = []
field_words (Some place) = field_name ∷ decimal place ∷ []

-- ---- the bytes

-- a blank before each word
unfoldable pub spelled : List (List ℕ) → List ℕ
spelled [] = []
spelled (w ∷ ws) = (space ∷ w) ++ spelled ws

-- the number of the verdict, the words behind it, the end of the line
unfoldable pub words_text : (number : ℕ) → List (List ℕ) → List ℕ
words_text v ws = decimal v ++ spelled ws ++ (line_feed ∷ [])

-- THE BYTES THAT SAY WHY
unfoldable pub why_text : Why → List ℕ
why_text y =
    words_text (number_of y.verdict) (pick (is_done y.verdict) (reason_words y.reasons) (fault_words y.fault))

-- AND THOSE OF AN ADMISSION: its number, and the number of the line that is at fault
unfoldable pub field_text : Verdict → Option ℕ → List ℕ
field_text v field = words_text (number_of v) (field_words field)
