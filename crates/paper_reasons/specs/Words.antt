-- W-207: the number and the word of each reason. A number is the reason's place in document 02's list, 0 where there is
-- none; a word is document 02's, spelled in bytes.
use Rattle.std.specs.Prelude.{List, [], ◌∷◌, ℕ}
use Rattle.paper_reasons.specs.declared.PriceReason.{PriceReason}
use Rattle.paper_reasons.specs.declared.PriceReason.TheVariants as price
use Rattle.paper_reasons.specs.declared.WeightReason.{WeightReason}
use Rattle.paper_reasons.specs.declared.WeightReason.TheVariants as weight
use Rattle.paper_reasons.specs.declared.ReplacementReason.{ReplacementReason}
use Rattle.paper_reasons.specs.declared.ReplacementReason.TheVariants as replacement
use Rattle.paper_reasons.specs.declared.TentativeReason.{TentativeReason}
use Rattle.paper_reasons.specs.declared.TentativeReason.TheVariants as tentative
use Rattle.paper_reasons.specs.declared.LevelReason.{LevelReason}
use Rattle.paper_reasons.specs.declared.LevelReason.TheVariants as level
use Rattle.std.specs.declared.option.Option.{Option}
use Rattle.std.specs.declared.option.Option.TheVariants.{None, Some}
use Rattle.paper_reasons.specs.declared.Fault.{Fault}
use Rattle.paper_reasons.specs.declared.Fault.TheVariants as fault
use Rattle.paper_reasons.specs.declared.Deciding.{Deciding}

-- ---- numbers

unfoldable pub price_number : PriceReason → ℕ
price_number price.None = 0
price_number price.Close = 1
price_number price.Bid = 2
price_number price.Ask = 3
price_number price.Yesterday = 4

unfoldable pub weight_number : WeightReason → ℕ
weight_number weight.None = 0
weight_number weight.Zero = 1
weight_number weight.Up = 2
weight_number weight.Down = 3

unfoldable pub replacement_number : ReplacementReason → ℕ
replacement_number replacement.None = 0
replacement_number replacement.Yes = 1
replacement_number replacement.No = 2

unfoldable pub tentative_number : TentativeReason → ℕ
tentative_number tentative.None = 0
tentative_number tentative.Rose = 1
tentative_number tentative.Fell = 2
tentative_number tentative.Waited = 3
tentative_number tentative.Level = 4

unfoldable pub level_number : LevelReason → ℕ
level_number level.None = 0
level_number level.Requirement = 1
level_number level.Minimum = 2
level_number level.Maximum = 3

-- R S0 X Y S T, or nothing
unfoldable pub decided_numbers : Option Deciding → List ℕ
decided_numbers None = []
decided_numbers (Some f) = f.r ∷ f.before ∷ f.x ∷ f.y ∷ f.s ∷ f.t ∷ []

-- 1 and the row, 2 and the term
unfoldable pub fault_numbers : Option Fault → List ℕ
fault_numbers None = 0 ∷ []
fault_numbers (Some (fault.Row n)) = 1 ∷ n ∷ []
fault_numbers (Some (fault.Term k)) = 2 ∷ k ∷ []

-- ---- words

-- "none"
abbrev pub none_word : List ℕ
none_word = 110 ∷ 111 ∷ 110 ∷ 101 ∷ []

-- "close", "bid", "ask", "yesterday"
unfoldable pub price_word : PriceReason → List ℕ
price_word price.None = none_word
price_word price.Close = 99 ∷ 108 ∷ 111 ∷ 115 ∷ 101 ∷ []
price_word price.Bid = 98 ∷ 105 ∷ 100 ∷ []
price_word price.Ask = 97 ∷ 115 ∷ 107 ∷ []
price_word price.Yesterday = 121 ∷ 101 ∷ 115 ∷ 116 ∷ 101 ∷ 114 ∷ 100 ∷ 97 ∷ 121 ∷ []

-- "zero", "up", "down"
unfoldable pub weight_word : WeightReason → List ℕ
weight_word weight.None = none_word
weight_word weight.Zero = 122 ∷ 101 ∷ 114 ∷ 111 ∷ []
weight_word weight.Up = 117 ∷ 112 ∷ []
weight_word weight.Down = 100 ∷ 111 ∷ 119 ∷ 110 ∷ []

-- "yes", "no"
unfoldable pub replacement_word : ReplacementReason → List ℕ
replacement_word replacement.None = none_word
replacement_word replacement.Yes = 121 ∷ 101 ∷ 115 ∷ []
replacement_word replacement.No = 110 ∷ 111 ∷ []

-- "rose", "fell", "waited", "level"
unfoldable pub tentative_word : TentativeReason → List ℕ
tentative_word tentative.None = none_word
tentative_word tentative.Rose = 114 ∷ 111 ∷ 115 ∷ 101 ∷ []
tentative_word tentative.Fell = 102 ∷ 101 ∷ 108 ∷ 108 ∷ []
tentative_word tentative.Waited = 119 ∷ 97 ∷ 105 ∷ 116 ∷ 101 ∷ 100 ∷ []
tentative_word tentative.Level = 108 ∷ 101 ∷ 118 ∷ 101 ∷ 108 ∷ []

-- "requirement", "minimum", "maximum"
unfoldable pub level_word : LevelReason → List ℕ
level_word level.None = none_word
level_word level.Requirement = 114 ∷ 101 ∷ 113 ∷ 117 ∷ 105 ∷ 114 ∷ 101 ∷ 109 ∷ 101 ∷ 110 ∷ 116 ∷ []
level_word level.Minimum = 109 ∷ 105 ∷ 110 ∷ 105 ∷ 109 ∷ 117 ∷ 109 ∷ []
level_word level.Maximum = 109 ∷ 97 ∷ 120 ∷ 105 ∷ 109 ∷ 117 ∷ 109 ∷ []
