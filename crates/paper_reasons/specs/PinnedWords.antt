-- W-207: every word of a reason, letter by letter; docs/EVENING.md, "Why", has the same.
use Rattle.std.specs.Prelude.{◌≡◌, refl, List, [], ◌∷◌, ℕ}
use Prim.Native.Char.{code}
use Prim.Native.String.{String}
use Prim.Native.String.{[] as noText, ◌∷◌ as letter}
use Rattle.paper_reasons.specs.declared.PriceReason.TheVariants as price
use Rattle.paper_reasons.specs.declared.WeightReason.TheVariants as weight
use Rattle.paper_reasons.specs.declared.ReplacementReason.TheVariants as replacement
use Rattle.paper_reasons.specs.declared.TentativeReason.TheVariants as tentative
use Rattle.paper_reasons.specs.declared.LevelReason.TheVariants as level
use Rattle.paper_reasons.specs.Words.{price_word, weight_word, replacement_word, tentative_word, level_word}

-- the bytes of a word whose letters are one byte each
abbrev bytes : String → List ℕ
bytes noText = []
bytes (letter c s) = code c ∷ bytes s

pub words : List (List ℕ)
unfolding price_word weight_word replacement_word tentative_word level_word
words =
    price_word price.None
    ∷ price_word price.Close
    ∷ price_word price.Bid
    ∷ price_word price.Ask
    ∷ price_word price.Yesterday
    ∷ weight_word weight.None
    ∷ weight_word weight.Zero
    ∷ weight_word weight.Up
    ∷ weight_word weight.Down
    ∷ replacement_word replacement.None
    ∷ replacement_word replacement.Yes
    ∷ replacement_word replacement.No
    ∷ tentative_word tentative.None
    ∷ tentative_word tentative.Rose
    ∷ tentative_word tentative.Fell
    ∷ tentative_word tentative.Waited
    ∷ tentative_word tentative.Level
    ∷ level_word level.None
    ∷ level_word level.Requirement
    ∷ level_word level.Minimum
    ∷ level_word level.Maximum
    ∷ []

pub words_are : words
    ≡ bytes "none" ∷ bytes "close" ∷ bytes "bid" ∷ bytes "ask" ∷ bytes "yesterday"
    ∷ bytes "none" ∷ bytes "zero" ∷ bytes "up" ∷ bytes "down"
    ∷ bytes "none" ∷ bytes "yes" ∷ bytes "no"
    ∷ bytes "none" ∷ bytes "rose" ∷ bytes "fell" ∷ bytes "waited" ∷ bytes "level"
    ∷ bytes "none" ∷ bytes "requirement" ∷ bytes "minimum" ∷ bytes "maximum"
    ∷ []
unfolding words
words_are = refl
