-- What the contracts of this crate need beside the protocol's words: a byte of a word, which is any that is no
-- blank, a run of bytes from a later place on, a size under a bound, and a word where it stands.
use Rattle.std.specs.Prelude.{◌≡◌, Bool, true, false, not, List, ℕ, ◌+◌, ◌-◌, ◌≤◌, length, take, drop}
use Rattle.std.specs.declared.option.Option.{Option}
use Rattle.std.specs.declared.option.Option.TheVariants.{None, Some}
use Rattle.text_bytes.specs.Bytes.{is_blank, run}
use Rattle.text_bytes.specs.Numbers.{size_from, greatest}
use Rattle.text_protocol.specs.Line.{item_of}
use Rattle.text_word.specs.declared.Word.{Word}

-- a byte of a word
unfoldable pub is_solid : ℕ → Bool
is_solid b = not (is_blank b)

-- a byte of the blanks, or of a word
unfoldable pub is_part : (blanks : Bool) → ℕ → Bool
is_part true = is_blank
is_part false = is_solid

-- the run of bytes from i on that pass a test goes on from j: it ends where the one from j on ends
pub record Onward (passes : ℕ → Bool) (t : List ℕ) (i j : ℕ) : Type 0 where
  pub in_t : j ≤ length t
  pub rest : j + run passes (drop j t) ≡ i + run passes (drop i t)

-- a size that is at most `most`
unfoldable pub Capped : (most : ℕ) → Option ℕ → Type 0
Capped most (Some n) = n ≤ most
Capped most None = Unit {0}

-- the word from a place on
abbrev pub word_from : List ℕ → (at : ℕ) → List ℕ
word_from t i = take (run is_solid (drop i t)) (drop i t)

-- digits from a place up to i lead a word, and spell x: the word from i on goes on from them
pub record Leads (t : List ℕ) (from i x : ℕ) : Type 0 where
  pub word : Onward is_solid t from i
  pub low : from ≤ i
  pub small : x ≤ greatest
  pub size : size_from x (word_from t i) ≡ size_from 0 (word_from t from)

-- the word from a place on: where it ends, and what it is behind the call's
pub record WordAt (t : List ℕ) (from : ℕ) (w : Word) : Type 0 where
  pub is : w.end ≡ from + run is_solid (drop from t)
  pub in_t : w.end ≤ length t
  pub item : w.item ≡ item_of (take (w.end - from) (drop from t))
