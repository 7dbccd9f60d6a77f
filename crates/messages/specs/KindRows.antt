-- The words of the kinds of messages.
use Rattle.std.specs.Prelude.{ℕ}

-- the letters of a word at most
abbrev pub word_most : ℕ
word_most = 11
