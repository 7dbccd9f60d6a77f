-- W-212 and docs/BROADCAST.md, "What `listen` prints": the line of what is heard at a place of the input, and the line
-- of a stream that has no end.
use Rattle.std.specs.Prelude.{List, [], ◌∷◌, ◌++◌, ℕ, ◌+◌, eqb, ℤ, pos, length, take}
use Rattle.paper.specs.Lists.{pick}
use Rattle.paper_messages.specs.declared.Message.{Message}
use Rattle.paper_messages.specs.declared.ReaderAnswer.{ReaderAnswer}
use Rattle.paper_messages.specs.Fields.{end_message_kind, fields_of, kind_word}
use Rattle.paper_streams.specs.declared.Stream.{Stream}
use Rattle.paper_streams.specs.Streams.{count_said, sum_said}
use Rattle.text_bytes.specs.Bytes.{line_feed}
use Rattle.text_bytes.specs.Numbers.{spaced}
use Rattle.text_out.specs.Sizes.{word_bytes, rows_bytes}

-- "unknown", "refused", "unended"
abbrev pub unknown_word : List ℕ
unknown_word = 117 ∷ 110 ∷ 107 ∷ 110 ∷ 111 ∷ 119 ∷ 110 ∷ []

abbrev pub refused_word : List ℕ
refused_word = 114 ∷ 101 ∷ 102 ∷ 117 ∷ 115 ∷ 101 ∷ 100 ∷ []

abbrev pub unended_word : List ℕ
unended_word = 117 ∷ 110 ∷ 101 ∷ 110 ∷ 100 ∷ 101 ∷ 100 ∷ []

-- a word, numbers with a blank before each, and the end of the line
unfoldable pub word_line : (word : List ℕ) → (numbers : List ℤ) → List ℕ
word_line word zs = word ++ spaced zs ++ (line_feed ∷ [])

-- the fields of a message, in their order
unfoldable pub fields_in : Message → List ℤ
fields_in m = take (length (fields_of m.kind)) m.fields

-- the numbers of a message's line: its fields; of an `end` the count and the sum, which is told without a sign
unfoldable pub numbers_in : Message → List ℤ
numbers_in m = pick (eqb m.kind end_message_kind) (pos (count_said m) ∷ pos (sum_said m) ∷ []) (fields_in m)

-- THE LINE of what is heard at a place of the input, counted from 0, and answered with a number: a kind's word and its
-- numbers, `unknown KIND LENGTH`, or `refused NUMBER PLACE`
unfoldable pub line_of : (place number : ℕ) → ReaderAnswer → List ℕ
line_of place number h =
    pick (eqb number 0)
    (pick h.known (word_line (kind_word h.message.kind) (numbers_in h.message))
    (word_line unknown_word (pos h.kind ∷ pos h.length ∷ [])))
    (word_line refused_word (pos number ∷ pos place ∷ []))

-- THE LINE of a stream that began and has no end, `unended N`, with the number of its messages
unfoldable pub unended_line : Stream → List ℕ
unended_line s = pick s.began (word_line unended_word (pos s.count ∷ [])) []

-- no line is longer: a word, numbers and the line feed
abbrev pub line_most : ℕ
line_most = word_bytes + rows_bytes + 1
