-- What the functions need, on plain values: the parts of a line, one after the other, and the line of what is heard, by
-- the number that is answered.
use mathlib.Core.Path.{◌≡◌}
use mathlib.Core.Bool.{true, false}
use mathlib.Core.List.{List, [], ◌∷◌}
use Prim.Native.Nat.{ℕ, ◌+◌, ◌≤◌}
use lib.IntN.{ℤ, pos}
use lib.ListN.{length, take}
use borrow.Author.Tests.{eq-eqb, ne_eqb}
use Rattle.paper_messages.specs.declared.Message.{Message}
use Rattle.paper_messages.specs.declared.ReaderAnswer.{ReaderAnswer}
use Rattle.paper_messages.specs.Fields.{end_message_kind, fields_of, kind_word}
use Rattle.paper_streams.specs.Streams.{count_said, sum_said}
use Rattle.text_bytes.specs.Bytes.{line_feed}
use Rattle.text_out.specs.Wrote.{Wrote, then, wider}
use Rattle.text_out.specs.Told.{Told, wrote}
use Rattle.listen_lines.specs.Lines.{unknown_word, refused_word, word_line, fields_in, numbers_in, line_of}
use Rattle.listen_lines.specs.Lines.{line_most}

-- a word, numbers and the end of the line
pub word_line_written : {b : List ℕ} {n : ℕ} {b' : List ℕ} {n' : ℕ} {b'' : List ℕ} {n'' : ℕ} {c : List ℕ} {e : ℕ}
    {word : List ℕ}
    {zs : List ℤ} {k m : ℕ} → Wrote b n b' n' word k → Told b' n' b'' n'' zs m → Wrote b'' n'' c e (line_feed ∷ []) 1
    → k + m + 1 ≤ line_most → Wrote b n c e (word_line word zs) line_most
unfolding word_line
word_line_written p q r h = wider (then (then p (wrote q)) r) h

-- the fields of a message are the first of its places
pub fields_line_written : (m : Message) (count : ℕ) {b c : List ℕ} {n e : ℕ} → count ≡ length (fields_of m.kind)
    → Wrote b n c e (word_line (kind_word m.kind) (take count m.fields)) line_most
    → Wrote b n c e (word_line (kind_word m.kind) (fields_in m)) line_most
unfolding fields_in
fields_line_written m count h p = rw h at p

-- "end"
abbrev end_word : List ℕ
end_word = 101 ∷ 110 ∷ 100 ∷ []

-- the numbers of an `end`, and of every other message
pub end_line_written : (m : Message) {b c : List ℕ} {n e : ℕ} → m.kind ≡ end_message_kind
    → Wrote b n c e (word_line end_word (pos (count_said m) ∷ pos (sum_said m) ∷ [])) line_most
    → Wrote b n c e (word_line (kind_word m.kind) (numbers_in m)) line_most
unfolding numbers_in kind_word
end_line_written m h p = rw h p

pub other_line_written : (m : Message) {b c : List ℕ} {n e : ℕ} → (m.kind ≡ end_message_kind → ⊥)
    → Wrote b n c e (word_line (kind_word m.kind) (fields_in m)) line_most
    → Wrote b n c e (word_line (kind_word m.kind) (numbers_in m)) line_most
unfolding numbers_in
other_line_written m h p = rw (ne_eqb m.kind end_message_kind h) p

-- ---- the line of what is heard
module _ (h : ReaderAnswer) (no place : ℕ) {b c : List ℕ} {n e : ℕ} where
  pub refused_line_written : (no ≡ 0 → ⊥) → Wrote b n c e (word_line refused_word (pos no ∷ pos place ∷ [])) line_most
      → Wrote b n c e (line_of place no h) line_most
  unfolding line_of
  refused_line_written z p = rw (ne_eqb no 0 z) p

  pub known_line_written : no ≡ 0 → h.known ≡ true
      → Wrote b n c e (word_line (kind_word h.message.kind) (numbers_in h.message)) line_most
      → Wrote b n c e (line_of place no h) line_most
  unfolding line_of
  known_line_written z k p = rw (eq-eqb no 0 z, k) p

  pub unknown_line_written : no ≡ 0 → h.known ≡ false
      → Wrote b n c e (word_line unknown_word (pos h.kind ∷ pos h.length ∷ [])) line_most
      → Wrote b n c e (line_of place no h) line_most
  unfolding line_of
  unknown_line_written z k p = rw (eq-eqb no 0 z, k) p
