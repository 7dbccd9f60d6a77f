-- docs/EXCHANGE.md: what the program `exchange` is asked for, what it takes in, and the line that it answers.
use Rattle.std.specs.Prelude.{◌≡◌, true, false, List, [], ◌∷◌, ℕ, suc, ◌+◌, ◌*◌, ◌≤◌, leb, ltb, ℤ, pos, length, take}
use Rattle.paper.specs.Lists.{pick}
use Rattle.paper.specs.Numbers.{id_most, row_numbers}
use Rattle.paper.specs.Verdicts.{number_of, is_done}
use Rattle.std.specs.declared.option.Option.{Option}
use Rattle.std.specs.declared.option.Option.TheVariants.{None, Some}
use Rattle.text_bytes.specs.Numbers.{size_of, answer_text}
use Rattle.exchange_protocol.specs.declared.Reading.{Reading}
use Rattle.exchange_protocol.specs.Exchange.{text_most}
use Rattle.exchange_protocol.specs.Scan.{reading}
use Rattle.text_evidence.specs.Evidence.{Counted, has_ended, has_failed, unwritten, Hands}
use Rattle.exchange_serve.specs.declared.Taken.{Taken}
use Rattle.exchange_serve.specs.declared.Served.{Served}
use Rattle.text_out.specs.Places.{number_bytes, next_bytes}
use Rattle.text_out.specs.Sizes.{rows_bytes}

-- one digit or more, zeros may lead; a number above the greatest id asks as 0 does, for a security that is in no text
unfoldable pub settled : Option ℕ → Option ℕ
settled (Some n) = Some (pick (leb n id_most) n 0)
settled None = None

unfoldable pub asked_of : List ℕ → Option ℕ
asked_of p = settled (size_of p)

-- what is asked for is what some word asks for
pub record Asks (r : Option ℕ) : Type 0 where
  pub word : List ℕ
  pub is : r ≡ asked_of word

-- the first number past the ids
abbrev pub past_ids : ℕ
past_ids = suc id_most

-- a digit more, where all numbers above the greatest id are one
unfoldable pub grown : (n digit : ℕ) → ℕ
grown n d = pick (leb (10 * n + d) id_most) (10 * n + d) past_ids

-- AS MANY BYTES AS `read` DELIVERED are taken in, up to `end`. The input has ended exactly where they leave room, so
-- that a text that fills the buffer is never taken for one that a failed read cut off
pub record TakesIn (b b' : List ℕ) (r : Taken) : Type 0 where
  pub long : length b' ≡ length b
  pub most : r.end ≤ length b
  pub count : Counted 0 r.end r.read.all
  pub ended : has_ended r.read ≡ ltb r.end (length b)

-- the bytes at most of an answer: a verdict, a count or a line, the numbers of a day's rows, the line feed
abbrev pub reading_most : ℕ
reading_most = number_bytes + next_bytes + rows_bytes + 1

-- `0 COUNT` and the rows' numbers, seven to a row; or `15 LINE`
unfoldable pub reading_numbers : Reading → List ℤ
reading_numbers r =
    pick (is_done r.verdict) (pos r.count ∷ take (row_numbers * r.count) r.rows) (pos r.line ∷ [])

unfoldable pub reading_text : Reading → List ℕ
reading_text r = answer_text (number_of r.verdict) (reading_numbers r)

-- THE PROGRAM: the text that is taken in is answered, and the whole answer is handed to `write`; nothing is where a
-- read failed
pub record Serves (id : ℕ) (t t' o : List ℕ) (r : Served) : Type 0 where
  pub end : ℕ
  pub takes : TakesIn t t' (record { end = end; read = r.read })
  pub answers : has_failed r.read ≡ false
      → (o ≡ reading_text (reading id (take end t'))) × Hands (length o) unwritten r.told
  pub silent : has_failed r.read ≡ true → r.told ≡ unwritten

-- the same of buffers that nobody is lent: that of the text has a byte more than a text may have
pub record Answers (id : ℕ) (r : Served) : Type 0 where
  pub t : List ℕ
  pub t' : List ℕ
  pub o : List ℕ
  pub space : length t ≡ text_most + 1
  pub is : Serves id t t' o r
