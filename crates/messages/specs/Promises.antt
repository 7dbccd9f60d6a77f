-- What the writer and the reader promise, and what the reader of a whole message asks of the reader that calls it.
use Rattle.std.specs.Prelude.{◌≡◌, List, ℕ, ◌+◌, ◌≤◌, length, drop, Result}
use Rattle.paper.specs.declared.Verdict.{Verdict}
use Rattle.paper_messages.specs.declared.Message.{Message}
use Rattle.paper_messages.specs.Bytes.{Bytes}
use Rattle.paper_messages.specs.Messages.{length_width, length_least, length_most, length_at, wrote_of, written, Hearing}
use Rattle.paper_messages.specs.Messages.{heard_at}

-- the writer: what it answers, and the whole buffer after it
pub record Writes (buffer : List ℕ) (m : Message) (answer : Result ℕ Verdict) (after : List ℕ) : Type 0 where
  pub answers : answer ≡ wrote_of buffer m
  pub leaves : after ≡ written buffer m

-- the reader: what it answers, and that what it is lent are bytes, which is a fact of every `&[u8]`
pub record HearsAt (buffer : List ℕ) (at : ℕ) (answer : Hearing) : Type 0 where
  pub answers : answer ≡ heard_at buffer at
  pub bytes : Bytes buffer

-- a message stands whole at a place: its length is said there, is from 2 to 4,096, and so many bytes follow it
pub record Whole (buffer : List ℕ) (at said : ℕ) : Type 0 where
  pub told : said ≡ length_at (drop at buffer)
  pub least : length_least ≤ said
  pub most : said ≤ length_most
  pub follows : at + (length_width + said) ≤ length buffer
