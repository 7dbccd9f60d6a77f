-- What is left of the input, and the next line of it.
use Rattle.std.specs.Prelude.{◌≡◌, ◌⊎◌, true, List, ◌∷◌, ◌++◌, ℕ, ◌+◌, ◌-◌, ◌≤◌, ◌<◌, ℤ, length, take, drop, MatchOption}
use Rattle.text_bytes.specs.Bytes.{room, line_feed, is_not, run}
use Rattle.text_protocol.specs.Line.{meaning, longest}
use Rattle.text_line.specs.ReadLine.{said}
use Rattle.text_evidence.specs.declared.Delivered.{Delivered}
use Rattle.text_evidence.specs.Evidence.{count_most, has_ended, Counted}
use Rattle.text_input.specs.declared.Input.{Input}
use Rattle.text_input.specs.declared.Waited.{Waited}
use Rattle.text_input.specs.declared.Behind.{Behind}
use Rattle.text_input.specs.declared.Passed.{Passed}
use Rattle.text_input.specs.declared.Heard.{Heard}

-- how many bytes stand before the first line feed, or all
unfoldable pub line_length : List ℕ → ℕ
line_length t = run (is_not line_feed) t

-- no byte is a line feed
abbrev pub Unbroken : List ℕ → Type 0
Unbroken t = line_length t ≡ length t

-- the bytes that were delivered and are not used
unfoldable pub unread : (buffer : List ℕ) → Input → List ℕ
unread b s = take (s.len - s.at) (drop s.at b)

-- how the buffer stands between lines: `end` is where the next line ends, or `len` where no line is whole
pub record Stands (b : List ℕ) (s : Input) : Type 0 where
  pub low : s.at ≤ s.end
  pub high : s.end ≤ s.len
  pub in_b : s.len ≤ room
  pub long : length b ≡ room
  pub is : s.end ≡ s.at + line_length (unread b s)

-- NOTHING MORE IS DELIVERED, by the evidence: room was offered, and nothing came. Or so many reads were spent on this one
-- line that no count is left
abbrev pub Over : Delivered → (line : List ℕ) → Type 0
Over d line = (has_ended d ≡ true) ⊎ (count_most ≤ length line)

-- the input behind its last line: no line is left to hear, every byte of the buffer is used, and its last bytes are the
-- line, unless the line fills the buffer
pub record Ends (b' : List ℕ) (r : Input) (line : List ℕ) : Type 0 where
  pub over : Over r.read line
  pub none : r.left ≡ 0
  pub used : r.at ≡ r.len
  pub from : ℕ
  pub last : (line ≡ drop from (take r.len b')) ⊎ (room ≤ length line)

-- THE NEXT LINE, whatever pieces `read` delivers it in: `got` is what it delivered, as much as it says. Behind the line
-- stands a line feed, and one line fewer is left to hear; or the input has ended
pub record Next (b : List ℕ) (s : Input) (b' : List ℕ) (r : Input) (line : List ℕ) : Type 0 where
  pub got : List ℕ
  pub count : Counted s.read.all (length got) r.read.all
  pub unbroken : Unbroken line
  pub are : ((unread b s ++ got ≡ line ++ line_feed ∷ unread b' r) × (r.left ≡ s.left - 1))
      ⊎ ((unread b s ++ got ≡ line) × Ends b' r line)
  pub stands : Stands b' r

-- ---- what the code finds its way with

-- `got` is delivered behind the first `have` bytes, until there is a line feed, the buffer is full or the input has
-- ended
pub record Waits (b : List ℕ) (have : ℕ) (before : Delivered) (b' : List ℕ) (r : Waited) : Type 0 where
  pub got : List ℕ
  pub are : take r.len b' ≡ take have b ++ got
  pub count : Counted before.all (length got) r.read.all
  pub in_b : r.len ≤ room
  pub long : length b' ≡ room
  pub is : r.end ≡ line_length (take r.len b')
  pub until : (r.end < r.len) ⊎ ((room ≤ r.len) ⊎ (has_ended r.read ≡ true))

-- the rest of a line is passed over: the pieces `before` of it, which have no line feed, and then what stands before
-- `at`; or the input has ended
pub record Found (was : Delivered) (before b' : List ℕ) (r : Behind) (read : Delivered) : Type 0 where
  pub is : r.at ≡ line_length (take r.len b') + 1
  pub in_len : line_length (take r.len b') < r.len
  pub in_b : r.len ≤ room
  pub count : Counted was.all (length before + r.len) read.all

pub record Passes (was : Delivered) (b' : List ℕ) (r : Passed) : Type 0 where
  pub before : List ℕ
  pub unbroken : Unbroken before
  pub long : length b' ≡ room
  pub is : MatchOption r.behind (Counted was.all (length before) r.read.all × Over r.read before)
      (λ f. Found was before b' f r.read)

-- more is delivered, so that a line is whole, or the buffer is full, or the input has ended
pub record Readied (b : List ℕ) (s : Input) (b' : List ℕ) (r : Input) : Type 0 where
  pub got : List ℕ
  pub are : unread b s ++ got ≡ unread b' r
  pub count : Counted s.read.all (length got) r.read.all
  pub stands : Stands b' r
  pub left : r.left ≡ s.left
  pub front : (r.end < r.len) ⊎ ((r.at ≡ 0) × ((room ≤ r.len) ⊎ (has_ended r.read ≡ true)))

-- the input behind a line that is longer than the buffer: `rest` of it is passed over
pub record LongPassed (was : Delivered) (b' : List ℕ) (left : ℕ) (r : Input) : Type 0 where
  pub rest : List ℕ
  pub unbroken : Unbroken rest
  pub got : List ℕ
  pub count : Counted was.all (length got) r.read.all
  pub are : ((got ≡ rest ++ line_feed ∷ unread b' r) × (r.left ≡ left - 1))
      ⊎ ((got ≡ rest) × (r.left ≡ 0) × (r.at ≡ r.len) × Over r.read rest)
  pub stands : Stands b' r

-- WHERE A LINE STANDS in a buffer: from `from` to `to`, unless it is longer than a line may be
pub record StandsAt (b : List ℕ) (from to : ℕ) (line : List ℕ) : Type 0 where
  pub low : from ≤ to
  pub high : to ≤ length b
  pub short : to - from ≤ longest
  pub is : (line ≡ take (to - from) (drop from b)) ⊎ (longest < length line)

-- THE LINE THAT IS HEARD is what the definition says of its bytes
pub record Hears (b : List ℕ) (s : Input) (b' : List ℕ) (r : Heard) (xs : List ℤ) : Type 0 where
  pub line : List ℕ
  pub next : Next b s b' r.input line
  pub says : said r.line xs ≡ meaning line
  pub there : StandsAt b' r.from r.to line
