-- A turn of the evening on a lent table, and every turn of standard input.
use Rattle.std.specs.Prelude.{◌≡◌, ◌⊎◌, Bool, true, false, ◌&&◌, List, [], ◌∷◌, ◌++◌, ℕ, ◌+◌, ◌≤◌, ◌<◌, length}
use Rattle.paper.specs.declared.Record.{Record}
use Rattle.paper_messages.specs.Broadcast.{sent}
use Rattle.paper_streams.specs.Streams.{end_message}
use Rattle.text_evening.specs.declared.Telling.{Telling}
use Rattle.text_evening.specs.declared.Telling.TheVariants.{Answers, Reasons, Messages}
use Rattle.text_bytes.specs.Bytes.{line_feed, room}
use Rattle.text_evening.specs.Evening.{Evening, start_evening, after, answer, after_all, answers, last_number}
use Rattle.text_evening.specs.Evening.{line_messages, all_messages}
use Rattle.text_evening.specs.Streamed.{begun_stream, stream_on}
use Rattle.text_input.specs.declared.Input.{Input}
use Rattle.text_evidence.specs.declared.Delivered.{Delivered}
use Rattle.text_evidence.specs.declared.Written.{Written}
use Rattle.text_evidence.specs.Evidence.{is_well, took_all, Counted, Hands}
use Rattle.text_input.specs.Input.{Unbroken, Over, Next}
use Rattle.text_turn.specs.declared.State.{State}
use Rattle.text_turn.specs.Turn.{start_state}
use Rattle.text_turn.specs.Tells.{waiting, Goes, wait, handed}
use Rattle.text_protocol.specs.Answers.{answer_most}

-- the evening that a state and a table are
abbrev pub evening_of : State → List Record → Evening
evening_of s t = record { number = s.number; kept = s.kept; table = t }

-- ---- one turn

-- ONE TURN, from the buffer b, the state s, the table t and the answers o: `line` is the next line of the input,
-- whatever pieces `read` delivered it in, and `behind` is the input behind it. The evening behind it is the one that
-- the definition has, and so is its answer, told in the way that the state has: in o', the answers behind the turn, it
-- stands behind those that wait, and a stream of messages is carried on over it. All of o' wait on, or all of o' were
-- handed to `write`. Answers wait only while a whole line stands in the buffer, and none waits where no line is left to
-- hear
pub record Turns (b : List ℕ) (s : State) (t : List Record) (o b' : List ℕ) (r : State) (t' : List Record) (o' : List ℕ)
    : Type 0 where
  pub line : List ℕ
  pub behind : Input
  pub next : Next b s.input b' behind line
  pub evening : evening_of r t' ≡ after line (evening_of s t)
  pub wrote : o' ≡ waiting s o ++ answer s.telling line (evening_of s t)
  pub most : length o' ≤ length (waiting s o) + answer_most
  pub goes : Goes behind s.told o' r
  pub telling : r.telling ≡ s.telling
  pub stream : r.stream
      ≡ stream_on s.telling s.stream (length (line_messages s.telling line (evening_of s t)))
      (answer s.telling line (evening_of s t))
  pub room : length (waiting r o') + answer_most ≤ room
  pub prompt : r.input.len ≤ r.input.end → r.waits ≡ false
  pub last : r.input.left ≡ 0 → r.waits ≡ false

-- what a turn hands to `write`, of the answers o that the code has behind it: all of them; nothing where they wait on
abbrev pub handed_of : {i : Input} {told : Written} {o : List ℕ} {r : State} → Goes i told o r → List ℕ
handed_of (wait waits same goes_on) = []
handed_of {o = o} (handed none hands goes_on) = o

-- ---- every turn

-- TURNS ONE AFTER THE OTHER, from the table t and the buffer b₀ on, with no answer before them: each starts where the
-- last one left the buffer, the state, the table and the answers. `lines` are the lines, `got` is what `read` delivered
-- and `told` what was handed to `write`, each in order: the bytes of the answers that the code had behind its turns
pub data Run (telling : Telling) (t : List Record) (b₀ : List ℕ)
    : (lines : List (List ℕ)) (got told b : List ℕ) → State → List Record → (o : List ℕ) → Type 0 where
  starts : Run telling t b₀ [] [] [] b₀ (start_state telling) t []
  goes : {lines : List (List ℕ)} {got told b : List ℕ} {s : State} {u : List Record} {o b' : List ℕ} {r : State}
      {u' : List Record} {o' : List ℕ} → Run telling t b₀ lines got told b s u o → 0 < s.input.left
      → (x : Turns b s u o b' r u' o')
      → Run telling t b₀ (lines ++ x.line ∷ []) (got ++ x.next.got) (told ++ handed_of x.goes) b' r u' o'

-- no line has a line feed in it
unfoldable pub Each : List (List ℕ) → Type 0
Each [] = Unit {0}
Each (l ∷ ls) = Unbroken l × Each ls

-- lines, each ended by a line feed, and behind them the bytes u
unfoldable pub joined : List (List ℕ) → List ℕ → List ℕ
joined [] u = u
joined (l ∷ ls) u = l ++ line_feed ∷ joined ls u

-- as many lines as one run hears at most: 2^64 - 1, the most that its counter holds
abbrev pub most_lines : ℕ
most_lines = last_number

-- THE LINES OF THE BYTES `got`, and why no more of them was heard: a line feed ends each line of `whole`, and `behind`
-- stands behind the last one. Where the input has ended, by the evidence of `read`, `behind` is the last line, and
-- every line was heard. Where it has not, a write did not take all, by the evidence of `told`, or a run's most lines
-- were heard: the lines that were heard are `whole`, and `behind` has the rest of what was delivered
pub record Cut (got : List ℕ) (lines : List (List ℕ)) (read : Delivered) (told : Written) : Type 0 where
  pub whole : List (List ℕ)
  pub behind : List ℕ
  pub are : got ≡ joined whole behind
  pub unbroken : Each lines
  pub heard : ((lines ≡ whole ++ behind ∷ []) × Over read behind)
      ⊎ ((lines ≡ whole) × ((took_all told ≡ false) ⊎ (length lines ≡ most_lines)))

-- EVERY TURN, up to where no line is left to hear: `got` is what `read` delivered, in order, and `lines` are its lines.
-- The evening at the end is the one after these lines, and what was handed to `write`, in order, are the answers to
-- them, told in one way: with their answers (`evening`), with reasons (`why`), or with messages (`broadcast`), whose
-- stream is carried on from `begin` over all of them; no answer waits. The evidence counts as many bytes as were delivered, and as many
-- as were handed over
pub record Serves (telling : Telling) (t : List Record) (r : State) (t' : List Record) : Type 0 where
  pub got : List ℕ
  pub lines : List (List ℕ)
  pub told : List ℕ
  pub b₀ : List ℕ
  pub b : List ℕ
  pub o : List ℕ
  pub run : Run telling t b₀ lines got told b r t' o
  pub cut : Cut got lines r.input.read r.told
  pub evening : evening_of r t' ≡ after_all lines (start_evening t)
  pub said : told ≡ answers telling lines (start_evening t)
  pub delivered : Counted 0 (length got) r.input.read.all
  pub handed : Counted 0 (length told) r.told.all
  pub one_way : r.telling ≡ telling
  pub streamed : r.stream
      ≡ stream_on telling begun_stream (length (all_messages telling lines (start_evening t)))
      (answers telling lines (start_evening t))
  pub over : r.input.left ≡ 0
  pub none_waits : r.waits ≡ false

-- ---- the end of a stream

-- whether lines are told with messages
unfoldable pub in_messages : Telling → Bool
in_messages Answers = false
in_messages Reasons = false
in_messages (Messages from) = true

-- whether a stream is ended: messages are told, all of them were taken, and the input has ended with no read that failed
unfoldable pub is_ended : State → Bool
is_ended s = (took_all s.told && is_well s.input.read) && in_messages s.telling

-- WHAT ENDS A STREAM: an `end` with its count and its sum is handed over, and where it is not ended nothing is
pub record Closes (s : State) (r : Written) : Type 0 where
  pub closed : is_ended s ≡ true → Hands (length (sent (end_message s.stream.count s.stream.sum))) s.told r
  pub left : is_ended s ≡ false → r ≡ s.told
