-- docs/BROADCAST.md, "What `listen` prints": the lines of a whole input. An input is streams one behind the other; what
-- no `begin` stands before, as in a stream of the old form, is told as it stands.
use Rattle.std.specs.Prelude.{List, [], ◌++◌, ℕ, zero, suc, leb, eqb, length}
use Rattle.paper.specs.Lists.{pick}
use Rattle.paper_messages.specs.declared.ReaderAnswer.{ReaderAnswer}
use Rattle.paper_messages.specs.Messages.{answer_at}
use Rattle.paper_streams.specs.declared.Stream.{Stream}
use Rattle.paper_streams.specs.Streams.{no_stream, is_begin, number_in, stream_after, bytes_at}
use Rattle.listen_lines.specs.Lines.{line_of, unended_line}

-- from a place on, behind a stream that has come so far, at most so many messages. A `begin` within a stream says first
-- that the stream has no end, and so does the end of the input. Nothing is told behind a refusal
unfoldable pub listen_from : (most : ℕ) → (input : List ℕ) → (place : ℕ) → Stream → List ℕ
listen_from zero input place s = unended_line s
listen_from (suc most) input place s =
    let h : ReaderAnswer = answer_at input place in
    pick (leb (length input) place) (unended_line s)
    (pick (is_begin h) (unended_line s) []
    ++ (line_of place (number_in s h) h
    ++ pick (eqb (number_in s h) 0) (listen_from most input h.next (stream_after s h (bytes_at input place h))) []))

-- THE LINES OF AN INPUT. A message has bytes, so that no input has more messages than bytes
unfoldable pub listen_text : (input : List ℕ) → List ℕ
listen_text input = listen_from (length input) input 0 no_stream
