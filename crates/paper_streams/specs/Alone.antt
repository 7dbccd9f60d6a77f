-- One whole stream, as a reader that goes on from message to message tells it: it keeps how far the stream is heard,
-- and whether every message so far may stand in an input that is one stream alone. At the end of the input that says
-- whether the input is one whole stream (proofs/WholeAlone).
use Rattle.std.specs.Prelude.{Bool, not, ◌&&◌, List, ℕ, zero, suc, eqb, leb, ltb, length}
use Rattle.paper.specs.Lists.{pick}
use Rattle.paper_messages.specs.declared.ReaderAnswer.{ReaderAnswer}
use Rattle.paper_messages.specs.Messages.{answer_at}
use Rattle.paper_streams.specs.declared.Stream.{Stream}
use Rattle.paper_streams.specs.Streams.{is_begin, number_in, stream_after, bytes_at}

-- whether a message may stand at a place of such an input: `begin` at the first, and every other behind it
unfoldable pub stands_alone : (place : ℕ) → Stream → ReaderAnswer → Bool
stands_alone place s h = pick (is_begin h) (not s.began && eqb place 0) s.began

-- at the end of the input the stream has ended, and there was one
unfoldable pub ends_alone : (place : ℕ) → Stream → Bool
ends_alone place s = not s.began && ltb 0 place

-- from a place on, in at most so many messages
unfoldable pub alone_from : (most : ℕ) → (input : List ℕ) → (place : ℕ) → Stream → Bool
alone_from zero input place s = ends_alone place s
alone_from (suc most) input place s =
    let h : ReaderAnswer = answer_at input place in
    pick (leb (length input) place) (ends_alone place s)
    (eqb (number_in s h) 0 && stands_alone place s h
    && alone_from most input h.next (stream_after s h (bytes_at input place h)))
