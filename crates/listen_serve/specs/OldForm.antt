-- A stream of the old form has neither `begin` nor `end`. What `listen` printed of an input before there were whole
-- streams: a line for each message, by its verdict alone (proofs/OldFormTold: it prints the same of an old form).
use Rattle.std.specs.Prelude.{Bool, true, not, ◌&&◌, List, [], ◌++◌, ℕ, zero, suc, leb, length}
use Rattle.paper.specs.Lists.{pick}
use Rattle.paper.specs.Verdicts.{number_of, is_done}
use Rattle.paper_messages.specs.declared.ReaderAnswer.{ReaderAnswer}
use Rattle.paper_messages.specs.Messages.{answer_at}
use Rattle.paper_streams.specs.Streams.{is_begin, is_end}
use Rattle.listen_lines.specs.Lines.{line_of}

-- from a place on, in at most so many messages. A refusal has no next place and 0 stands for it, from where on the
-- messages are those of the start again
unfoldable pub old_form_from : (most : ℕ) → (input : List ℕ) → (place : ℕ) → Bool
old_form_from zero input place = true
old_form_from (suc most) input place =
    let h : ReaderAnswer = answer_at input place in
    (not (is_begin h) && not (is_end h)) && old_form_from most input h.next

unfoldable pub is_old_form : (input : List ℕ) → Bool
is_old_form input = old_form_from (length input) input 0

unfoldable pub plain_from : (most : ℕ) → (input : List ℕ) → (place : ℕ) → List ℕ
plain_from zero input place = []
plain_from (suc most) input place =
    let h : ReaderAnswer = answer_at input place in
    pick (leb (length input) place) []
    (line_of place (number_of h.verdict) h ++ pick (is_done h.verdict) (plain_from most input h.next) [])

unfoldable pub plain_text : (input : List ℕ) → List ℕ
plain_text input = plain_from (length input) input 0
