-- docs/EVENING.md, "An evening": what lines do, one after the other, to the table and to what is kept, and what
-- is answered to them.
use Rattle.std.specs.Prelude.{List, [], ◌∷◌, ◌++◌, ℕ, ◌+◌, ltb, ℤ}
use Rattle.std.specs.declared.option.Option.{Option}
use Rattle.std.specs.declared.option.Option.TheVariants.{None, Some}
use Rattle.paper.specs.declared.Record.{Record}
use Rattle.paper.specs.declared.Day.{Day}
use Rattle.paper.specs.Lists.{pick}
use Rattle.paper_interest.specs.Interest.{interest_answer}
use Rattle.paper_desk.specs.Desk.{Ask, Call, admit, about, rule_of, step}
use Rattle.paper_bonds.specs.Bonds.{bond_answer}
use Rattle.paper_reasons.specs.AdmissionFaults.{field_at_fault}
use Rattle.paper_reasons.specs.Why.{why_on}
use Rattle.text_protocol.specs.declared.Kept.{Kept}
use Rattle.text_evening.specs.declared.Telling.{Telling}
use Rattle.text_evening.specs.declared.Telling.TheVariants.{Answers, Reasons, Messages}
use Rattle.text_protocol.specs.Kept.{none_kept, kept_after}
use Rattle.text_protocol.specs.Line.{meaning}
use Rattle.text_protocol.specs.Calls.{Deed, nothing, no_call, call, interest, bond, deed_of}
use Rattle.text_protocol.specs.Answers.{bad_text, call_text, interest_text, bond_text}
use Rattle.text_protocol.specs.Reasons.{why_text, field_text}
use Rattle.paper_messages.specs.declared.Message.{Message}
use Rattle.paper_messages.specs.Broadcast.{reasons_before, messages_to, all_sent}

-- the number of the line that comes next, what is kept of the interest lines, and the table
pub record Evening : Type 0 where
  pub number : ℕ
  pub kept : Kept
  pub table : List Record

-- ---- one line

-- only a call of document 01 changes the table
unfoldable pub table_after : Deed → List Record → List Record
table_after nothing t = t
table_after no_call t = t
table_after (call c) t = (step c t).table
table_after (interest i keys) t = t
table_after (bond b flows) t = t

-- only an interest line changes what is kept
unfoldable pub kept_by : Deed → Kept → Kept
kept_by nothing k = k
kept_by no_call k = k
kept_by (call c) k = k
kept_by (interest i keys) k = kept_after k i (interest_answer i keys)
kept_by (bond b flows) k = k

-- what a call of document 01 answers
abbrev pub answer_to : Call → List Record → List ℕ
answer_to c t = call_text c (step c t).answer

-- the same, but an evaluation is answered with why it is what it is, and an admission with the number of its line that
-- is at fault
abbrev pub reason_on : (id : ℕ) → Ask → Option (Day × List ℤ) → List Record → List ℕ
reason_on id x None t = answer_to (about id x) t
reason_on id x (Some (d, rows)) t = why_text (why_on t id d rows)

unfoldable pub reason_to : Call → List Record → List ℕ
reason_to (admit g) t = field_text (step (admit g) t).answer.verdict (field_at_fault g)
reason_to (about id x) t = reason_on id x (rule_of x).evaluates t

-- the messages that members get of the n-th line, where it is a call and messages are told from the line `from` on
unfoldable pub messages_told : (from n : ℕ) → Call → List Record → List Message
messages_told from n c t = pick (ltb n from) [] (messages_to c (step c t).answer (reasons_before c t))

-- what the n-th line is told as, where it is a call: with its answer, as the program `evening` does, with why, as the
-- program `why` does, or with the messages that members get of it, as the program `broadcast` does
unfoldable pub call_told : Telling → (n : ℕ) → Call → List Record → List ℕ
call_told Answers n c t = answer_to c t
call_told Reasons n c t = reason_to c t
call_told (Messages from) n c t = all_sent (messages_told from n c t)

-- a text that is no message: nothing is told of it where messages are
unfoldable pub worded : Telling → (text : List ℕ) → List ℕ
worded Answers text = text
worded Reasons text = text
worded (Messages from) text = []

-- what the n-th line is told as; a line that says nothing is told nothing
unfoldable pub text_of : Telling → (n : ℕ) → Deed → List Record → List ℕ
text_of telling n nothing t = []
text_of telling n no_call t = worded telling (bad_text n)
text_of telling n (call c) t = call_told telling n c t
text_of telling n (interest i keys) t = worded telling (interest_text (interest_answer i keys))
text_of telling n (bond b flows) t = worded telling (bond_text (bond_answer b flows))

-- lines are counted from 1, blank ones and headings too, up to the greatest number of 64 bits
abbrev pub last_number : ℕ
last_number = 18446744073709551615

unfoldable pub number_after : ℕ → ℕ
number_after n = pick (ltb n last_number) (n + 1) n

-- what the line l asks for on an evening
abbrev pub asked_by : (line : List ℕ) → Evening → Deed
asked_by l e = deed_of e.kept (meaning l)

-- THE EVENING AFTER A LINE
unfoldable pub after : (line : List ℕ) → Evening → Evening
after l e =
    record {
      number = number_after e.number;
      kept = kept_by (asked_by l e) e.kept;
      table = table_after (asked_by l e) e.table;
    }

-- THE ANSWER TO A LINE
unfoldable pub answer : Telling → (line : List ℕ) → Evening → List ℕ
answer telling l e = text_of telling e.number (asked_by l e) e.table

-- the evening after a line that asks for nothing, or is no call: only the number of the line goes on
abbrev pub passed_over : Evening → Evening
passed_over e = record { number = number_after e.number; kept = e.kept; table = e.table }

-- ---- lines

-- where an evening starts: line 1 is the next, nothing is kept
abbrev pub start_evening : List Record → Evening
start_evening t = record { number = 1; kept = none_kept; table = t }

-- THE EVENING AFTER LINES
unfoldable pub after_all : (lines : List (List ℕ)) → Evening → Evening
after_all [] e = e
after_all (l ∷ ls) e = after_all ls (after l e)

-- THE ANSWERS TO LINES
unfoldable pub answers : Telling → (lines : List (List ℕ)) → Evening → List ℕ
answers telling [] e = []
answers telling (l ∷ ls) e = answer telling l e ++ answers telling ls (after l e)

-- ---- the messages of lines

-- none where lines are told in words
unfoldable pub call_messages : Telling → (n : ℕ) → Call → List Record → List Message
call_messages Answers n c t = []
call_messages Reasons n c t = []
call_messages (Messages from) n c t = messages_told from n c t

-- of the n-th line
unfoldable pub messages_by : Telling → (n : ℕ) → Deed → List Record → List Message
messages_by telling n nothing t = []
messages_by telling n no_call t = []
messages_by telling n (call c) t = call_messages telling n c t
messages_by telling n (interest i keys) t = []
messages_by telling n (bond b flows) t = []

unfoldable pub line_messages : Telling → (line : List ℕ) → Evening → List Message
line_messages telling l e = messages_by telling e.number (asked_by l e) e.table

-- THE MESSAGES OF LINES
unfoldable pub all_messages : Telling → (lines : List (List ℕ)) → Evening → List Message
all_messages telling [] e = []
all_messages telling (l ∷ ls) e = line_messages telling l e ++ all_messages telling ls (after l e)
