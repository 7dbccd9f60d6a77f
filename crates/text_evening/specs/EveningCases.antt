-- docs/EVENING.md, "An evening", by examples: an evening of a few lines from its start, as each program tells it; what
-- it leaves; and what is told of each call.
use Rattle.std.specs.Prelude.{◌≡◌, refl, List, [], ◌∷◌, ◌++◌, map, ℕ, ◌+◌, pos}
use Rattle.paper.specs.declared.Admission.{Admission}
use Rattle.paper.specs.declared.Notice.TheVariants.{Withdrawal}
use Rattle.paper.specs.declared.Verdict.TheVariants.{Done}
use Rattle.paper.specs.Lists.{three}
use Rattle.paper.specs.PinnedValues.{◌but◌, p1_at, s_at, admission_from, given_with, admission_z, z_statics, z_numbers}
use Rattle.paper.specs.Ranges.{no_term}
use Rattle.paper_desk.specs.Desk.{Call, admit, evaluate, quote, move, read, open_evening, receive, admitted}
use Rattle.paper_desk.specs.Desk.{evaluate_checks}
use Rattle.paper_desk.specs.External.{notice}
use Rattle.paper_desk.specs.PinnedSequence.{answers as deskAnswers, slots}
use Rattle.paper_interest.specs.InterestCases.{answered as interestAnswered}
use Rattle.paper_bonds.specs.BondCases.{answered as bondAnswered}
use Rattle.paper_reasons.specs.Faults.{is_same, faults_of, fault_of}
use Rattle.paper_reasons.specs.AdmissionFaults.{fields_at_fault, field_at_fault}
use Rattle.paper_reasons.specs.Why.{why_of, why_on}
use Rattle.paper_messages.specs.Fields.{statics_message_kind, kind_word}
use Rattle.paper_messages.specs.Messages.{encode}
use Rattle.paper_messages.specs.Records.{message}
use Rattle.text_bytes.specs.Bytes.{bytes}
use Rattle.text_protocol.specs.LineCases.{z_text}
use Rattle.text_protocol.specs.Kept.{no_pair, kept_after}
use Rattle.text_protocol.specs.CallCases.{deed_by}
use Rattle.text_protocol.specs.Answers.{interest_text, interest_numbers, maturities_numbers, maturity_numbers, bond_text}
use Rattle.text_protocol.specs.AnswerCases.{call_texts}
use Rattle.text_protocol.specs.Reasons.{fault_words, field_words, spelled, words_text, why_text, field_text}
use Rattle.text_evening.specs.declared.Telling.{Telling}
use Rattle.text_evening.specs.declared.Telling.TheVariants.{Answers, Reasons, Messages}
use Rattle.paper_messages.specs.PinnedBroadcast.{bytes_sent}
use Rattle.paper_messages.specs.Broadcast.{reasons_before}
use Rattle.paper_streams.specs.Streams.{whole_stream}
use Rattle.text_evening.specs.Evening.{table_after, kept_by, reason_to, messages_told, call_told, worded, text_of}
use Rattle.text_evening.specs.Evening.{number_after, after, answer, start_evening, after_all, answers}
use Rattle.text_evening.specs.Evening.{call_messages, messages_by, line_messages, all_messages}
use Rattle.text_evening.specs.Streamed.{stream_of}

-- ---- an evening

-- no call; the admission of document 01's Z; a blank line and a heading; an evaluation of an id that was not admitted;
-- an interest line and a bond line; no call; an admission whose P1 is off the grid
unfoldable pub lines : List (List ℕ)
lines =
    bytes "hello"
    ∷ (bytes "admit 7 3 1000000 1000000 20000 600" ++ z_text "1")
    ∷ []
    ∷ bytes "# 8 is a new share"
    ∷ bytes "evaluate 8 4 0 0 0 0 0 0 0 0 0 0 0"
    ∷ bytes
    "interest 0 0 1 1000 500 200 50 2 20 300 100 200 940 710 1 800 650 700 810 40 150 1 3 803 652 700 1150 40 150 1"
    ∷ bytes "bond 0 9850 0 0 0 0 0 0 0 0 0 0 0 0 0 0 0 100 300 5 2 5 8 50 500 700 900 4000 200 250 250 1 1"
    ∷ bytes "read"
    ∷ (bytes "admit 9 3 1000005 1000000 20000 600" ++ z_text "1")
    ∷ []

-- an evening on one empty slot, as it is told. It opens every definition that lines are answered with, so that a table
-- opens this one alone
unfoldable pub told : Telling → List ℕ
unfolding lines z_text z_statics slots deskAnswers evaluate_checks interestAnswered bondAnswered is_same faults_of fault_of
    fields_at_fault field_at_fault field_words field_text why_of why_on deed_by call_texts interest_text interest_numbers maturities_numbers maturity_numbers bond_text fault_words spelled
    words_text why_text kept_after bytes_sent reasons_before table_after kept_by reason_to messages_told call_told worded text_of
    number_after after answer after_all answers
told telling = answers telling lines (start_evening (slots 1))

-- EACH LINE IN ITS TURN, AS ITS PROGRAM TELLS IT: a line that is no call by its number, counted from 1, blank ones and
-- headings too; an evaluation and an admission with its number, or with why; where messages are told, those of accepted
-- calls and nothing else
pub told_are : (told Answers ≡ bytes "bad 1\n0\n1\n0 710 940 150 61 150 2 300 200 151 76 200 0 300 450\n17\nbad 8\n4\n")
    × (told Reasons ≡ bytes "bad 1\n0\n1 none\n0 710 940 150 61 150 2 300 200 151 76 200 0 300 450\n17\nbad 8\n4 field 3\n")
    × (told (Messages 1) ≡ encode (message statics_message_kind (pos 7 ∷ z_statics)))
unfolding told
told_are = (refl, refl, refl)

-- from the line of a number on: the admission is line 2. Lines before it are performed and not told
pub told_from : (told (Messages 2) ≡ told (Messages 1)) × (told (Messages 3) ≡ [])
unfolding told
told_from = (refl, refl)

-- as one whole stream: of the admission alone, and of no message
unfoldable pub streamed : (from : ℕ) → List ℕ
unfolding told stream_of all_messages line_messages messages_by call_messages
streamed from = stream_of from lines (start_evening (slots 1))

pub streamed_are : (streamed 0 ≡ whole_stream (message statics_message_kind (pos 7 ∷ z_statics) ∷ []))
    × (streamed 3 ≡ whole_stream [])
unfolding streamed
streamed_are = (refl, refl)

-- what the evening leaves: the number of the line that comes next, the pair 0/1, and the admission's record
pub left_is : after_all lines (start_evening (slots 1))
    ≡ record {
      number = 10;
      kept =
          record {
            newest = record { ym = 0; yn = 1; worked = record { verdict = Done; lower = pos 710; upper = pos 940 } };
            middle = no_pair;
            oldest = no_pair;
          };
      table = admitted admission_z ∷ [];
    }
unfolding told admission_z given_with
left_is = refl

-- lines are counted up to the greatest number of 64 bits
pub numbers_are : map number_after (1 ∷ 18446744073709551614 ∷ 18446744073709551615 ∷ [])
    ≡ 2 ∷ 18446744073709551615 ∷ 18446744073709551615 ∷ []
unfolding number_after
numbers_are = refl

-- ---- a call

-- document 01's Z with small figures, which is admitted and not live
unfoldable pub small : Admission
unfolding z_numbers admission_from
small = admission_from (z_numbers but (p1_at, pos 30) but (p1_at + 1, pos 20) but (s_at, pos 15))

unfoldable pub calls : List Call
unfolding small
calls =
    admit small
    ∷ evaluate 8 (record { day = 4; b = 0; m = 0; terms = three (λ k. no_term) }) []
    ∷ quote 7 (record { second = 1; term = 0; bid = 1; ask = 2 })
    ∷ move 7 0
    ∷ read 7
    ∷ open_evening 7
    ∷ receive 7 (notice Withdrawal)
    ∷ []

-- what each call is told as where Z is admitted
unfoldable pub each_told : Telling → List (List ℕ)
unfolding told calls
each_told telling = map (λ (c : Call). call_told telling 1 c (admitted small ∷ [])) calls

unfoldable pub shown : List ℕ
shown =
    bytes "0 7 0 3 30 20 15 600 0 500 700 900"
    ++ bytes " 0 0 0 0 0 0 0 0 0 0 0 -1 -1 0 0 0 0 0 -1 -1 0 0 0 0 0 -1 -1 0 0 0 0 0 0 0\n"

-- already admitted, the evaluation, not live twice, the record, not live, the record
unfoldable pub in_words : (evaluation : List ℕ) → List (List ℕ)
in_words evaluation =
    bytes "2\n" ∷ evaluation ∷ bytes "10\n" ∷ bytes "10\n" ∷ shown ∷ bytes "10\n" ∷ shown ∷ []

pub each_told_lem : (each_told Answers ≡ in_words (bytes "1\n"))
    × (each_told Reasons ≡ in_words (bytes "1 none\n"))
    × (each_told (Messages 1) ≡ [] ∷ [] ∷ [] ∷ [] ∷ [] ∷ [] ∷ [] ∷ [])
unfolding each_told in_words shown
each_told_lem = (refl, refl, refl)

-- ---- a member's words

-- the word of each kind of message (W-212, docs/BROADCAST.md), and of the kinds 0 and 9, which are unknown
pub words_are : map kind_word (0 ∷ 1 ∷ 2 ∷ 3 ∷ 4 ∷ 5 ∷ 6 ∷ 7 ∷ 8 ∷ 9 ∷ [])
    ≡ [] ∷ bytes "statics" ∷ bytes "rates" ∷ bytes "bands" ∷ bytes "move" ∷ bytes "reasons" ∷ bytes "begin"
    ∷ bytes "end" ∷ bytes "session" ∷ [] ∷ []
unfolding kind_word bytes
words_are = refl
