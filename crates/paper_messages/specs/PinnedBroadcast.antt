-- docs/BROADCAST.md, "What `broadcast` writes", by examples: of each call the messages that it sends, and the bytes of
-- an accepted and of a refused one.
use Rattle.std.specs.Prelude.{◌≡◌, refl, List, [], ◌∷◌, ◌++◌, map, ℕ, ◌+◌, pos, negsuc, take}
use Rattle.std.proofs.lemmas.List.Edits.{sets}
use Rattle.paper.specs.declared.Admission.{Admission}
use Rattle.paper.specs.declared.Answer.{Answer}
use Rattle.paper.specs.declared.Record.{Record}
use Rattle.paper.specs.declared.Notice.TheVariants.{Withdrawal}
use Rattle.paper.specs.declared.Verdict.TheVariants.{Done, AlreadyAdmitted, OutOfRange, MovesUsedUp}
use Rattle.paper.specs.declared.Verdict.TheVariants.{OpenedTwice}
use Rattle.paper.specs.Lists.{three}
use Rattle.paper.specs.PinnedValues.{id_at, admission_from, record_from}
use Rattle.paper.specs.Ranges.{last_day, no_term, side_of, given_of, statics_of, unsigned, valid_given, valid_statics}
use Rattle.paper.specs.Verdicts.{is_done}
use Rattle.paper_desk.specs.Desk.{Call, admit, evaluate, quote, move, read, open_evening, receive, saying, showing}
use Rattle.paper_desk.specs.External.{notice}
use Rattle.paper_reasons.specs.declared.LevelReason.TheVariants.{Requirement, Minimum, Maximum}
use Rattle.paper_reasons.specs.declared.Reasons.{Reasons}
use Rattle.paper_messages.specs.declared.Message.{Message}
use Rattle.paper_messages.specs.Bytes.{bytes_of, complement}
use Rattle.paper_messages.specs.Fields.{fields_of, filled}
use Rattle.paper_messages.specs.Fields.{move_message_kind}
use Rattle.paper_messages.specs.Fields.{places_of}
use Rattle.paper_messages.specs.Messages.{body_of, total, length_of, encode, is_known_kind, in_ranges}
use Rattle.paper_messages.specs.Messages.{as_admission, length_width, valid}
use Rattle.paper_messages.specs.PinnedMessages.{statics_sent, statics_bytes, rates_bytes, bands_bytes}
use Rattle.paper_messages.specs.PinnedRecords.{sample_numbers, sample, some_reasons}
use Rattle.paper_messages.specs.Records.{value_of, message, statics_message, rates_message, bands_message}
use Rattle.paper_messages.specs.Records.{move_message, reasons_message, session_message}
use Rattle.paper_messages.specs.Broadcast.{messages_of, sent, message_most, all_sent, messages_to, broadcast_of}

-- ---- the calls

-- the admission that kind 1 of PinnedMessages tells
unfoldable pub admission : Admission
unfolding admission_from statics_sent
admission =
    admission_from
    (statics_sent
    -- id, day, p1, p2, s, tentative
    ++ (pos 7 ∷ pos 3 ∷ pos 1000000 ∷ pos 1000000 ∷ pos 20000 ∷ pos 600 ∷ []))

unfoldable pub evaluation : Call
evaluation = evaluate 7 (record { day = 4; b = 0; m = 0; terms = three (λ k. no_term) }) []

-- every call: an admission, an evaluation, a move of each side, and those that members get nothing of
unfoldable pub calls : List Call
calls =
    admit admission
    ∷ evaluation
    ∷ move 7 0
    ∷ move 7 1
    ∷ quote 7 (record { second = 1; term = 0; bid = 1; ask = 2 })
    ∷ read 7
    ∷ open_evening 7
    ∷ receive 7 (notice Withdrawal)
    ∷ []

-- ---- which messages a call sends

-- the reasons that an evaluation had
abbrev pub because : Reasons
because = some_reasons Requirement Minimum Maximum

-- the kinds, in their order: an evaluation sends 2, then 3, then 5
unfoldable pub kinds_of : Call → List ℕ
kinds_of c = map (λ (m : Message). m.kind) (messages_of c (showing sample) because)

pub kinds_sent : map kinds_of calls
    ≡ (1 ∷ []) ∷ (2 ∷ 3 ∷ 5 ∷ []) ∷ (4 ∷ []) ∷ (4 ∷ []) ∷ [] ∷ [] ∷ (8 ∷ []) ∷ [] ∷ []
unfolding calls kinds_of evaluation messages_of statics_message rates_message bands_message move_message reasons_message
    session_message message
kinds_sent = refl

-- a move is told of its own side, with that side's count and limits
pub moves_told : (messages_of (move 7 0) (showing sample) because
    ≡ message move_message_kind (pos 7 ∷ pos 0 ∷ pos 3 ∷ pos 61 ∷ pos 62 ∷ pos 63 ∷ pos 91 ∷ pos 92 ∷ pos 93 ∷ []) ∷ [])
    × (messages_of (move 7 1) (showing sample) because
    ≡ message move_message_kind (pos 7 ∷ pos 1 ∷ pos 4 ∷ pos 51 ∷ pos 52 ∷ pos 53 ∷ pos 81 ∷ pos 82 ∷ pos 83 ∷ []) ∷ [])
unfolding messages_of showing sample move_message message filled value_of side_of
moves_told = (refl, refl)

-- ---- the bytes

-- the bytes of a message of each kind, with those of its length; none is longer than the longest
pub lengths_are : map (λ (kind : ℕ). length_width + length_of kind) (1 ∷ 2 ∷ 3 ∷ 4 ∷ 5 ∷ 6 ∷ 7 ∷ 8 ∷ [])
    ≡ message_most ∷ 98 ∷ 98 ∷ 66 ∷ 21 ∷ 10 ∷ 18 ∷ 14 ∷ []
unfolding length_of total places_of fields_of filled
lengths_are = refl

-- a record whose messages PinnedMessages tells: rates and ranges as they stand there, the bands under another id and
-- day
unfoldable pub told : Record
unfolding sample_numbers record_from
told =
    record_from
    (take id_at sample_numbers
    -- id, day, p1, p2, s, tentative, that it is live, age
    ++ pos 7 ∷ pos 4 ∷ pos 1030000 ∷ pos 1000000 ∷ pos 21214 ∷ pos 700 ∷ pos 1 ∷ pos 0
    -- rates, ranges
    ∷ pos 800 ∷ pos 1200 ∷ pos 1500
    ∷ pos 947600 ∷ pos 1112400 ∷ pos 906400 ∷ pos 1153600 ∷ pos 875500 ∷ pos 1184500
    -- terms, bands
    ∷ pos 0 ∷ negsuc 0 ∷ pos 1 ∷ pos 1 ∷ negsuc 9998 ∷ pos 9999 ∷ pos 30 ∷ pos 0 ∷ pos 0
    ∷ pos 947600 ∷ pos 1112400 ∷ pos 0 ∷ pos 2020000000000 ∷ pos 65536 ∷ pos 16777216
    -- moves up and down
    ∷ pos 3 ∷ pos 4 ∷ [])

-- the bytes of a call's broadcast. It opens every definition that they are made with, so that a table opens this one
-- alone
unfoldable pub bytes_sent : Call → Answer → List ℕ
unfolding broadcast_of messages_to all_sent sent messages_of statics_message rates_message bands_message move_message
    reasons_message session_message some_reasons message value_of statics_of side_of last_day is_done encode body_of bytes_of complement length_of total places_of fields_of filled is_known_kind
    valid in_ranges as_admission given_of valid_given valid_statics unsigned admission statics_bytes rates_bytes bands_bytes
bytes_sent c a = broadcast_of c a because

-- the reasons, behind the id 7 and the day 4
unfoldable pub reasons_bytes : List ℕ
reasons_bytes =
    17 ∷ 0 ∷ 0 ∷ 0 ∷ 5 ∷ 0 ∷ 7 ∷ 0 ∷ 0 ∷ 0 ∷ 4 ∷ 0 ∷ 0 ∷ 0 ∷ 4 ∷ 3 ∷ 2 ∷ 1 ∷ 1 ∷ 2 ∷ 3 ∷ []

-- of an accepted call all of its messages one behind the other, of a refused one nothing. A message with a field out of
-- its range is left out: of the sample a term has 71 days
pub bytes_sent_lem : (bytes_sent (admit admission) (saying Done) ≡ statics_bytes)
    × (bytes_sent (admit admission) (saying AlreadyAdmitted) ≡ [])
    × (bytes_sent evaluation (showing told)
    ≡ rates_bytes ++ sets bands_bytes 6 (7 ∷ 0 ∷ 0 ∷ 0 ∷ 4 ∷ 0 ∷ 0 ∷ 0 ∷ []) ++ reasons_bytes)
    × (bytes_sent evaluation (showing sample) ≡ encode (rates_message sample) ++ encode (reasons_message sample because))
    × (bytes_sent evaluation (saying OutOfRange) ≡ [])
    × (bytes_sent (move 7 0) (showing sample)
    ≡ encode (message move_message_kind
    (pos 7 ∷ pos 0 ∷ pos 3 ∷ pos 61 ∷ pos 62 ∷ pos 63 ∷ pos 91 ∷ pos 92 ∷ pos 93 ∷ [])))
    × (bytes_sent (move 7 0) (saying MovesUsedUp) ≡ [])
    × (bytes_sent (read 7) (showing told) ≡ [])
    × (bytes_sent (open_evening 7) (showing told) ≡ 10 ∷ 0 ∷ 0 ∷ 0 ∷ 8 ∷ 0 ∷ 7 ∷ 0 ∷ 0 ∷ 0 ∷ 4 ∷ 0 ∷ 0 ∷ 0 ∷ [])
    × (bytes_sent (open_evening 7) (saying OpenedTwice) ≡ [])
unfolding bytes_sent evaluation told sample reasons_bytes saying showing
bytes_sent_lem = (refl, refl, refl, refl, refl, refl, refl, refl, refl, refl)
