-- docs/BROADCAST.md, "What `listen` prints", by examples: what is heard, and inputs of messages, each beside the lines
-- that are printed of it, byte for byte. The figures are small, since the text of a number is computed in as many steps
-- as the number says.
use Rattle.std.specs.Prelude.{◌≡◌, refl, Bool, true, false, List, [], ◌∷◌, ◌++◌, map, ℕ, zero, suc, ◌-◌, ℤ, pos, negsuc, replicate, take, set}
use Prim.Native.String.{String}
use Rattle.paper.specs.declared.Verdict.TheVariants.{Done}
use Rattle.paper.specs.Ranges.{unsigned}
use Rattle.paper.specs.Verdicts.{is_done, first_of}
use Rattle.sums.specs.Sums.{divided, bits_of, after_bits, after_bytes, sum_on, sum_of}
use Rattle.paper_messages.specs.declared.ReaderAnswer.{ReaderAnswer}
use Rattle.paper_messages.specs.Bytes.{spelled, complement, signed_of}
use Rattle.paper_messages.specs.Fields.{fields_of, filled, places_of, kind_word}
use Rattle.paper_messages.specs.Fields.{places}
use Rattle.paper_messages.specs.Messages.{total, length_of, is_known_kind, in_ranges, valid, values_at, message_at, no_message}
use Rattle.paper_messages.specs.Messages.{read_checks, accepted_heard, heard_at}
use Rattle.paper_streams.specs.Streams.{no_stream, end_fits_of, number_in, stream_after}
use Rattle.paper_streams.specs.PinnedStreams.{begin_bytes, reasons_bytes, session_bytes, come}
use Rattle.text_bytes.specs.Bytes.{line_feed, bytes}
use Rattle.text_bytes.specs.Numbers.{spelt, decimal, signed, next, spaced}
use Rattle.listen_lines.specs.Lines.{word_line, fields_in, numbers_in, line_of, unended_line}
use Rattle.listen_serve.specs.Listen.{listen_from, listen_text}
use Rattle.listen_serve.specs.OldForm.{old_form_from, is_old_form}

-- lines, each ended
unfoldable pub ended : List String → List ℕ
ended [] = []
ended (line ∷ lines) = bytes line ++ line_feed ∷ ended lines

-- ---- the line of what is heard

-- so many numbers, counted from one on
abbrev pub counted : (from count : ℕ) → List ℕ
counted from zero = []
counted from (suc count) = from ∷ counted (suc from) count

-- a message whose fields count up, the second below zero
unfoldable pub counting : (kind : ℕ) → ReaderAnswer
counting kind =
    record {
      verdict = Done;
      known = true;
      kind = kind;
      length = 200;
      next = 300;
      message = record {
        kind = kind;
        fields = pos 1 ∷ negsuc 1 ∷ map pos (counted 3 (places - 2));
      };
    }

-- an unknown kind
unfoldable pub skipped : ReaderAnswer
skipped = record { verdict = Done; known = false; kind = 90; length = 20; next = 30; message = no_message }

-- an `end` of two messages and a sum
unfoldable pub end_heard : (sum : ℤ) → ReaderAnswer
end_heard sum =
    record {
      verdict = Done;
      known = true;
      kind = 7;
      length = 14;
      next = 26;
      message = record { kind = 7; fields = pos 2 ∷ sum ∷ replicate (places - 2) (pos 0) };
    }

-- each kind has its word and all of its fields in order; an unknown one its kind and length, a refusal its number and
-- the place
pub lines_heard : (line_of 8 0 (counting 1)
    ≡ bytes "statics 1 -2" ++ spaced (map pos (counted 3 (places - 2))) ++ line_feed ∷ [])
    × (line_of 8 0 (counting 2) ≡ ended ("rates 1 -2 3 4 5 6 7 8 9 10 11 12 13 14 15" ∷ []))
    × (line_of 8 0 (counting 3) ≡ ended ("bands 1 -2 3 4 5 6 7 8 9 10 11 12 13 14 15 16 17" ∷ []))
    × (line_of 8 0 (counting 4) ≡ ended ("move 1 -2 3 4 5 6 7 8 9" ∷ []))
    × (line_of 8 0 (counting 5) ≡ ended ("reasons 1 -2 3 4 5 6 7 8 9" ∷ []))
    × (line_of 8 0 (counting 6) ≡ ended ("begin 1" ∷ []))
    × (line_of 8 0 (end_heard (pos 12)) ≡ ended ("end 2 12" ∷ []))
    × (line_of 8 0 (counting 8) ≡ ended ("session 1 -2" ∷ []))
    × (line_of 8 0 skipped ≡ ended ("unknown 90 20" ∷ []))
    × (line_of 8 21 skipped ≡ ended ("refused 21 8" ∷ []))
    × (line_of 8 25 (end_heard (pos 12)) ≡ ended ("refused 25 8" ∷ []))
unfolding counting end_heard skipped ended bytes line_of word_line kind_word numbers_in fields_in spaced next signed decimal
    spelt fields_of unsigned complement
lines_heard = (refl, refl, refl, refl, refl, refl, refl, refl, refl, refl, refl)

-- the sum of an `end` is told without a sign: the greatest is FFFFFFFF
pub sums_told : (numbers_in (end_heard (pos 12)).message ≡ pos 2 ∷ pos 12 ∷ [])
    × (numbers_in (end_heard (negsuc 0)).message ≡ pos 2 ∷ pos 4294967295 ∷ [])
    × (numbers_in (end_heard (negsuc 2147483647)).message ≡ pos 2 ∷ pos 2147483648 ∷ [])
unfolding end_heard numbers_in fields_in fields_of unsigned complement
sums_told = (refl, refl, refl)

-- how many messages came of a stream that has no end; and no line where none began
pub unended_told : (unended_line (come 3 12) ≡ ended ("unended 3" ∷ [])) × (unended_line no_stream ≡ [])
unfolding ended bytes unended_line word_line spaced next signed decimal spelt
unended_told = (refl, refl)

-- ---- the lines of an input

-- a message of the unknown kind 9, without a field
abbrev pub unknown_bytes : List ℕ
unknown_bytes = 2 ∷ 0 ∷ 0 ∷ 0 ∷ 9 ∷ 0 ∷ []

-- a move of the lower side
unfoldable pub move_bytes : (id : ℕ) → List ℕ
move_bytes id =
    62 ∷ 0 ∷ 0 ∷ 0 ∷ 4 ∷ 0 ∷ id ∷ 0 ∷ 0 ∷ 0 ∷ 1 ∷ 0 ∷ 0 ∷ 0 ∷ 3 ∷ 0 ∷ 0 ∷ 0
    ∷ (limit 13 ++ limit 12 ++ limit 11 ++ limit 23 ++ limit 22 ++ limit 21)
  where
    limit : ℕ → List ℕ
    limit n = n ∷ replicate 7 0

-- a message of the unknown kind 9, with four bytes that make the sum of `begin` and it a small number, 12
abbrev pub steering_bytes : List ℕ
steering_bytes = 6 ∷ 0 ∷ 0 ∷ 0 ∷ 9 ∷ 0 ∷ 109 ∷ 134 ∷ 140 ∷ 99 ∷ []

abbrev pub end_bytes : (count sum : ℕ) → List ℕ
end_bytes count sum = 14 ∷ 0 ∷ 0 ∷ 0 ∷ 7 ∷ 0 ∷ count ∷ 0 ∷ 0 ∷ 0 ∷ 0 ∷ 0 ∷ 0 ∷ 0 ∷ sum ∷ 0 ∷ 0 ∷ 0 ∷ []

-- a whole stream, up to its `end` and with it
unfoldable pub open_bytes : List ℕ
unfolding begin_bytes
open_bytes = begin_bytes ++ steering_bytes

unfoldable pub whole_bytes : List ℕ
unfolding open_bytes
whole_bytes = open_bytes ++ end_bytes 2 12

-- what is told of an input. It opens every definition that it is made with, so that a table opens this one alone
unfoldable pub told : List ℕ → List ℕ
unfolding listen_text listen_from line_of unended_line word_line kind_word numbers_in fields_in spaced next signed decimal spelt
    number_in end_fits_of stream_after heard_at accepted_heard read_checks first_of is_done is_known_kind valid in_ranges
    message_at values_at spelled signed_of complement unsigned length_of total places_of fields_of filled sum_of sum_on
    after_bytes after_bits bits_of divided
told input = listen_text input

-- THE OLD FORM, neither `begin` nor `end`: none at the end of the input; an unknown kind is skipped; a message cut
-- short is said at its first byte; nothing is heard behind a refusal
pub old_form_told : (told [] ≡ [])
    × (told unknown_bytes ≡ ended ("unknown 9 2" ∷ []))
    × (told (unknown_bytes ++ 3 ∷ []) ≡ ended ("unknown 9 2" ∷ "refused 21 6" ∷ []))
    × (told (3 ∷ 0 ∷ 0 ∷ 0 ∷ 200 ∷ 0 ∷ 7 ∷ unknown_bytes) ≡ ended ("unknown 200 3" ∷ "unknown 9 2" ∷ []))
    × (told (move_bytes 7 ++ move_bytes 0 ++ unknown_bytes)
    ≡ ended ("move 7 1 3 13 12 11 23 22 21" ∷ "refused 23 66" ∷ []))
    × (told (1 ∷ 0 ∷ 0 ∷ 0 ∷ unknown_bytes) ≡ ended ("refused 22 0" ∷ []))
unfolding move_bytes ended bytes told
old_form_told = (refl, refl, refl, refl, refl, refl)

-- the old form has neither `begin` nor `end`, wherever they stand before a refusal
unfoldable pub old_form : List ℕ → Bool
unfolding is_old_form old_form_from heard_at accepted_heard read_checks first_of is_done is_known_kind valid in_ranges
    message_at values_at spelled signed_of length_of total places_of fields_of filled
old_form input = is_old_form input

pub old_forms_are : (old_form [] ≡ true)
    × (old_form (unknown_bytes ++ move_bytes 7 ++ unknown_bytes) ≡ true)
    × (old_form (unknown_bytes ++ 3 ∷ []) ≡ true)
    × (old_form (unknown_bytes ++ begin_bytes) ≡ false)
    × (old_form (unknown_bytes ++ end_bytes 0 0) ≡ false)
unfolding old_form move_bytes begin_bytes
old_forms_are = (refl, refl, refl, refl, refl)

-- WHOLE STREAMS: one; two, one behind the other; and messages of the old form before and behind it
pub whole_told : (told whole_bytes ≡ ended ("begin 1" ∷ "unknown 9 6" ∷ "end 2 12" ∷ []))
    × (told (whole_bytes ++ whole_bytes)
    ≡ ended ("begin 1" ∷ "unknown 9 6" ∷ "end 2 12" ∷ "begin 1" ∷ "unknown 9 6" ∷ "end 2 12" ∷ []))
    × (told (unknown_bytes ++ whole_bytes ++ unknown_bytes)
    ≡ ended ("unknown 9 2" ∷ "begin 1" ∷ "unknown 9 6" ∷ "end 2 12" ∷ "unknown 9 2" ∷ []))
unfolding whole_bytes open_bytes begin_bytes ended bytes told
whole_told = (refl, refl, refl)

-- NO END: the input ends within a stream, or another `begin` stands there. The messages are counted with `begin`
pub unended_streams_told : (told begin_bytes ≡ ended ("begin 1" ∷ "unended 1" ∷ []))
    × (told (begin_bytes ++ reasons_bytes ++ session_bytes)
    ≡ ended ("begin 1" ∷ "reasons 7 4 1 2 1 1 1 2 3" ∷ "session 7 4" ∷ "unended 3" ∷ []))
    × (told (open_bytes ++ whole_bytes)
    ≡ ended ("begin 1" ∷ "unknown 9 6" ∷ "unended 2" ∷ "begin 1" ∷ "unknown 9 6" ∷ "end 2 12" ∷ []))
    × (told (whole_bytes ++ begin_bytes)
    ≡ ended ("begin 1" ∷ "unknown 9 6" ∷ "end 2 12" ∷ "begin 1" ∷ "unended 1" ∷ []))
unfolding whole_bytes open_bytes begin_bytes reasons_bytes session_bytes ended bytes told
unended_streams_told = (refl, refl, refl, refl)

-- REFUSED WITHIN A STREAM: an `end` with another count, with another sum, with no `begin` before it, or behind the
-- `end`; 21, 22 and 23 come before 25. Nothing is told behind a refusal, and no `unended`
pub refused_told : (told (open_bytes ++ end_bytes 3 12) ≡ ended ("begin 1" ∷ "unknown 9 6" ∷ "refused 25 20" ∷ []))
    × (told (open_bytes ++ end_bytes 2 13) ≡ ended ("begin 1" ∷ "unknown 9 6" ∷ "refused 25 20" ∷ []))
    × (told (steering_bytes ++ end_bytes 2 12) ≡ ended ("unknown 9 6" ∷ "refused 25 10" ∷ []))
    × (told (end_bytes 0 0 ++ whole_bytes) ≡ ended ("refused 25 0" ∷ []))
    × (told (whole_bytes ++ end_bytes 2 12) ≡ ended ("begin 1" ∷ "unknown 9 6" ∷ "end 2 12" ∷ "refused 25 38" ∷ []))
    × (told (take 17 (end_bytes 2 12)) ≡ ended ("refused 21 0" ∷ []))
    × (told (set (end_bytes 2 12) 0 13) ≡ ended ("refused 22 0" ∷ []))
    × (told (set (end_bytes 2 12) 13 128) ≡ ended ("refused 23 0" ∷ []))
    × (told (set begin_bytes 6 2) ≡ ended ("refused 23 0" ∷ []))
    × (told (begin_bytes ++ 3 ∷ []) ≡ ended ("begin 1" ∷ "refused 21 10" ∷ []))
unfolding whole_bytes open_bytes begin_bytes ended bytes told
refused_told = (refl, refl, refl, refl, refl, refl, refl, refl, refl, refl)
