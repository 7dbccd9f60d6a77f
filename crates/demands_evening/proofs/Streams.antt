-- The messages of an evening on a fresh table, from any line on: each is valid, has all of its places, and is neither
-- `begin` nor `end`. So the whole stream of them is heard as whole, and reads back to all of them.
use mathlib.Core.Path.{◌≡◌, refl, sym, subst}
use mathlib.Core.Bool.{Bool, true, false}
use mathlib.Core.List.{List, [], ◌∷◌, ◌++◌}
use Rattle.std.specs.declared.option.Option.{Option}
use Rattle.std.specs.declared.option.Option.TheVariants.{None, Some}
use Prim.Native.Nat.{ℕ, suc, ◌<◌}
use lib.Dec.{eqb, ltb}
use lib.IntN.{ℤ}
use lib.ListN.{length}
use Rattle.paper.specs.declared.Answer.{Answer}
use Rattle.paper.specs.declared.Day.{Day}
use Rattle.paper.specs.declared.Record.{Record}
use Rattle.paper.specs.declared.Side.{Side}
use Rattle.paper.specs.Lists.{pick, every}
use Rattle.paper.specs.Verdicts.{is_done}
use Rattle.paper.proofs.Logic.{and_left, and_right}
use Rattle.paper_desk.specs.Desk.{Ask, evaluating, quoting, moving, reading, opening, receiving}
use Rattle.paper_desk.specs.Desk.{Call, admit, about, rule_of, step}
use Rattle.paper_reasons.specs.declared.Reasons.{Reasons}
use Rattle.sums.specs.Sums.{sum_of}
use Rattle.paper_messages.specs.declared.Message.{Message}
use Rattle.paper_messages.specs.Broadcast.{reasons_before, of_evaluation, of_move, of_opening, messages_of, messages_to}
use Rattle.paper_messages.specs.Fields.{begin_message_kind, end_message_kind, places, filled}
use Rattle.paper_messages.specs.Messages.{valid}
use Rattle.paper_messages.specs.Records.{past_signed, message, statics_message, rates_message, bands_message, move_message}
use Rattle.paper_messages.specs.Records.{reasons_message, session_message}
use Rattle.paper_streams.specs.Streams.{begin_message, end_message, begun, is_whole, messages_in}
use Rattle.paper_streams.proofs.StreamLaws.{AllPlain, no_message_lem, and_plain, whole_is_heard, whole_reads_back}
use Rattle.text_protocol.specs.Calls.{Deed, nothing, no_call, call, interest, bond}
use Rattle.text_evening.specs.declared.Telling.TheVariants.{Messages}
use Rattle.text_evening.specs.Evening.{Evening, start_evening, messages_told, asked_by, call_messages, messages_by}
use Rattle.text_evening.specs.Evening.{after_all, line_messages, all_messages}
use Rattle.text_evening.specs.Streamed.{stream_of}
use Rattle.text_evening.proofs.OneMore.{after_one_more}
use Rattle.demands_evening.specs.Holds.{own_table, evening_behind, table_behind, calls_behind}
use Rattle.demands_evening.proofs.Tables.{own_table_fresh, table_made}
use Rattle.demands_evening.proofs.Whole.{sent_whole}

-- ---- the shape of a message

-- it has all of its places, and is neither `begin` nor `end`
record Shaped (m : Message) : Type 0 where
  full : length m.fields ≡ places
  no_begin : eqb m.kind begin_message_kind ≡ false
  no_end : eqb m.kind end_message_kind ≡ false

data AllShaped : List Message → Type 0 where
  none_shaped : AllShaped []
  and_shaped : {m : Message} {ms : List Message} → Shaped m → AllShaped ms → AllShaped (m ∷ ms)

both_shaped : {ms more : List Message} → AllShaped ms → AllShaped more → AllShaped (ms ++ more)
both_shaped none_shaped q = q
both_shaped (and_shaped s p) q = and_shaped s (both_shaped p q)

evaluation_shaped : (e : Option (Day × List ℤ)) (a : Answer) (y : Reasons) → AllShaped (of_evaluation e a y)
unfolding rates_message bands_message reasons_message message filled
evaluation_shaped None a y = none_shaped
evaluation_shaped (Some day) a y =
    and_shaped (record { full = refl; no_begin = refl; no_end = refl })
    (and_shaped (record { full = refl; no_begin = refl; no_end = refl })
    (and_shaped (record { full = refl; no_begin = refl; no_end = refl }) none_shaped))

move_shaped : (m : Option Side) (a : Answer) → AllShaped (of_move m a)
unfolding move_message message filled
move_shaped None a = none_shaped
move_shaped (Some side) a = and_shaped (record { full = refl; no_begin = refl; no_end = refl }) none_shaped

opening_shaped : (x : Ask) (a : Answer) → AllShaped (of_opening x a)
unfolding session_message message filled
opening_shaped (evaluating d rows) a = none_shaped
opening_shaped (quoting q) a = none_shaped
opening_shaped (moving side) a = none_shaped
opening_shaped reading a = none_shaped
opening_shaped opening a = and_shaped (record { full = refl; no_begin = refl; no_end = refl }) none_shaped
opening_shaped (receiving x) a = none_shaped

call_shaped : (c : Call) (a : Answer) (y : Reasons) → AllShaped (messages_of c a y)
unfolding messages_of statics_message message filled
call_shaped (admit g) a y = and_shaped (record { full = refl; no_begin = refl; no_end = refl }) none_shaped
call_shaped (about id x) a y =
    both_shaped (evaluation_shaped (rule_of x).evaluates a y)
    (both_shaped (move_shaped (rule_of x).moves a) (opening_shaped x a))

-- ---- the messages of lines

plain_of : (ms : List Message) → AllShaped ms → every valid ms ≡ true → AllPlain ms
unfolding every
plain_of [] none_shaped v = no_message_lem
plain_of (m ∷ ms) (and_shaped s p) v =
    and_plain
    (record {
      is_valid = and_left (valid m) (every valid ms) v;
      full = s.full;
      no_begin = s.no_begin;
      no_end = s.no_end;
    })
    (plain_of ms p (and_right (valid m) (every valid ms) v))

both_plain : {ms more : List Message} → AllPlain ms → AllPlain more → AllPlain (ms ++ more)
both_plain no_message_lem q = q
both_plain (and_plain s p) q = and_plain s (both_plain p q)

-- of a call behind lines
call_plain : (before : List (List ℕ)) (from n : ℕ) (c : Call) → AllPlain (messages_told from n c (table_behind before))
unfolding messages_told messages_to
call_plain before from n c = go (ltb n from) (is_done (step c t).answer.verdict) refl
  where
    t : List Record
    t = table_behind before

    go : (early done : Bool) → is_done (step c (table_behind before)).answer.verdict ≡ done
        → AllPlain (pick early []
        (pick done (messages_of c (step c (table_behind before)).answer (reasons_before c (table_behind before))) []))
    go true done e = no_message_lem
    go false false e = no_message_lem
    go false true e =
        plain_of _ (call_shaped c (step c (table_behind before)).answer (reasons_before c (table_behind before)))
        (subst (λ (u : List Record). is_done (step c u).answer.verdict ≡ true
        → every valid (messages_of c (step c u).answer (reasons_before c (table_behind before))) ≡ true)
        (sym (table_made before))
        (λ d. (sent_whole (calls_behind before) own_table own_table_fresh c).all_valid d (reasons_before c (table_behind before)))
        e)

line_plain : (before : List (List ℕ)) (from n : ℕ) (d : Deed) → AllPlain (messages_by (Messages from) n d (table_behind before))
unfolding messages_by call_messages
line_plain before from n nothing = no_message_lem
line_plain before from n no_call = no_message_lem
line_plain before from n (call c) = call_plain before from n c
line_plain before from n (interest i keys) = no_message_lem
line_plain before from n (bond b flows) = no_message_lem

lines_plain : (from : ℕ) (before ls : List (List ℕ)) → AllPlain (all_messages (Messages from) ls (evening_behind before))
unfolding all_messages line_messages
lines_plain from before [] = no_message_lem
lines_plain from before (l ∷ ls) =
    both_plain (line_plain before from (evening_behind before).number (asked_by l (evening_behind before)))
    (subst (λ (e : Evening). AllPlain (all_messages (Messages from) ls e))
    (after_one_more before l (start_evening own_table)) (lines_plain from (before ++ l ∷ []) ls))

-- WHAT `broadcast` WRITES OF AN EVENING ON A FRESH TABLE is heard as one whole stream, and reads back to its messages
module _ (from : ℕ) (ls : List (List ℕ))
    (few : suc (length (all_messages (Messages from) ls (start_evening own_table))) < past_signed) where
  abbrev ms : List Message
  ms = all_messages (Messages from) ls (start_evening own_table)

  plain : AllPlain ms
  unfolding after_all
  plain = lines_plain from [] ls

  pub stream_is_whole : is_whole (stream_of from ls (start_evening own_table)) ≡ true
  unfolding stream_of
  stream_is_whole = whole_is_heard ms plain few

  pub stream_reads_back : messages_in (stream_of from ls (start_evening own_table))
      ≡ begin_message ∷ (ms ++ end_message (suc (length ms)) (sum_of (begun ms)) ∷ [])
  unfolding stream_of
  stream_reads_back = whole_reads_back ms plain few
