-- The tie to the running programs: where `text_serve::serve` was lent the table that `text_serve::fresh` makes, the last
-- write took all and fewer lines were served than a run has at most, all of EveningHolds holds of the bytes that `read`
-- delivered and of the table at the end, and what was handed to `write` is all that is told of their lines.
use mathlib.Core.Path.{◌≡◌, ◌∙◌, sym, ap, subst}
use mathlib.Core.Bool.{true}
use mathlib.Core.List.{List, [], ◌∷◌, ◌++◌}
use Prim.Native.Nat.{ℕ, suc, ◌<◌}
use lib.ListN.{length, replicate}
use Rattle.paper.specs.declared.Record.{Record}
use Rattle.paper.specs.Numbers.{slots_most}
use Rattle.paper_desk.specs.Desk.{blank}
use Rattle.sums.specs.Sums.{sum_of}
use Rattle.paper_messages.specs.declared.Message.{Message}
use Rattle.paper_messages.specs.Broadcast.{sent}
use Rattle.paper_messages.specs.Messages.{encode}
use Rattle.paper_messages.specs.Records.{past_signed}
use Rattle.paper_streams.specs.Streams.{begin_message, end_message, begun, is_whole, messages_in}
use Rattle.text_bytes.specs.Bytes.{lines}
use Rattle.text_evening.specs.declared.Telling.{Telling}
use Rattle.text_evening.specs.declared.Telling.TheVariants.{Messages}
use Rattle.text_evening.specs.Evening.{start_evening, after_all, answers, all_messages}
use Rattle.text_evening.specs.Streamed.{stream_of}
use Rattle.text_evidence.specs.Evidence.{took_all}
use Rattle.text_turn.specs.declared.State.{State}
use Rattle.text_serve.specs.Serve.{most_lines, Serves}
use Rattle.text_serve.specs.Laws.{served_table, served_told, served_stream}
use Rattle.demands_evening.specs.Holds.{own_table, table_behind, told_of, EveningHolds}
use Rattle.demands_evening.proofs.Holds.{evening_holds}
use Rattle.demands_evening.proofs.Streams.{stream_is_whole, stream_reads_back}

module _ {telling : Telling} {t : List Record} {r : State} {t' : List Record} (s : Serves telling t r t')
    (made : t ≡ replicate slots_most blank) (well : took_all r.told ≡ true) (few : length s.lines < most_lines) where
  table_at_end : t' ≡ table_behind (lines s.got)
  unfolding own_table
  table_at_end =
      served_table s well few ∙ ap (λ (u : List Record). (after_all (lines s.got) (start_evening u)).table) made

  -- OF A RUN OF A PROGRAM
  pub served_holds : EveningHolds s.got t'
  served_holds = rw table_at_end (evening_holds s.got)

  pub served_tells : s.told ≡ told_of telling (lines s.got)
  unfolding own_table
  served_tells =
      served_told s well few ∙ ap (λ (u : List Record). answers telling (lines s.got) (start_evening u)) made

-- OF A RUN OF `broadcast`: `begin`, what was handed to `write` and the `end` of the stream that the state carries are the
-- whole stream of the messages of these lines. It is heard as whole, and reads back to all of them
module _ {from : ℕ} {t : List Record} {r : State} {t' : List Record} (s : Serves (Messages from) t r t')
    (made : t ≡ replicate slots_most blank) (well : took_all r.told ≡ true) (few : length s.lines < most_lines)
    (short : suc (length (all_messages (Messages from) (lines s.got) (start_evening own_table))) < past_signed) where
  abbrev ms : List Message
  ms = all_messages (Messages from) (lines s.got) (start_evening own_table)

  -- all that was written
  abbrev written : List ℕ
  written = (encode begin_message ++ s.told) ++ sent (end_message r.stream.count r.stream.sum)

  pub served_streams : written ≡ stream_of from (lines s.got) (start_evening own_table)
  unfolding own_table
  served_streams =
      served_stream s well few
      (subst (λ (u : List Record). suc (length (all_messages (Messages from) (lines s.got) (start_evening u))) < past_signed)
      (sym made) short)
      ∙ ap (λ (u : List Record). stream_of from (lines s.got) (start_evening u)) made

  pub served_is_whole : is_whole written ≡ true
  served_is_whole = ap is_whole served_streams ∙ stream_is_whole from (lines s.got) short

  pub served_reads_back : messages_in written
      ≡ begin_message ∷ (ms ++ end_message (suc (length ms)) (sum_of (begun ms)) ∷ [])
  served_reads_back = ap messages_in served_streams ∙ stream_reads_back from (lines s.got) short
