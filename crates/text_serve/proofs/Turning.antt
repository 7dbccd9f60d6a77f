-- The two halves of a turn and the call between them are one turn.
use mathlib.Core.Path.{◌≡◌, refl, ap, subst, ◌∙◌}
use mathlib.Core.Bool.{Bool}
use mathlib.Core.List.{List, ◌++◌}
use Prim.Native.Nat.{ℕ}
use lib.IntN.{ℤ}
use lib.ListN.{length, drop}
use Rattle.paper.specs.declared.Record.{Record}
use Rattle.text_protocol.specs.declared.Ask.{Ask}
use Rattle.text_protocol.specs.declared.Ask.TheVariants as ask
use Rattle.text_protocol.specs.declared.Performed.{Performed}
use Rattle.text_protocol.specs.Calls.{Deed, figures_behind, deed_of, deed_asked}
use Rattle.text_protocol.specs.Line.{meaning}
use Rattle.text_protocol.specs.Names.{evaluate_count, evaluate_names}
use Rattle.text_evening.specs.Evening.{table_after, number_after, after, answer, line_messages}
use Rattle.text_evening.specs.Streamed.{stream_on}
use Rattle.text_deed.specs.Deeds.{line_text, line_count}
use Rattle.text_evidence.specs.declared.Written.{Written}
use Rattle.text_turn.specs.declared.State.{State}
use Rattle.text_turn.specs.declared.Prepared.{Prepared}
use Rattle.text_turn.specs.Turn.{Prepares}
use Rattle.text_turn.specs.Tells.{waiting, Goes, Tells}
use Rattle.text_ask.specs.WithReasons.{Asks}
use Rattle.text_serve.specs.Serve.{evening_of, Turns}
use Rattle.text_serve.proofs.Saying.{told_as, counted_as}

-- the rows are those behind the named numbers of an evaluation
rows_behind : (zs : List ℤ) → drop evaluate_count zs ≡ figures_behind evaluate_names zs
unfolding figures_behind evaluate_names
rows_behind zs = refl

-- ---- the table: only a call of the desk changes it

table_of : (asked : Bool) (a : Ask) (zs : List ℤ) (p : Performed) (t t' : List Record)
    → Asks asked a (figures_behind evaluate_names zs) t p t' → t' ≡ table_after (deed_asked a zs) t
unfolding Asks deed_asked table_after
table_of asked ask.Nothing zs p t t' h = h
table_of asked ask.NoCall zs p t t' h = h
table_of asked (ask.Call c) zs p t t' h = h.promised.table
table_of asked (ask.Interest i) zs p t t' h = h
table_of asked (ask.Bond b) zs p t t' h = h

-- ---- the turn

module _ (t t' : List Record) {b : List ℕ} {s : State} {b' : List ℕ} {p : Prepared} {xs rows : List ℤ} {a : Performed}
    {o o' : List ℕ} {r : State} (heard : Prepares b s b' p xs) (are : rows ≡ drop evaluate_count xs)
    (done : Asks p.asked p.ask rows t a t')
    (told : Tells o p a o' r) where
  abbrev deed : Deed
  deed = deed_of s.kept (meaning heard.line)

  performed : Asks p.asked p.ask (figures_behind evaluate_names xs) t a t'
  performed = subst (λ (fs : List ℤ). Asks p.asked p.ask fs t a t') (are ∙ rows_behind xs) done

  evening_is : evening_of r t' ≡ after heard.line (evening_of s t)
  unfolding after
  evening_is =
      let number : r.number ≡ number_after s.number = told.number ∙ ap number_after heard.number in
      let kept = told.kept ∙ heard.kept in
      let table : t' ≡ table_after deed t =
      table_of p.asked p.ask xs a t t' performed ∙ ap (λ (d : Deed). table_after d t) heard.asks in
      λ i. record { number = number i; kept = kept i; table = table i }

  text_is : line_text p.state.telling p.ask p.state.number p.beside a
      ≡ answer s.telling heard.line (evening_of s t)
  unfolding answer
  text_is =
      rw (heard.telling, heard.number, ← heard.asks)
      (told_as s.telling s.number p.ask xs p.beside a t t' (rw heard.asks heard.beside)
      (rw heard.asked at performed))

  -- how many messages they are
  count_is : line_count p.state.telling p.ask p.state.number a.answer.verdict
      ≡ length (line_messages s.telling heard.line (evening_of s t))
  unfolding line_messages
  count_is =
      rw (heard.telling, heard.number, ← heard.asks)
      (counted_as s.telling s.number p.ask xs a t t' (rw heard.asked at performed))

  stream_is : r.stream
      ≡ stream_on s.telling s.stream (length (line_messages s.telling heard.line (evening_of s t)))
      (answer s.telling heard.line (evening_of s t))
  stream_is = told.stream ∙ rw (count_is, text_is, heard.telling, heard.stream)

  -- the answer stands behind those that wait
  wrote_as : o' ≡ waiting s o ++ answer s.telling heard.line (evening_of s t)
  wrote_as = told.wrote ∙ rw (heard.waits, text_is)

  goes_as : Goes p.state.input s.told o' r
  goes_as = subst (λ (w : Written). Goes p.state.input w o' r) heard.told told.goes

  -- A LINE THAT IS HEARD, PERFORMED AND ANSWERED IS ONE TURN
  pub turned : Turns b s t o b' r t' o'
  turned =
      record {
        line = heard.line;
        behind = p.state.input;
        next = heard.next;
        evening = evening_is;
        wrote = wrote_as;
        most = rw heard.waits at told.most;
        goes = goes_as;
        telling = told.telling ∙ heard.telling;
        stream = stream_is;
        room = told.room;
        prompt = told.prompt;
        last = told.last;
      }
