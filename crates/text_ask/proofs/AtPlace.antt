-- What the desk says at the place that a sound guess gives is what it says of the id (`asked_there`), and whatever a line
-- asks for leaves a sound guess sound (`asked_keeps`).
use mathlib.Core.Path.{sym, subst}
use mathlib.Core.Bool.{Bool}
use mathlib.Core.List.{List}
use Prim.Native.Nat.{ℕ}
use lib.IntN.{ℤ}
use Rattle.paper.specs.declared.Record.{Record}
use Rattle.paper_desk.specs.Desk.{ask_of}
use Rattle.desk.specs.Guesses.{First, place_near}
use Rattle.desk.proofs.First.{near_promised, first_kept}
use Rattle.text_protocol.specs.declared.AskedCall.TheVariants as call
use Rattle.text_protocol.specs.declared.Ask.{Ask}
use Rattle.text_protocol.specs.declared.Ask.TheVariants as ask
use Rattle.text_protocol.specs.declared.Performed.{Performed}
use Rattle.text_protocol.specs.Calls.{call_asked}
use Rattle.text_ask.specs.WithReasons.{id_asked, DoneOf, Asks, AsksAt}

pub asked_there : (asked : Bool) (a : Ask) (rows : List ℤ) (t : List Record) (r : Performed) (t' : List Record)
    (guess : ℕ) → First t guess → AsksAt (place_near t guess (id_asked a)) asked a rows t r t'
    → Asks asked a rows t r t'
unfolding Asks AsksAt DoneOf call_asked
asked_there asked ask.Nothing rows t r t' guess first h = h
asked_there asked ask.NoCall rows t r t' guess first h = h
asked_there asked (ask.Call (call.Admit a)) rows t r t' guess first h =
    record { promised = h.promised; why = h.why }
asked_there asked (ask.Call (call.About id x)) rows t r t' guess first h =
    record {
      promised = near_promised t t' guess id (ask_of x rows) r.answer first h.promised;
      why = h.why;
    }
asked_there asked (ask.Interest i) rows t r t' guess first h = h
asked_there asked (ask.Bond b) rows t r t' guess first h = h

pub asked_keeps : (asked : Bool) (a : Ask) (rows : List ℤ) (t : List Record) (r : Performed) (t' : List Record)
    (i : ℕ) → Asks asked a rows t r t' → First t i → First t' i
unfolding Asks
asked_keeps asked ask.Nothing rows t r t' i h first = subst (λ (u : List Record). First u i) (sym h) first
asked_keeps asked ask.NoCall rows t r t' i h first = subst (λ (u : List Record). First u i) (sym h) first
asked_keeps asked (ask.Call c) rows t r t' i h first =
    subst (λ (u : List Record). First u i) (sym h.promised.table) (first_kept (call_asked c rows) t i first)
asked_keeps asked (ask.Interest d) rows t r t' i h first = subst (λ (u : List Record). First u i) (sym h) first
asked_keeps asked (ask.Bond b) rows t r t' i h first = subst (λ (u : List Record). First u i) (sym h) first
