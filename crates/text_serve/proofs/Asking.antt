-- What a line asks for is asked of the desk at the place that is guessed: what is known of its slot there holds (`sure`),
-- so that what the desk says is what it says of the id (`performed`), and the row of notes stays sound (`kept`).
use mathlib.Core.Path.{◌≡◌, sym, ◌∙◌, ap, subst}
use mathlib.Core.Bool.{Bool, true}
use mathlib.Core.List.{List}
use Prim.Native.Nat.{ℕ, ◌+◌, ◌-◌}
use lib.Dec.{eqb}
use lib.IntN.{ℤ}
use lib.ListN.{get_or, set}
use Rattle.paper.specs.declared.Record.{Record}
use Rattle.record_answers.specs.Effects.{is_known}
use Rattle.record_calls.specs.Good.{is_good}
use Rattle.desk.specs.Guesses.{slot_at, good_at, First, place_near}
use Rattle.text_protocol.specs.declared.Ask.{Ask}
use Rattle.text_protocol.specs.declared.Performed.{Performed}
use Rattle.text_ask.specs.WithReasons.{id_asked, Asks, AsksAt}
use Rattle.text_ask.proofs.AtPlace.{asked_there}
use Rattle.text_serve.specs.Places.{entry_of, note_of, Noted, Sound}
use Rattle.text_serve.proofs.Noted.{noted_first, judged_good, good_known, noted_sound}

module _ (t : List Record) (ps : List ℕ) (a : Ask) (noted at : ℕ) (known good : Bool) (sound : Sound t ps)
    (is_noted : noted ≡ get_or ps (entry_of (id_asked a)) 0) (is_near : at ≡ place_near t (noted - 1) (id_asked a))
    (is_guessed : known ≡ eqb noted (at + 1)) (is_judged : good ≡ good_at t at known) where
  note_holds : Noted t noted
  note_holds = subst (λ (n : ℕ). Noted t n) (sym is_noted) (sound (entry_of (id_asked a)))

  first : First t (noted - 1)
  first = noted_first t noted note_holds

  judged : good ≡ is_good (slot_at t at)
  judged = is_judged ∙ ap (good_at t at) is_guessed ∙ judged_good t noted at note_holds

  pub sure : good ≡ true → is_known (slot_at t at) ≡ true
  sure e = good_known (slot_at t at) (sym judged ∙ e)

  pub performed : (asked : Bool) (rows : List ℤ) (r : Performed) (u : List Record) → AsksAt at asked a rows t r u
      → Asks asked a rows t r u
  performed asked rows r u done =
      asked_there asked a rows t r u (noted - 1) first
      (subst (λ (j : ℕ). AsksAt j asked a rows t r u) is_near done)

  pub kept : (asked : Bool) (rows : List ℤ) (r : Performed) (u : List Record) → AsksAt at asked a rows t r u
      → Sound u (set ps (entry_of (id_asked a)) (note_of at good))
  kept asked rows r u done =
      subst (λ (j : ℕ). Sound u (set ps (entry_of (id_asked a)) (note_of j good))) (sym is_near)
      (noted_sound asked a rows t r u ps (entry_of (id_asked a)) (noted - 1) good sound first
      (subst (λ (j : ℕ). good ≡ is_good (slot_at t j)) is_near judged) (performed asked rows r u done))
