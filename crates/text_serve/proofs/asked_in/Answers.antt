-- `text_serve::asked_in` meets its contract: the place is guessed by what is noted of the id, what is known of its slot
-- holds, and what is noted of it anew is sound (`Asking`).
use Rattle.std.proofs.Common.{ap, ap₂, sym, ◌∙◌, subst, List, get_or, set}
use lib.IntN.{ℤ}
use Rattle.desk.specs.Guesses.{place_near}
use Rattle.text_ask.specs.WithReasons.{Asks}
use Rattle.text_serve.specs.Places.{entry_of, Sound}
use Rattle.text_serve.proofs.Asking.{sure, performed, kept}
use Rattle.text_serve.proofs.asked_in.Goals as goal

pub ask-requires : goal.ask-requires
ask-requires c =
    let id = c.id_asked-id.ensures in
    sure c.args.t.now c.args.places.now c.args.a _ _ _ _ c.requires
    (c.guess_in-noted.ensures ∙ ap (λ i. get_or c.args.places.now (entry_of i) 0) id)
    (c.place_near-at.ensures ∙ ap₂ (place_near c.args.t.now) c.place_noted-guess.ensures id)
    c.is_noted-known.ensures c.good_at-good.ensures

pub returns : goal.returns
returns c =
    let id = c.id_asked-id.ensures in
    let noted = c.guess_in-noted.ensures ∙ ap (λ i. get_or c.args.places.now (entry_of i) 0) id in
    let near = c.place_near-at.ensures ∙ ap₂ (place_near c.args.t.now) c.place_noted-guess.ensures id in
    let note = c.note_in.ensures ∙ ap₂ (λ i n. set c.args.places.now (entry_of i) n) id c.note_of-note.ensures in (
      subst (λ (rows : List ℤ). Asks c.args.asked c.args.a rows c.args.t.now c.ask.result c.ask.new.t) c.rows_of.ensures
          (performed c.args.t.now c.args.places.now c.args.a _ _ _ _ c.requires noted near c.is_noted-known.ensures
          c.good_at-good.ensures c.args.asked _ _ _ c.ask.ensures),
      subst (Sound c.ask.new.t) (sym note)
          (kept c.args.t.now c.args.places.now c.args.a _ _ _ _ c.requires noted near c.is_noted-known.ensures
          c.good_at-good.ensures c.args.asked _ _ _ c.ask.ensures),
    )
