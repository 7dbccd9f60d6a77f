-- `desk::place_near` meets its contract, test by test: of the id 0 there is no place, a guess that has the id is taken,
-- and for another the place is searched.
use mathlib.Core.Path.{◌≡◌, ap, sym, ◌∙◌, subst}
use mathlib.Core.Bool.{Bool, true, false, not}
use lib.Dec.{T}
use borrow.Author.Tests.{eq-eqb, ne_eqb}
use Rattle.record_answers.specs.declared.Slot.{Slot}
use Rattle.desk.specs.Guesses.{is_of}
use Rattle.desk.proofs.Guesses.{guess_none, guess_taken, guess_left}
use Rattle.desk.proofs.place_near.Goals as goal

passes : (b : Bool) → b ≡ true → T b
passes b e = subst T (sym e) tt

fails : (b : Bool) → b ≡ false → T (not b)
fails b e = subst (λ (x : Bool). T (not x)) (sym e) tt

pub returns-then-id-eq-EMPTY : goal.returns-then-id-eq-EMPTY
returns-then-id-eq-EMPTY c =
    guess_none c.args.t.now c.args.guess c.args.id (passes _ (eq-eqb c.args.id 0 c.if-id-eq-EMPTY.true))

pub returns-then-is_of : goal.returns-then-is_of
returns-then-is_of c =
    let has = ap (λ (s : Slot). is_of s c.args.id) (sym c.take_at.ensures) ∙ sym c.is_of.ensures ∙ c.if-is_of.true in
    guess_taken c.args.t.now c.args.guess c.args.id (fails _ (ne_eqb c.args.id 0 c.if-id-eq-EMPTY.false)) (passes _ has)

pub returns : goal.returns
returns c =
    let has = ap (λ (s : Slot). is_of s c.args.id) (sym c.take_at.ensures) ∙ sym c.is_of.ensures ∙ c.if-is_of.false in
    c.place_of.ensures
    ∙ guess_left c.args.t.now c.args.guess c.args.id (fails _ (ne_eqb c.args.id 0 c.if-id-eq-EMPTY.false)) (fails _ has)
