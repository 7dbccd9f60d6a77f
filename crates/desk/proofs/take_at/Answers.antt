-- `desk::take_at` meets its contract. A place before the end is a slot, which is copied out; past the end there is
-- none, which is what `absent` answers.
use mathlib.Core.Path.{◌≡◌, sym, ◌∙◌, subst}
use mathlib.Core.Bool.{Bool, not}
use mathlib.Core.List.{List}
use Prim.Native.Nat.{ℕ, ◌<◌}
use lib.Dec.{T}
use lib.ListN.{length, get_or}
use borrow.Author.Tests.{lt-ltb, le-ltb}
use Rattle.std.proofs.lemmas.List.{get_or_default}
use Rattle.paper.specs.declared.Record.{Record}
use Rattle.paper_desk.specs.Desk.{blank}
use Rattle.record_answers.specs.declared.Slot.{Slot}
use Rattle.desk.specs.Guesses.{slot_at}
use Rattle.desk.proofs.Guesses.{slot_here, slot_past}
use Rattle.desk.proofs.take_at.Goals as goal

-- before the end, whatever is read past it
slot_read : (t : List Record) (i : ℕ) (d : Record) → i < length t
    → ◌≡◌ {A = Slot} (record { count = length t; at = i; rec = get_or t i d }) (slot_at t i)
slot_read t i d l = rw (get_or_default t i d blank l) (slot_here t i (subst T (sym (lt-ltb i (length t) l)) tt))

pub returns-then-i-t : goal.returns-then-i-t
returns-then-i-t c = slot_read c.args.t.now c.args.i _ c.if-i-t.true

pub returns : goal.returns
returns c =
    c.absent.ensures
    ∙ slot_past c.args.t.now c.args.i (subst (λ (b : Bool). T (not b)) (sym (le-ltb _ _ c.if-i-t.false)) tt)
