-- `text_call::call_of` meets its contract: the branch of each kind makes the call that the definition has for it, and a
-- number that is no call's goes with a withdrawal. What it calls asks nothing of it.
use lib.ListN.{drop}
use mathlib.Core.Logic.{◌⊎◌, inl, inr}
use mathlib.Core.Path.{◌≡◌, refl, ap, ◌∙◌}
use mathlib.Core.List.{List}
use Prim.Native.Nat.{ℕ}
use lib.IntN.{ℤ}
use borrow.Author.Tests.{ne_eqb}
use Rattle.std.specs.Prelude.{Option, None, Some}
use Rattle.std.specs.Option.{unwrap_or}
use Rattle.paper.specs.Ranges.{unsigned_at}
use Rattle.paper.specs.declared.Notice.TheVariants as sent
use Rattle.paper.specs.declared.AskedAbout.TheVariants as about
use Rattle.text_protocol.specs.declared.AskedCall.TheVariants as asked
use Rattle.text_protocol.specs.declared.CallKind.{CallKind}
use Rattle.text_protocol.specs.declared.CallKind.TheVariants as kind
use Rattle.text_protocol.specs.declared.Kept.{Kept}
use Rattle.text_protocol.specs.declared.Pairs.{Pairs}
use Rattle.text_protocol.specs.Kinds.{kind_number, kind_at}
use Rattle.text_protocol.specs.Names.{admit_kind, evaluate_kind, quote_kind, move_kind, read_kind, open_kind}
use Rattle.text_protocol.specs.Names.{outside_kind, notice_kind}
use Rattle.text_protocol.proofs.KindLaws.{number_back, no_kind}
use Rattle.paper_desk.specs.Desk.{ask_of}
use Rattle.text_protocol.specs.Names.{the, place_of, code, forms, evaluate_count}
use Rattle.text_protocol.specs.Calls.{desk_call, figures_behind, call_asked}
use Rattle.text_call.proofs.call_of.Goals as goal

-- the call of a number is that of its kind, and a withdrawal where it is no call's
module _ (k : Kept) (n : ℕ) (zs : List ℤ) (p : Pairs) {o : Option CallKind} (kind_is : o ≡ kind_at n) where
  of_kind : (x : CallKind) → x ≡ unwrap_or o kind.Withdraw → desk_call k n zs p ≡ desk_call k (kind_number x) zs p
  unfolding desk_call
  of_kind x e = go (kind_at n) refl (e ∙ ap (λ (y : Option CallKind). unwrap_or y kind.Withdraw) kind_is)
    where
      go : (y : Option CallKind) → kind_at n ≡ y → x ≡ unwrap_or y kind.Withdraw
          → desk_call k n zs p ≡ desk_call k (kind_number x) zs p
      go (Some y) is f = rw (f, number_back n y is)
      go None is f =
          let no = no_kind n is in
          rw (
            f,
            ne_eqb n admit_kind (no kind.Admit),
            ne_eqb n evaluate_kind (no kind.Evaluate),
            ne_eqb n quote_kind (no kind.Quote),
            ne_eqb n move_kind (no kind.Move),
            ne_eqb n read_kind (no kind.Read),
            ne_eqb n open_kind (no kind.Open),
            ne_eqb n outside_kind (no kind.Outside),
            ne_eqb n notice_kind (no kind.Notice),
          )

pub returns-in-Admit : goal.returns-in-Admit
unfolding desk_call call_asked ask_of figures_behind the place_of code forms
returns-in-Admit c = rw (of_kind _ _ _ _ c.of.ensures _ c.unwrap_or.ensures, c.in-Admit.is, c.admission_of.ensures)

pub returns-in-Evaluate : goal.returns-in-Evaluate
unfolding desk_call call_asked ask_of figures_behind the place_of code forms
returns-in-Evaluate c =
    rw (
      of_kind _ _ _ _ c.of.ensures _ c.unwrap_or.ensures,
      c.in-Evaluate.is,
      c.number_at-id.ensures,
      c.asked_of.ensures,
    )

pub returns-in-Quote : goal.returns-in-Quote
unfolding desk_call call_asked ask_of figures_behind the place_of code forms
returns-in-Quote c =
    rw (
      of_kind _ _ _ _ c.of.ensures _ c.unwrap_or.ensures,
      c.in-Quote.is,
      c.number_at-id-in-Quote.ensures,
      c.quote_of.ensures,
    )

pub returns-in-Move : goal.returns-in-Move
unfolding desk_call call_asked ask_of figures_behind the place_of code forms
returns-in-Move c =
    rw (
      of_kind _ _ _ _ c.of.ensures _ c.unwrap_or.ensures,
      c.in-Move.is,
      c.number_at-id-in-Move.ensures,
      c.number_at.ensures,
    )

pub returns-in-Read : goal.returns-in-Read
unfolding desk_call call_asked ask_of figures_behind the place_of code forms
returns-in-Read c = rw (of_kind _ _ _ _ c.of.ensures _ c.unwrap_or.ensures, c.in-Read.is, c.number_at-in-Read.ensures)

pub returns-in-Open : goal.returns-in-Open
unfolding desk_call call_asked ask_of figures_behind the place_of code forms
returns-in-Open c = rw (of_kind _ _ _ _ c.of.ensures _ c.unwrap_or.ensures, c.in-Open.is, c.number_at-in-Open.ensures)

pub returns-in-Outside : goal.returns-in-Outside
unfolding desk_call call_asked ask_of figures_behind the place_of code forms
returns-in-Outside c =
    rw (
      of_kind _ _ _ _ c.of.ensures _ c.unwrap_or.ensures,
      c.in-Outside.is,
      c.number_at-id-in-Outside.ensures,
      c.outside_of.ensures,
    )

pub returns-in-Notice : goal.returns-in-Notice
unfolding desk_call the place_of code forms
returns-in-Notice c =
    let zs = c.args.zs.now in
    rw (
      of_kind _ _ _ _ c.of.ensures _ c.unwrap_or.ensures,
      c.in-Notice.is,
      ← c.number_at-id-in-Notice.ensures,
      ← c.number_at-side.ensures,
      ← c.float_at.ensures,
    ) (c.notice_of.ensures (drop evaluate_count zs))

-- a line of a withdrawal, and of a kind that is no call of the desk
withdrawn : (k : Kept) (x : CallKind) (zs rows : List ℤ) (p : Pairs) (id : ℕ)
    → (x ≡ kind.Withdraw) ⊎ ((x ≡ kind.Interest) ⊎ (x ≡ kind.Bond)) → id ≡ unsigned_at zs 0
    → call_asked (asked.About id (about.Notify sent.Withdrawal)) rows ≡ desk_call k (kind_number x) zs p
unfolding desk_call call_asked ask_of figures_behind the place_of code forms
withdrawn k x zs rows p id (inl e) h = rw (e, h)
withdrawn k x zs rows p id (inr (inl e)) h = rw (e, h)
withdrawn k x zs rows p id (inr (inr e)) h = rw (e, h)

pub returns-in-Withdraw : goal.returns-in-Withdraw
returns-in-Withdraw c =
    rw (of_kind _ _ _ _ c.of.ensures _ c.unwrap_or.ensures)
    (withdrawn _ _ _ _ _ _ c.in-Withdraw.is c.number_at-id-in-Withdraw.ensures)
