-- Of an input of the old form `listen` prints, byte for byte, what it printed before there were whole streams.
use mathlib.Core.Path.{◌≡◌, refl}
use mathlib.Core.Bool.{Bool, true, false, not, ◌&&◌}
use mathlib.Core.List.{List}
use Prim.Native.Nat.{ℕ, zero, suc}
use lib.Dec.{eqb}
use lib.ListN.{length}
use borrow.Author.Tests.{eqb-true, not-true}
use Rattle.paper.specs.Lists.{pick}
use Rattle.paper.specs.Verdicts.{number_of, is_done}
use Rattle.paper.proofs.Logic.{and_left, and_right}
use Rattle.paper_messages.specs.declared.ReaderAnswer.{ReaderAnswer}
use Rattle.paper_messages.specs.Messages.{answer_at}
use Rattle.paper_streams.specs.Streams.{no_stream, is_begin, is_end, number_in, stream_after, bytes_at}
use Rattle.listen_lines.specs.Lines.{unended_line}
use Rattle.listen_serve.specs.Listen.{listen_from, listen_text}
use Rattle.listen_serve.specs.OldForm.{old_form_from, is_old_form, plain_from, plain_text}

-- of a message that is neither the same is answered as before, and no stream begins
module _ (h : ReaderAnswer) (other : is_begin h ≡ false) (goes_on : is_end h ≡ false) where
  plain_number : number_in no_stream h ≡ number_of h.verdict
  unfolding number_in is_done
  plain_number = rw goes_on (go (eqb (number_of h.verdict) 0) refl)
    where
      go : (t : Bool) → eqb (number_of h.verdict) 0 ≡ t → pick t 0 (number_of h.verdict) ≡ number_of h.verdict
      go true e = rw (eqb-true (number_of h.verdict) 0 e) refl
      go false e = refl

  plain_behind : (bytes : List ℕ) → stream_after no_stream h bytes ≡ no_stream
  unfolding stream_after
  plain_behind bytes = rw (other, goes_on) refl

plain_from_lem : (most : ℕ) (input : List ℕ) (place : ℕ) → old_form_from most input place ≡ true
    → listen_from most input place no_stream ≡ plain_from most input place
unfolding listen_from plain_from old_form_from unended_line is_done
plain_from_lem zero input place old = refl
plain_from_lem (suc most) input place old =
    let h : ReaderAnswer = answer_at input place in
    let both : (not (is_begin h) && not (is_end h)) ≡ true =
    and_left (not (is_begin h) && not (is_end h)) (old_form_from most input h.next) old in
    let other : is_begin h ≡ false = not-true (is_begin h) (and_left (not (is_begin h)) (not (is_end h)) both) in
    let goes_on : is_end h ≡ false = not-true (is_end h) (and_right (not (is_begin h)) (not (is_end h)) both) in
    let rest : listen_from most input h.next no_stream ≡ plain_from most input h.next =
    plain_from_lem most input h.next
    (and_right (not (is_begin h) && not (is_end h)) (old_form_from most input h.next) old) in
    rw (other, plain_number h other goes_on, plain_behind h other goes_on (bytes_at input place h), rest) refl

-- THE OLD FORM is told as before
pub old_form_same : (input : List ℕ) → is_old_form input ≡ true → listen_text input ≡ plain_text input
unfolding is_old_form listen_text plain_text
old_form_same input old = plain_from_lem (length input) input 0 old
