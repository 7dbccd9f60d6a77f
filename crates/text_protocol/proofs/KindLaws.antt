-- A call and its number: each is the other's alone.
use mathlib.Core.Path.{◌≡◌, refl, sym, ap, ◌∙◌}
use mathlib.Core.Bool.{Bool, true, false}
use Prim.Native.Nat.{ℕ}
use lib.Dec.{eqb}
use borrow.Author.Tests.{eqb-true}
use Rattle.std.specs.Prelude.{Option, None, Some}
use Rattle.std.proofs.lemmas.Option.{same_Some, none-some}
use Rattle.paper.specs.Lists.{pick}
use Rattle.text_protocol.specs.declared.CallKind.{CallKind}
use Rattle.text_protocol.specs.declared.CallKind.TheVariants as kind
use Rattle.text_protocol.specs.Kinds.{kind_number, kind_at}

-- THE CALL OF A CALL'S NUMBER is that call
pub kind_back : (k : CallKind) → kind_at (kind_number k) ≡ Some k
unfolding kind_at
kind_back kind.Admit = refl
kind_back kind.Evaluate = refl
kind_back kind.Quote = refl
kind_back kind.Move = refl
kind_back kind.Read = refl
kind_back kind.Open = refl
kind_back kind.Outside = refl
kind_back kind.Notice = refl
kind_back kind.Withdraw = refl
kind_back kind.Interest = refl
kind_back kind.Bond = refl

-- AND THE NUMBER OF A NUMBER'S CALL is that number
pub number_back : (n : ℕ) (k : CallKind) → kind_at n ≡ Some k → kind_number k ≡ n
unfolding kind_at
number_back n k =
    or kind.Admit
    (or kind.Evaluate
    (or kind.Quote
    (or kind.Move
    (or kind.Read
    (or kind.Open
    (or kind.Outside
    (or kind.Notice
    (or kind.Withdraw
    (or kind.Interest
    (or kind.Bond (λ e. absurd (none-some k e))))))))))))
  where
    or : (x : CallKind) {rest : Option CallKind} → (rest ≡ Some k → kind_number k ≡ n)
        → pick (eqb n (kind_number x)) (Some x) rest ≡ Some k → kind_number k ≡ n
    or x {rest} behind = go (eqb n (kind_number x)) refl
      where
        go : (b : Bool) → eqb n (kind_number x) ≡ b → pick b (Some x) rest ≡ Some k → kind_number k ≡ n
        go true is e = sym (ap kind_number (same_Some x k e)) ∙ sym (eqb-true n (kind_number x) is)
        go false is e = behind e

-- a number that is no call's is none of their numbers
pub no_kind : (n : ℕ) → kind_at n ≡ None → (k : CallKind) → n ≡ kind_number k → ⊥
no_kind n none k e = none-some k (sym none ∙ ap kind_at e ∙ kind_back k)

pub kind_same : (k l : CallKind) → kind_number k ≡ kind_number l → k ≡ l
kind_same k l e = same_Some k l (sym (kind_back k) ∙ ap kind_at e ∙ kind_back l)
