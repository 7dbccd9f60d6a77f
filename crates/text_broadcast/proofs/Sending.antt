-- What the writer left in a part of the buffer is the message, appended; and what is sent of a call.
use mathlib.Core.Path.{◌≡◌, refl, ap, ◌∙◌}
use mathlib.Core.Bool.{Bool, true, false}
use mathlib.Core.List.{List, [], ◌++◌}
use Prim.Native.Nat.{ℕ, ◌≤◌}
use native.Mathlib.Omega.{arith}
use lib.Dec.{ltb}
use lib.ListN.{length, take, drop}
use lib.Seq.{take_at}
use borrow.Author.Tests.{le-ltb}
use Rattle.paper.specs.declared.Answer.{Answer}
use Rattle.paper.specs.Lists.{pick}
use Rattle.paper.specs.Verdicts.{is_done, first_of}
use Rattle.paper_reasons.specs.declared.Reasons.{Reasons}
use Rattle.paper_messages.specs.declared.Message.{Message}
use Rattle.std.specs.Prelude.{Result}
use Rattle.std.specs.Result.{result_unwrap_or}
use Rattle.paper.specs.declared.Verdict.{Verdict}
use Rattle.paper_messages.specs.Messages.{encode, valid, write_checks, wrote_of, written}
use Rattle.paper_messages.proofs.FieldLaws.{kinds_within_most}
use Rattle.paper_messages.proofs.MessageLaws.{encode_length}
use Rattle.messages.specs.Promises.{Writes}
use Rattle.text_protocol.specs.declared.Role.{Role}
use Rattle.text_protocol.specs.declared.Role.TheVariants as role
use Rattle.paper_messages.specs.Broadcast.{message_most, sent}
use Rattle.text_broadcast.specs.Sent.{messages_shown, shown_to, count_of, count_shown}

-- THE WRITER LEAVES, at the start of a buffer that has room for every message, what is sent of the message
pub starts_with_sent : (b : List ℕ) (m : Message) (w : Result ℕ Verdict) (after : List ℕ) (n : ℕ)
    → n ≡ result_unwrap_or w 0 → length b ≡ message_most → Writes b m w after → (n ≤ message_most) × (take n after ≡ sent m)
unfolding sent wrote_of written write_checks first_of is_done
starts_with_sent b m w after n is long writes = go (valid m) refl
  where
    go : (x : Bool) → valid m ≡ x → (n ≤ message_most) × (take n after ≡ sent m)
    -- a message with a field out of its range is not written
    go false e =
        let none : n ≡ 0 = is ∙ ap (λ (x : Result ℕ Verdict). result_unwrap_or x 0) writes.answers ∙ rw e in
        rw none (omega arith, rw e)
    -- every other message is, since there is room for it
    go true e =
        let short : length (encode m) ≤ message_most = rw (encode_length m e) (kinds_within_most m.kind) in
        let room-left : ltb (length b) (length (encode m)) ≡ false = le-ltb (length b) (length (encode m)) (omega arith) in
        let size : n ≡ length (encode m) =
        is ∙ ap (λ (x : Result ℕ Verdict). result_unwrap_or x 0) writes.answers ∙ rw (e, room-left) in
        let left : after ≡ encode m ++ drop (length (encode m)) b = writes.leaves ∙ rw (e, room-left) in
        rw (size, left, e) (short, take_at (encode m) (drop (length (encode m)) b) (length (encode m)) refl)

-- how many messages they are
pub counted_is : (x : Role) (a : Answer) (y : Reasons) → length (shown_to x a y) ≡ count_shown x a.verdict
unfolding shown_to count_shown messages_shown
counted_is x a y = go (is_done a.verdict) x
  where
    go : (done : Bool) (x : Role) → length (pick done (messages_shown x a y) []) ≡ pick done (count_of x) 0
    go false x = refl
    go true (role.Admission g) = refl
    go true (role.Evaluation id d) = refl
    go true role.Quote = refl
    go true (role.Move side) = refl
    go true role.Opening = refl
    go true role.Other = refl
