-- W-212: "What is written reads back to the same fields", of the writer itself: what it leaves in the buffer is heard
-- at its first byte as the message that it was given.
use mathlib.Core.Path.{◌≡◌, sym, ap, ◌∙◌}
use mathlib.Core.Bool.{true}
use mathlib.Core.List.{List, [], ◌++◌}
use Prim.Native.Nat.{ℕ}
use lib.ListN.{length, drop}
use borrow.Author.Tests.{not-false}
use Rattle.paper.specs.declared.Verdict.TheVariants.{Done}
use Rattle.paper.specs.Verdicts.{is_done, NoneApplies, also}
use Rattle.paper_messages.specs.declared.Message.{Message}
use Rattle.paper_messages.specs.Fields.{places}
use Rattle.paper_messages.specs.Messages.{encode, valid, write_checks, wrote_of, written, heard_at}
use Rattle.paper_messages.proofs.MessageLaws.{reads_back}
use Rattle.paper_messages.proofs.Refusals.{wrote_verdict, write_accepted}
use Rattle.paper_messages.specs.Messages.{message_heard, verdict_of}

-- `full`: the message that is lent has all of its places, as an array of so many has
module _ (b : List ℕ) (m : Message) (full : length m.fields ≡ places) (done : verdict_of (wrote_of b m) ≡ Done) where
  written_valid : valid m ≡ true
  unfolding write_checks
  written_valid = of ((write_accepted b m).0 done)
    where
      of : NoneApplies (write_checks b m) → valid m ≡ true
      of (also in_range_lem room) = not-false (valid m) in_range_lem

  written_is : written b m ≡ encode m ++ drop (length (encode m)) b
  unfolding wrote_of written is_done
  written_is = rw (sym (wrote_verdict b m) ∙ done)

  pub written_reads_back : (verdict_of (heard_at (written b m) 0) ≡ Done) × (message_heard (heard_at (written b m) 0) ≡ m)
  written_reads_back =
      let heard = ap (λ (bytes : List ℕ). heard_at bytes 0) written_is
      ∙ reads_back m written_valid full (drop (length (encode m)) b) [] in
      (ap verdict_of heard, ap message_heard heard)
