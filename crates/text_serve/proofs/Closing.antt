-- What the ways out of `ended` need: a stream is ended where messages are told, all of them were taken and the input has
-- ended well, and there alone.
use mathlib.Core.Path.{◌≡◌, refl}
use mathlib.Core.Bool.{Bool, true, false, not, ◌&&◌}
use lib.ListN.{length}
use Rattle.paper.proofs.Logic.{and_left, and_right, ◌&◌, not_true, not_false, not_true_and_false}
use Rattle.paper_messages.specs.Broadcast.{sent}
use Rattle.paper_streams.specs.Streams.{end_message}
use Rattle.text_evidence.specs.declared.Written.{Written}
use Rattle.text_evidence.specs.Evidence.{is_well, took_all, Hands}
use Rattle.text_turn.specs.declared.State.{State}
use Rattle.text_serve.specs.Serve.{in_messages, is_ended, Closes}

module _ (s : State) (took well : Bool) (all : took ≡ took_all s.told) (over : well ≡ is_well s.input.read) where
  -- a write or a read failed
  pub unended : not (took && well) ≡ true → Closes s s.told
  unfolding is_ended
  unended failed =
      let failing : (took_all s.told && is_well s.input.read) ≡ false = rw (← all, ← over) (not_true _ failed) in
      record {
        closed = λ yes.
            absurd (not_true_and_false (took_all s.told && is_well s.input.read) (and_left _ _ yes) failing);
        left = λ e. refl;
      }

  -- lines are told in words
  pub in_words : in_messages s.telling ≡ false → Closes s s.told
  unfolding is_ended
  in_words words =
      record {
        closed = λ yes.
            absurd (not_true_and_false (in_messages s.telling)
            (and_right (took_all s.told && is_well s.input.read) _ yes) words);
        left = λ e. refl;
      }

  -- all went well
  pub closes : {r : Written} → not (took && well) ≡ false → in_messages s.telling ≡ true
      → Hands (length (sent (end_message s.stream.count s.stream.sum))) s.told r
      → Closes s r
  unfolding is_ended
  closes went told hands =
      let yes : (took_all s.told && is_well s.input.read) ≡ true = rw (← all, ← over) (not_false _ went) in
      record {
        closed = λ e. hands;
        left = λ e. absurd (not_true_and_false (is_ended s) (yes & told) e);
      }
