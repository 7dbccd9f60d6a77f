-- 21 to 24 exactly when they are said: each number is answered exactly when its condition holds and none before it in
-- the order does, and 0 exactly when none does; a refusal is its number alone, and the writer's leaves the buffer untouched.
use mathlib.Core.Path.{◌≡◌, refl, sym, ap, ◌∙◌}
use mathlib.Core.Bool.{Bool, true, false}
use mathlib.Core.List.{List}
use Prim.Native.Nat.{ℕ}
use lib.ListN.{length, drop}
use Rattle.paper.specs.declared.Verdict.{Verdict}
use Rattle.paper.specs.declared.Verdict.TheVariants.{Done}
use Rattle.paper.specs.Lists.{pick, every}
use Rattle.paper.specs.Verdicts.{is_done, first_of, FirstAt, NoneApplies, Exactly, all_refusals}
use Rattle.paper.proofs.Logic.{pick_false}
use Rattle.paper_desk.proofs.Refusals.{done_is, refused_exactly, accepted_exactly}
use Rattle.paper_messages.specs.declared.Message.{Message}
use Rattle.paper_messages.specs.Messages.{encode, write_checks, wrote_of, written, read_checks, heard_at, refused_heard}
use Rattle.paper_messages.specs.Messages.{answer_of, answer_at}
use Rattle.paper_messages.proofs.MessageLaws.{heard_verdict}
use Rattle.paper_messages.specs.Messages.{verdict_of}
use Rattle.std.specs.Prelude.{Ok, Err}
use Rattle.std.specs.Result.{result_unwrap_or}

-- ---- the reader: 21, 22, 21, 22, 23

module _ (b : List ℕ) (at : ℕ) where
  pub read_refused : (v : Verdict) → is_done v ≡ false
      → Exactly (verdict_of (heard_at b at) ≡ v) (FirstAt v (read_checks (drop at b)))
  read_refused v n = refused_exactly (verdict_of (heard_at b at)) (read_checks (drop at b)) (heard_verdict b at) v n

  pub read_accepted : Exactly (verdict_of (heard_at b at) ≡ Done) (NoneApplies (read_checks (drop at b)))
  unfolding read_checks all_refusals every is_done
  read_accepted = accepted_exactly (verdict_of (heard_at b at)) (read_checks (drop at b)) (heard_verdict b at) refl

  pub read_zeros : is_done (verdict_of (heard_at b at)) ≡ false → heard_at b at ≡ Err (verdict_of (heard_at b at))
  unfolding heard_at
  read_zeros n =
      pick_false (is_done (first_of (read_checks (drop at b)))) _ _ (sym (ap is_done (heard_verdict b at)) ∙ n)
      ∙ ap Err (sym (heard_verdict b at))

  -- and in one record a refusal has zeros
  pub answer_zeros : is_done (answer_at b at).verdict ≡ false → answer_at b at ≡ refused_heard (answer_at b at).verdict
  unfolding refused_heard
  answer_zeros n = ap answer_of (read_zeros n)

-- ---- the writer: 23, 24

module _ (b : List ℕ) (m : Message) where
  pub wrote_verdict : verdict_of (wrote_of b m) ≡ first_of (write_checks b m)
  unfolding wrote_of
  wrote_verdict = go (first_of (write_checks b m)) (is_done (first_of (write_checks b m))) refl
    where
      go : (v : Verdict) (t : Bool) → is_done v ≡ t → verdict_of (pick t (Ok (length (encode m))) (Err v)) ≡ v
      go v true e = sym (done_is v e)
      go v false e = refl

  pub write_refused : (v : Verdict) → is_done v ≡ false
      → Exactly (verdict_of (wrote_of b m) ≡ v) (FirstAt v (write_checks b m))
  write_refused v n = refused_exactly (verdict_of (wrote_of b m)) (write_checks b m) wrote_verdict v n

  pub write_accepted : Exactly (verdict_of (wrote_of b m) ≡ Done) (NoneApplies (write_checks b m))
  unfolding write_checks all_refusals every is_done
  write_accepted = accepted_exactly (verdict_of (wrote_of b m)) (write_checks b m) wrote_verdict refl

  pub write_untouched : is_done (verdict_of (wrote_of b m)) ≡ false → (written b m ≡ b) × (result_unwrap_or (wrote_of b m) 0 ≡ 0)
  unfolding wrote_of written
  write_untouched n = let refused = sym (ap is_done wrote_verdict) ∙ n in (rw refused, rw refused)
