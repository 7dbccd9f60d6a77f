-- Where a message that is heard ends, how many bytes are not heard yet, and that one which is cut short leaves room.
use mathlib.Core.Path.{◌≡◌, refl, sym, ◌∙◌}
use mathlib.Core.Bool.{Bool, true, false, not, ◌&&◌}
use mathlib.Core.Logic.{◌⊎◌, inl, inr}
use mathlib.Core.List.{List}
use Prim.Native.Nat.{ℕ, ◌+◌, ◌-◌, ◌≤◌, ◌<◌}
use native.Mathlib.Omega.{arith}
use lib.Dec.{ltb, leb, eqb}
use lib.ListN.{length, take, drop, length-drop}
use lib.Seq.{length-take-le}
use borrow.Author.Tests.{ltb-true, ltb-false, leb-true}
use Rattle.paper.specs.declared.Verdict.{Verdict}
use Rattle.paper.specs.declared.Verdict.TheVariants.{Done, CutShort, WrongLength, FieldOutOfRange}
use Rattle.std.specs.Prelude.{Err}
use Rattle.paper.specs.Lists.{pick}
use Rattle.paper.specs.Ranges.{within}
use Rattle.paper.specs.Verdicts.{number_of, is_done, first_of}
use Rattle.paper.proofs.Logic.{and_right, not_false, not_true_and_false}
use Rattle.paper_messages.specs.Messages.{length_width, length_least, length_most, length_at, read_checks, answer_of}
use Rattle.paper_messages.specs.Messages.{accepted_heard, heard_at, answer_at, length_of, is_known_kind, valid, kind_at}
use Rattle.paper_messages.specs.Messages.{message_at}
use Rattle.paper_messages.specs.declared.ReaderAnswer.{ReaderAnswer}
use Rattle.paper_streams.specs.declared.Stream.{Stream}
use Rattle.paper_streams.specs.Streams.{number_in}
use Rattle.paper_streams.proofs.WholeOnly.{number_none}
use Rattle.listen_serve.specs.declared.Listening.{Listening}
use Rattle.text_bytes.specs.Bytes.{room}
use Rattle.listen_serve.specs.Steps.{unheard, heard_in, is_cut, Stands}

-- a message that is not refused is whole
done_is_not_short : (few out short : Bool) (rest : Verdict)
    → is_done (pick few CutShort (pick out WrongLength (pick short CutShort rest))) ≡ true → short ≡ false
unfolding is_done
done_is_not_short true out short rest e = absurd (not_true_and_false false e refl)
done_is_not_short false true short rest e = absurd (not_true_and_false false e refl)
done_is_not_short false false true rest e = absurd (not_true_and_false false e refl)
done_is_not_short false false false rest e = refl

done_is_whole : (bytes : List ℕ) → is_done (first_of (read_checks bytes)) ≡ true
    → length_width + length_at bytes ≤ length bytes
unfolding read_checks first_of
done_is_whole bytes e =
    ltb-false (length bytes) (length_width + length_at bytes)
    (done_is_not_short (ltb (length bytes) length_width) (not (within length_least length_most (length_at bytes)))
    (ltb (length bytes) (length_width + length_at bytes)) _ e)

-- what is accepted in its stream is accepted
pub accepted_is_done : (s : Stream) (h : ReaderAnswer) → eqb (number_in s h) 0 ≡ true → is_done h.verdict ≡ true
unfolding is_done
accepted_is_done s h e = rw (number_none s h e).0 refl

-- THE PLACE BEHIND A MESSAGE is behind its own, and not past the buffer
pub next_within : (b : List ℕ) (at : ℕ) → is_done (answer_at b at).verdict ≡ true
    → (at < (answer_at b at).next) × ((answer_at b at).next ≤ length b)
unfolding heard_at accepted_heard
next_within b at = go (is_done (first_of (read_checks (drop at b)))) refl
  where
    go : (x : Bool) → is_done (first_of (read_checks (drop at b))) ≡ x
        → is_done (answer_of (pick x (accepted_heard at (drop at b)) (Err (first_of (read_checks (drop at b)))))).verdict
        ≡ true
        → (at < (answer_of (pick x (accepted_heard at (drop at b)) (Err (first_of (read_checks (drop at b)))))).next)
        × ((answer_of (pick x (accepted_heard at (drop at b)) (Err (first_of (read_checks (drop at b)))))).next ≤ length b)
    go true e h =
        let w : length_width + length_at (drop at b) ≤ length b - at = rw length-drop at (done_is_whole (drop at b) e) in
        (omega arith, omega arith)
    go false e h = absurd (not_true_and_false false (sym e ∙ h) refl)

-- and so is the place behind what is accepted in its stream
pub accepted_within : (b : List ℕ) (at : ℕ) (s : Stream) → eqb (number_in s (answer_at b at)) 0 ≡ true
    → (at < (answer_at b at).next) × ((answer_at b at).next ≤ length b)
accepted_within b at s e = next_within b at (accepted_is_done s (answer_at b at) e)

-- of what is cut short there are fewer bytes than the longest message has
cut_is_few : (few out short wrong bad : Bool)
    → eqb (number_of (pick few CutShort (pick out WrongLength (pick short CutShort (pick wrong WrongLength (pick bad
    FieldOutOfRange Done)))))) (number_of CutShort) ≡ true
    → (few ≡ true) ⊎ ((out ≡ false) × (short ≡ true))
cut_is_few true out short wrong bad e = inl refl
cut_is_few false true short wrong bad e = absurd (not_true_and_false false e refl)
cut_is_few false false true wrong bad e = inr (refl, refl)
cut_is_few false false false true bad e = absurd (not_true_and_false false e refl)
cut_is_few false false false false true e = absurd (not_true_and_false false e refl)
cut_is_few false false false false false e = absurd (not_true_and_false false e refl)

bytes_cut : (bytes : List ℕ) → eqb (number_of (first_of (read_checks bytes))) (number_of CutShort) ≡ true
    → length bytes < length_width + length_most
unfolding read_checks first_of
bytes_cut bytes e =
    go (cut_is_few (ltb (length bytes) length_width) (not (within length_least length_most (length_at bytes)))
    (ltb (length bytes) (length_width + length_at bytes))
    (is_known_kind (kind_at bytes) && not (eqb (length_at bytes) (length_of (kind_at bytes))))
    (is_known_kind (kind_at bytes) && not (valid (message_at bytes))) e)
  where
    go : (ltb (length bytes) length_width ≡ true)
        ⊎ ((not (within length_least length_most (length_at bytes)) ≡ false)
        × (ltb (length bytes) (length_width + length_at bytes) ≡ true))
        → length bytes < length_width + length_most
    go (inl h) = omega (arith, ltb-true (length bytes) length_width h)
    go (inr h) =
        let most : length_at bytes ≤ length_most =
        leb-true (length_at bytes) length_most
        (and_right (leb length_least (length_at bytes)) (leb (length_at bytes) length_most) (not_false _ h.0)) in
        omega (arith, most, ltb-true (length bytes) (length_width + length_at bytes) h.1)

heard_cut : (b : List ℕ) (at : ℕ) → is_cut (answer_at b at) ≡ true → length b - at < length_width + length_most
unfolding heard_at accepted_heard
heard_cut b at e = rw length-drop at (go (is_done (first_of (read_checks (drop at b)))) e)
  where
    go : (x : Bool)
        → is_cut (answer_of (pick x (accepted_heard at (drop at b)) (Err (first_of (read_checks (drop at b)))))) ≡ true
        → length (drop at b) < length_width + length_most
    go true h = absurd (not_true_and_false false h refl)
    go false h = bytes_cut (drop at b) h

-- WHERE A MESSAGE IS CUT SHORT there is room in the buffer behind it
pub cut_leaves_room : (b : List ℕ) (s : Listening) → Stands b s → is_cut (heard_in b s) ≡ true → s.len - s.at < room
cut_leaves_room b s h e =
    let l : length (take s.len b) ≡ s.len = length-take-le s.len b (omega (arith, h.in_b, h.long)) in
    omega (arith, l, heard_cut (take s.len b) s.at e)

-- as many bytes are not heard yet as the state says
pub unheard_length : (b : List ℕ) (s : Listening) → Stands b s → length (unheard b s) ≡ s.len - s.at
unfolding unheard
unheard_length b s h =
    length-take-le (s.len - s.at) (drop s.at b)
    (omega (arith, length-drop s.at b, h.low, h.in_b, h.long))
