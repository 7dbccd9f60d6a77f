-- What is appended for an answer is its bytes: the number, the figures behind it, the end of the line.
use Rattle.std.specs.Prelude.{List, [], ◌∷◌, ℕ, ◌+◌, ◌≤◌, ℤ}
use Rattle.std.proofs.Common.{arith}
use Rattle.text_bytes.specs.Bytes.{line_feed}
use Rattle.text_bytes.specs.Numbers.{decimal, answer_text}
use Rattle.text_protocol.specs.Answers.{answer_most}
use Rattle.text_out.specs.Places.{number_bytes}
use Rattle.text_out.specs.Told.{Told, wrote, told_none}
use Rattle.text_out.specs.Wrote.{Wrote, then, wider}

-- AN ANSWER: its number, its figures, the end of the line
pub answered : {b : List ℕ} {n : ℕ} {b' : List ℕ} {n' : ℕ} {b'' : List ℕ} {n'' : ℕ} {c : List ℕ} {e : ℕ} {zs : List ℤ}
    {k m : ℕ} (v : ℕ)
    → k + m + 1 ≤ answer_most → Wrote b n b' n' (decimal v) k → Told b' n' b'' n'' zs m → Wrote b'' n'' c e (line_feed ∷
    []) 1
    → Wrote b n c e (answer_text v zs) answer_most
unfolding answer_text
answered v h p q r = wider (then (then p (wrote q)) r) h

-- a number alone
pub answered_alone : {b : List ℕ} {n : ℕ} {b' : List ℕ} {n' : ℕ} {c : List ℕ} {e : ℕ} (v : ℕ)
    → Wrote b n b' n' (decimal v) number_bytes → Wrote b' n' c e (line_feed ∷ []) 1
    → Wrote b n c e (answer_text v []) answer_most
answered_alone {b' = b'} {n' = n'} v p q = answered v (omega arith) p (told_none b' n') q
