-- A line that is no call changes neither the table nor what is kept, and is answered "bad" and its number, or nothing
-- where lines are told with messages; a line that says nothing changes nothing either, and has no answer.
use mathlib.Core.Path.{◌≡◌, refl}
use mathlib.Core.Logic.{◌⊎◌, inl, inr}
use mathlib.Core.List.{List, []}
use Prim.Native.Nat.{ℕ}
use lib.IntN.{ℤ}
use Rattle.text_protocol.specs.declared.Pairs.{Pairs}
use Rattle.text_evening.specs.declared.Telling.{Telling}
use Rattle.text_protocol.specs.Line.{Said, Nothing, NoCall, Call, meaning}
use Rattle.text_protocol.specs.Written.{Says, Silent}
use Rattle.text_protocol.specs.Calls.{deed_of}
use Rattle.text_protocol.specs.Answers.{bad_text}
use Rattle.text_evening.specs.Evening.{Evening, table_after, kept_by, worded, text_of, after, answer, passed_over}
use Rattle.text_protocol.proofs.Reading.{reads_says}
use Rattle.text_protocol.proofs.Silence.{silent_means_nothing, nothing_is_silent}

module _ (telling : Telling) (l : List ℕ) (e : Evening) where
  abbrev Bad : Type 0
  Bad = answer telling l e ≡ worded telling (bad_text e.number)

  pub no_call_answers_bad : meaning l ≡ NoCall → (after l e ≡ passed_over e) × Bad
  unfolding after answer deed_of table_after kept_by text_of
  no_call_answers_bad h = (rw h, rw h)

  nothing_answers_nothing : meaning l ≡ Nothing → (after l e ≡ passed_over e) × (answer telling l e ≡ [])
  unfolding after answer deed_of table_after kept_by text_of
  nothing_answers_nothing h = (rw h, rw h)

  -- A LINE OF BLANKS, OR A HEADING, CHANGES NOTHING AND HAS NO ANSWER
  pub silent_has_no_answer : Silent l → (after l e ≡ passed_over e) × (answer telling l e ≡ [])
  silent_has_no_answer s = nothing_answers_nothing (silent_means_nothing s)

  -- A LINE THAT SAYS NO CALL CHANGES NOTHING: its answer is "bad" and its number where lines are answered in words, or
  -- none where it is blanks or a heading
  pub unsaid_changes_nothing : ((k : ℕ) (zs : List ℤ) (p : Pairs) → Says l k zs p → ⊥)
      → (after l e ≡ passed_over e)
      × (Bad ⊎ (Silent l × (answer telling l e ≡ [])))
  unsaid_changes_nothing unsaid = go (meaning l) refl
    where
      go : (s : Said) → meaning l ≡ s
          → (after l e ≡ passed_over e)
          × (Bad ⊎ (Silent l × (answer telling l e ≡ [])))
      go Nothing h =
          let r : (after l e ≡ passed_over e) × (answer telling l e ≡ []) = nothing_answers_nothing h in
          (r.0, inr (nothing_is_silent l h, r.1))
      go NoCall h =
          let r : (after l e ≡ passed_over e) × Bad = no_call_answers_bad h in
          (r.0, inl r.1)
      go (Call k zs p) h = absurd (unsaid k zs p (reads_says l k zs p h))
