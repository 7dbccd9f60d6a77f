-- Where the reader's tests lead, on plain values: what is heard at a place, by the first check that applies.
use mathlib.Core.Path.{◌≡◌, refl, sym, ◌∙◌}
use mathlib.Core.Bool.{true, false, not, ◌&&◌}
use mathlib.Core.List.{List}
use Prim.Native.Nat.{ℕ, ◌+◌, ◌-◌, ◌≤◌, ◌<◌}
use native.Mathlib.Omega.{arith}
use lib.IntN.{ℤ}
use lib.ListN.{length, take, drop, length-drop}
use lib.Seq.{drop-drop}
use lib.Dec.{eqb}
use borrow.Author.Tests.{lt-ltb, le-ltb, le-leb, ne_eqb, eq-eqb}
use Rattle.paper.specs.declared.Verdict.{Verdict}
use Rattle.paper.specs.declared.Verdict.TheVariants.{Done, CutShort, WrongLength, FieldOutOfRange}
use Rattle.paper.specs.Lists.{pick}
use Rattle.paper.specs.Ranges.{within}
use Rattle.paper.specs.Verdicts.{first_of, is_done}
use Rattle.paper.proofs.Logic.{pick_false}
use Rattle.paper_messages.specs.Bytes.{spelled}
use Rattle.paper_messages.specs.Fields.{places_of}
use Rattle.paper_messages.specs.Messages.{length_width, kind_width, length_least, length_most, length_at, kind_at, length_of}
use Rattle.paper_messages.specs.Messages.{is_known_kind, valid, values_at, message_at, read_checks}
use Rattle.paper_messages.specs.Messages.{accepted_heard, heard_at}
use Rattle.paper_messages.proofs.FieldLaws.{kinds_hold}
use Rattle.messages.specs.FieldRoom.{Room}
use Rattle.messages.specs.Promises.{Whole}
use Rattle.std.specs.Prelude.{Ok, Err, Some, None}

module _ (b : List ℕ) (at : ℕ) where
  -- a refusal is heard where it is the first that applies
  heard_is_refused : (v : Verdict) → is_done v ≡ false → first_of (read_checks (drop at b)) ≡ v
      → Err v ≡ heard_at b at
  unfolding heard_at
  heard_is_refused v n e = rw e (sym (pick_false (is_done v) (accepted_heard at (drop at b)) (Err v) n))

  heard_is_accepted : first_of (read_checks (drop at b)) ≡ Done → accepted_heard at (drop at b) ≡ heard_at b at
  unfolding heard_at is_done
  heard_is_accepted e = rw e

  -- how many bytes are left
  left_is_difference : length (drop at b) ≡ length b - at
  left_is_difference = length-drop at b

  pub no_length_is_cut_short : length b < at + length_width → Err CutShort ≡ heard_at b at
  unfolding read_checks first_of is_done
  no_length_is_cut_short h =
      let few : length (drop at b) < length_width = rw left_is_difference (omega arith) in
      heard_is_refused CutShort refl (rw (lt-ltb (length (drop at b)) length_width few))

  module _ (said : ℕ) (told : said ≡ length_at (drop at b)) (there : at + length_width ≤ length b) where
    four : length_width ≤ length (drop at b)
    four = rw left_is_difference (omega arith)

    pub bad_length_is_wrong : within length_least length_most said ≡ false → Err WrongLength ≡ heard_at b at
    unfolding read_checks first_of is_done
    bad_length_is_wrong h =
        heard_is_refused WrongLength refl
        (rw (le-ltb (length (drop at b)) length_width four, ← told, h))

    pub cut_body_is_cut_short : within length_least length_most said ≡ true → length b < at + (length_width + said)
        → Err CutShort ≡ heard_at b at
    unfolding read_checks first_of is_done
    cut_body_is_cut_short w h =
        let few : length (drop at b) < length_width + said = rw left_is_difference (omega arith) in
        heard_is_refused CutShort refl
        (rw (
          le-ltb (length (drop at b)) length_width four,
          ← told,
          w,
          lt-ltb (length (drop at b)) (length_width + said) few,
        ))

  -- ---- a message that stands whole

  module _ (said kind : ℕ) (whole : Whole b at said) (is : kind ≡ spelled (take kind_width (drop (at + length_width) b)))
    where
      kind_is : kind ≡ kind_at (drop at b)
      kind_is = rw (drop-drop length_width at b) is

      -- only the kind's own checks are left
      past_head : first_of (read_checks (drop at b))
          ≡ pick (is_known_kind kind && not (eqb said (length_of kind))) WrongLength
          (pick (is_known_kind kind && not (valid (message_at (drop at b)))) FieldOutOfRange Done)
      unfolding read_checks first_of
      past_head =
          let n : ℕ = length (drop at b) in
          let four : length_width ≤ n = rw left_is_difference (omega (arith, whole.follows)) in
          let all : length_width + said ≤ n = rw left_is_difference (omega (arith, whole.follows)) in
          rw (
            le-ltb n length_width four,
            ← whole.told,
            le-leb length_least said whole.least,
            le-leb said length_most whole.most,
            le-ltb n (length_width + said) all,
            ← kind_is,
          )

      pub skipped : is_known_kind kind ≡ false
          → Ok (record {
            kind = kind;
            length = said;
            next = at + (length_width + said);
            message = None;
          })
          ≡ heard_at b at
      unfolding accepted_heard
      skipped k = sym (rw (← whole.told, ← kind_is, k)) ∙ heard_is_accepted (past_head ∙ rw k)

      module _ (k : is_known_kind kind ≡ true) where
        pub other_length_is_wrong : (said ≡ length_of kind → ⊥) → Err WrongLength ≡ heard_at b at
        unfolding is_done
        other_length_is_wrong n = heard_is_refused WrongLength refl (past_head ∙ rw (k, ne_eqb said (length_of kind) n))

        module _ (right : said ≡ length_of kind) (values : List ℤ)
            (read : values ≡ values_at (places_of kind) (drop (at + (length_width + kind_width)) b)) where
          message_is : message_at (drop at b) ≡ record { kind = kind; fields = values }
          unfolding message_at
          message_is = rw (← kind_is, drop-drop (length_width + kind_width) at b, ← read)

          pub out_of_range : valid (record { kind = kind; fields = values }) ≡ false
              → Err FieldOutOfRange ≡ heard_at b at
          unfolding is_done
          out_of_range v =
              heard_is_refused FieldOutOfRange refl
              (past_head ∙ rw (k, eq-eqb said (length_of kind) right, message_is, v))

          pub heard : valid (record { kind = kind; fields = values }) ≡ true
              → Ok (record {
                kind = kind;
                length = said;
                next = at + (length_width + said);
                message = Some (record { kind = kind; fields = values });
              })
              ≡ heard_at b at
          unfolding accepted_heard
          heard v =
              sym (rw (← whole.told, ← kind_is, k, message_is))
              ∙ heard_is_accepted (past_head ∙ rw (k, eq-eqb said (length_of kind) right, message_is, v))

-- the fields of a whole message of the right length have their room
pub room_for : (b : List ℕ) (at said kind : ℕ) → Whole b at said → said ≡ length_of kind
    → Room (at + (length_width + kind_width)) (places_of kind) b
unfolding length_of
room_for b at said kind whole right =
    record { room = omega (arith, whole.follows); holds = kinds_hold kind }
