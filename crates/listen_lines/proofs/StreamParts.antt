-- What the functions on streams need, on plain values: the sum that a field stands for, the number that is answered,
-- and how far a stream is heard.
use mathlib.Core.Path.{◌≡◌, refl}
use mathlib.Core.Bool.{true, false, not, ◌&&◌}
use mathlib.Core.List.{List}
use Prim.Native.Nat.{ℕ, suc, ◌-◌, ◌≤◌, ◌<◌}
use native.Mathlib.Omega.{arith}
use lib.Dec.{eqb}
use lib.IntN.{ℤ, pos, negsuc}
use lib.Signed.{mag, lt_z}
use borrow.Author.Tests.{eq-eqb, ne_eqb}
use Rattle.paper.specs.Verdicts.{number_of, is_done}
use Rattle.exact.specs.SignedLaws.{natural_not_below_zero, negative_below_zero}
use Rattle.sums.specs.Sums.{sum_on, sum_of}
use Rattle.paper_messages.specs.declared.Message.{Message}
use Rattle.paper_messages.specs.declared.ReaderAnswer.{ReaderAnswer}
use Rattle.paper_messages.specs.Bytes.{complement}
use Rattle.paper_messages.specs.Fields.{begin_message_kind, end_message_kind, sum_width}
use Rattle.paper_streams.specs.declared.Stream.{Stream}
use Rattle.paper_streams.specs.Streams.{no_stream, count_said, sum_said, end_fits_of, not_whole, number_in}
use Rattle.paper_streams.specs.Streams.{stream_after}
use Rattle.paper_streams.specs.Alone.{stands_alone}

-- ---- the sum of a field

-- how many sums there are
abbrev pub sums : ℕ
sums = 4294967296

pub sum_below : (z : ℤ) (size : ℕ) → size ≡ mag z → lt_z z (pos 0) ≡ true → size < sums
    → sums - 1 - size ≡ complement sum_width z
unfolding complement
sum_below (pos n) size is below few = absurd (natural_not_below_zero n below)
sum_below (negsuc n) size is below few = omega arith

pub sum_past : (z : ℤ) (size : ℕ) → size ≡ mag z → lt_z z (pos 0) ≡ true → sums ≤ size → 0 ≡ complement sum_width z
unfolding complement
sum_past (pos n) size is below many = absurd (natural_not_below_zero n below)
sum_past (negsuc n) size is below many = omega arith

pub sum_above : (z : ℤ) (size : ℕ) → size ≡ mag z → lt_z z (pos 0) ≡ false → size ≡ complement sum_width z
unfolding complement
sum_above (pos n) size is above = is
sum_above (negsuc n) size is above = absurd (negative_below_zero n above)

-- ---- the number that is answered

pub end_fits_is : (s : Stream) (m : Message) (count sum : ℕ) → count ≡ count_said m → sum ≡ sum_said m
    → (s.began && eqb count s.count && eqb sum s.sum) ≡ end_fits_of s m
unfolding end_fits_of
end_fits_is s m count sum counts sums = rw (counts, sums) refl

module _ (s : Stream) (h : ReaderAnswer) (no : ℕ) (is : no ≡ number_of h.verdict) where
  pub number_refused : (no ≡ 0 → ⊥) → no ≡ number_in s h
  unfolding number_in is_done
  number_refused z = rw (← is, ne_eqb no 0 z) refl

  pub number_other : no ≡ 0 → (h.kind ≡ end_message_kind → ⊥) → 0 ≡ number_in s h
  unfolding number_in is_done
  number_other z other = rw (← is, eq-eqb no 0 z, ne_eqb h.kind end_message_kind other) refl

  pub number_fits : no ≡ 0 → h.kind ≡ end_message_kind → end_fits_of s h.message ≡ true → 0 ≡ number_in s h
  unfolding number_in is_done
  number_fits z ends fits = rw (← is, eq-eqb no 0 z, eq-eqb h.kind end_message_kind ends, fits) refl

  pub number_not_whole : no ≡ 0 → h.kind ≡ end_message_kind → end_fits_of s h.message ≡ false → not_whole ≡ number_in s h
  unfolding number_in is_done
  number_not_whole z ends fits = rw (← is, eq-eqb no 0 z, eq-eqb h.kind end_message_kind ends, fits) refl

-- ---- how far a stream is heard
module _ (s : Stream) (h : ReaderAnswer) (bytes : List ℕ) where
  pub after_begin : (sum : ℕ) → h.kind ≡ begin_message_kind → sum ≡ sum_on 0 bytes
      → record { began = true; count = 1; sum = sum } ≡ stream_after s h bytes
  unfolding stream_after sum_of
  after_begin sum begins is = rw (eq-eqb h.kind begin_message_kind begins, is) refl

  module _ (other : h.kind ≡ begin_message_kind → ⊥) where
    pub after_end : h.kind ≡ end_message_kind → no_stream ≡ stream_after s h bytes
    unfolding stream_after
    after_end ends = rw (ne_eqb h.kind begin_message_kind other, eq-eqb h.kind end_message_kind ends) refl

    module _ (goes_on : h.kind ≡ end_message_kind → ⊥) where
      pub after_none : s.began ≡ false → s ≡ stream_after s h bytes
      unfolding stream_after
      after_none none =
          rw (ne_eqb h.kind begin_message_kind other, ne_eqb h.kind end_message_kind goes_on, none) refl

      pub after_message : (count sum : ℕ) → s.began ≡ true → count ≡ suc s.count → sum ≡ sum_on s.sum bytes
          → record { began = true; count = count; sum = sum } ≡ stream_after s h bytes
      unfolding stream_after
      after_message count sum began counts is =
          rw (ne_eqb h.kind begin_message_kind other, ne_eqb h.kind end_message_kind goes_on, began, counts, is) refl

-- ---- what may stand in one stream alone
module _ (place : ℕ) (s : Stream) (h : ReaderAnswer) where
  pub begin_alone : h.kind ≡ begin_message_kind → (not s.began && eqb place 0) ≡ stands_alone place s h
  unfolding stands_alone
  begin_alone begins = rw (eq-eqb h.kind begin_message_kind begins) refl

  pub other_alone : (h.kind ≡ begin_message_kind → ⊥) → s.began ≡ stands_alone place s h
  unfolding stands_alone
  other_alone other = rw (ne_eqb h.kind begin_message_kind other) refl
