-- One turn of each loop over bytes, as laws over lists and numbers: the bytes still to write, written behind those
-- written, are the number's bytes, and the bytes still to read, behind those read, spell the number.
use mathlib.Core.Path.{◌≡◌, refl, ◌∙◌}
use mathlib.Core.List.{List}
use Prim.Native.Nat.{ℕ, zero, suc, ◌+◌, ◌-◌, ◌*◌, ◌/◌, ◌%◌, ◌^◌, ◌<◌, ◌≤◌}
use native.Mathlib.Nat.{pow-suc, pow-le-pow_right}
use native.Mathlib.Omega.{arith}
use lib.ListN.{length, take, drop, get_or, set, length-set}
use lib.Seq.{sets, drop-cons}
use Rattle.paper_messages.specs.Bytes.{bytes_of, spelled, in_byte, in_width, width_most}

-- ---- the writer of a number

pub record Putting (b₀ : List ℕ) (at width number : ℕ) (b : List ℕ) (i rest : ℕ) : Type 0 where
  pub inside : i ≤ width
  pub same_length : length b ≡ length b₀
  pub left : sets b (at + i) (bytes_of (width - i) rest) ≡ sets b₀ at (bytes_of width number)

pub putting_none : (b : List ℕ) (at width number : ℕ) → Putting b at width number b 0 number
putting_none b at width number =
    let e : at + 0 ≡ at = omega arith in
    let f : width - 0 ≡ width = omega arith in
    record { inside = omega arith; same_length = refl; left = rw (e, f) }

module _ (b₀ : List ℕ) (at width number : ℕ) (b : List ℕ) (i rest : ℕ) (p : Putting b₀ at width number b i rest) where
  pub putting_more : i < width → Putting b₀ at width number (set b (at + i) (rest % in_byte)) (i + 1) (rest / in_byte)
  unfolding bytes_of
  putting_more h =
      let e : width - i ≡ suc (width - (i + 1)) = omega arith in
      let f : at + (i + 1) ≡ suc (at + i) = omega arith in
      record {
        inside = omega arith;
        same_length = length-set b (at + i) (rest % in_byte) ∙ p.same_length;
        left = rw f (rw e at p.left);
      }

  pub putting_all : width ≤ i → b ≡ sets b₀ at (bytes_of width number)
  unfolding bytes_of
  putting_all h = let e : width - i ≡ zero = omega arith in rw e at p.left

-- ---- the reader of a number

-- the bytes from i on are read
pub record Getting (b : List ℕ) (at width i number : ℕ) : Type 0 where
  pub inside : i ≤ width
  pub fits : number < in_width (width - i)
  pub is : number ≡ spelled (take (width - i) (drop (at + i) b))

pub getting_none : (b : List ℕ) (at width : ℕ) → Getting b at width width 0
unfolding spelled
getting_none b at width =
    let e : width - width ≡ zero = omega arith in
    record { inside = omega arith; fits = rw e (omega arith); is = rw e }

-- one more byte does not wrap
pub getting_fits : (b : List ℕ) (at width i number : ℕ) → width ≤ width_most → Getting b at width i number → 0 < i
    → number < in_byte ^ 7
getting_fits b at width i number w p h =
    let m : width - i ≤ 7 = omega (arith, p.inside) in
    let o : 0 < 256 = omega arith in
    omega (arith, p.fits, pow-le-pow_right {n = 256} o m)

pub getting_more : (b : List ℕ) (at width i number : ℕ) → at + width ≤ length b → Getting b at width i number → 0 < i
    → get_or b (at + (i - 1)) 0 < in_byte
    → Getting b at width (i - 1) (number * in_byte + get_or b (at + (i - 1)) 0)
unfolding spelled
getting_more b at width zero number room p h small = let z : ⊥ = omega arith in absurd z
getting_more b at width (suc i) number room p h small = rw f (one (rw f at small))
  where
    f : suc i - 1 ≡ i
    f = omega arith

    one : get_or b (at + i) 0 < in_byte → Getting b at width i (number * in_byte + get_or b (at + i) 0)
    one small =
        let inside : i < width = omega (arith, p.inside) in
        let e : width - i ≡ suc (width - suc i) = omega arith in
        let at_next : at + suc i ≡ suc (at + i) = omega arith in
        let within : at + i < length b = omega arith in
        let is : number ≡ spelled (take (width - suc i) (drop (suc (at + i)) b)) = rw at_next at p.is in
        record {
          inside = omega arith;
          fits = rw (e, pow-suc 256 (width - suc i)) (omega (arith, p.fits));
          is = rw (e, drop-cons b (at + i) 0 within, ← is) (omega arith);
        }

pub getting_all : (b : List ℕ) (at width i number : ℕ) → Getting b at width i number → i ≤ 0
    → (number ≡ spelled (take width (drop at b))) × (number < in_width width)
getting_all b at width zero number p h =
    let e : at + 0 ≡ at = omega arith in
    let f : width - 0 ≡ width = omega arith in
    (rw (e, f) at p.is, rw f at p.fits)
getting_all b at width (suc i) number p h = let z : ⊥ = omega arith in absurd z
