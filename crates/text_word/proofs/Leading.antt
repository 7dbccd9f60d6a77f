-- Digits that lead a word, on plain values: where the word ends behind them, it is the number that they spell.
use mathlib.Core.Path.{◌≡◌, refl, sym}
use mathlib.Core.Bool.{Bool, true, false}
use mathlib.Core.List.{List, [], ◌∷◌}
use Prim.Native.Nat.{ℕ, suc, ◌+◌, ◌-◌, ◌*◌, ◌≤◌, ◌<◌}
use native.Mathlib.Omega.{arith}
use lib.Dec.{leb}
use lib.IntN.{pos}
use lib.ListN.{length, take, drop, get_or, drop_of_length-le, length-drop}
use lib.Seq.{drop-cons, length-take-le}
use borrow.Author.Tests.{leb-true, le-leb, ne_eqb}
use Rattle.paper.proofs.Logic.{and_left}
use Rattle.std.specs.declared.option.Option.TheVariants.{None, Some}
use Rattle.text_protocol.specs.declared.Item.TheVariants as item
use Rattle.text_bytes.specs.Bytes.{is_blank, run, digit_zero, digit_nine, minus_sign, space, tab, carriage_return}
use Rattle.text_bytes.specs.Numbers.{is_digit, size_from, size_of, up_to, above, number_of, greatest}
use Rattle.text_bytes.proofs.Spelling.{within_is_digit}
use Rattle.text_protocol.specs.Line.{item_of}
use Rattle.text_word.specs.Parts.{is_solid, Leads, word_from}
use Rattle.text_word.proofs.WordLoops.{running_none, running_more}
use Rattle.text_word.proofs.Items.{item_one}

-- ---- where a word ends

pub ends_blank : (t : List ℕ) (i : ℕ) → i < length t → is_blank (get_or t i 0) ≡ true → run is_solid (drop i t) ≡ 0
unfolding run is_solid
ends_blank t i h e = rw (drop-cons t i 0 h, e)

pub ends_text : (t : List ℕ) (i : ℕ) → length t ≤ i → run is_solid (drop i t) ≡ 0
unfolding run
ends_text t i h = rw (drop_of_length-le t h)

-- ---- a digit more

digit_solid : (b : ℕ) → digit_zero ≤ b → is_solid b ≡ true
unfolding is_solid is_blank
digit_solid b h =
    let no-space : b ≡ space → ⊥ = λ e. omega arith in
    let no-tab : b ≡ tab → ⊥ = λ e. omega arith in
    let no_return : b ≡ carriage_return → ⊥ = λ e. omega arith in
    rw (ne_eqb b space no-space, ne_eqb b tab no-tab, ne_eqb b carriage_return no_return)

pub leads_none : (t : List ℕ) (from : ℕ) → from ≤ length t → Leads t from from 0
leads_none t from h =
    record { word = running_none is_solid t from h; low = omega arith; small = omega arith; size = refl }

module _ (t : List ℕ) (from i x : ℕ) (p : Leads t from i x) (h : i < length t) (b : ℕ) (e : b ≡ get_or t i 0)
    (lo : digit_zero ≤ b) (up : b ≤ digit_nine) (fits : x ≤ 922337203685477579) where
  solid : is_solid (get_or t i 0) ≡ true
  solid = rw (← e) (digit_solid b lo)

  digit : is_digit (get_or t i 0) ≡ true
  digit = rw (← e) (within_is_digit b lo up)

  on : size_from (10 * x + (get_or t i 0 - digit_zero)) (word_from t (suc i)) ≡ size_from 0 (word_from t from)
  unfolding run size_from
  on = rw (drop-cons t i 0 h, solid, digit) at p.size

  pub leads_more : Leads t from (i + 1) (10 * x + (b - digit_zero))
  leads_more =
      let f : i + 1 ≡ suc i = omega arith in
      record {
        word = running_more is_solid t from i p.word h solid;
        low = omega (arith, p.low);
        small = omega arith;
        size = rw (f, e) on;
      }

-- ---- a word that is digits alone

plain_number : (w : List ℕ) (x : ℕ) → 0 < length w → size_from 0 w ≡ Some x → x ≤ greatest
    → number_of w ≡ Some (pos x)
unfolding number_of size_of is_digit size_from above up_to
plain_number [] x h e m = let z : ⊥ = omega arith in absurd z
plain_number (b ∷ t) x h e m = rw (ne_eqb b minus_sign (no_minus (is_digit b) refl e), e) (within m)
  where
    no_minus : (d : Bool) → is_digit b ≡ d → size_from 0 (b ∷ t) ≡ Some x → b ≡ minus_sign → ⊥
    no_minus true d s q =
        let low : digit_zero ≤ b = leb-true digit_zero b (and_left (leb digit_zero b) (leb b digit_nine) d) in
        omega arith
    no_minus false d s q = let z : None ≡ Some x = rw d at s in let y : ◌≡◌ {A = ℕ} 0 1 = cc in omega arith

    within : x ≤ greatest → above (up_to greatest (Some x)) ≡ Some (pos x)
    within l = rw (le-leb x greatest l)

module _ (t : List ℕ) (from e x : ℕ) (p : Leads t from e x) (some : from < e) (ends : run is_solid (drop e t) ≡ 0) where
  pub digits_end : e ≡ from + run is_solid (drop from t)
  digits_end = omega (arith, p.word.rest)

  word_is : take (e - from) (drop from t) ≡ word_from t from
  word_is =
      let n : e - from ≡ run is_solid (drop from t) = omega (arith, digits_end) in
      rw n

  spelt : size_from 0 (take (e - from) (drop from t)) ≡ Some x
  unfolding size_from
  spelt = rw word_is (sym (rw ends at p.size))

  long : length (take (e - from) (drop from t)) ≡ e - from
  long = length-take-le (e - from) (drop from t) (rw (length-drop from t) (omega (arith, p.word.in_t)))

  pub digits_item : item.One (pos x) ≡ item_of (take (e - from) (drop from t))
  digits_item =
      item_one (take (e - from) (drop from t)) (pos x)
      (plain_number (take (e - from) (drop from t)) x (omega (arith, long)) spelt p.small)
