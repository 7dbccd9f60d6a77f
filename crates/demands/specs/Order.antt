-- Document 02, W-213, "Order, for every member's comfort": what holds of every live record after every list of calls on
-- every fresh table, in the request's words and order. proofs/Order.antt proves it, and OrderCases has a case of each
-- condition without which a line fails.
use Rattle.std.specs.Prelude.{◌≡◌, ◌≢◌, Bool, true, ◌&&◌, List, [], ◌∷◌, ℕ, ◌+◌, ◌%◌, ◌<◌, leb, pos, get_or}
use Rattle.std.specs.Int.Signed.{le_z}
use Rattle.paper.specs.declared.Limits.{Limits}
use Rattle.paper.specs.declared.Term.{Term}
use Rattle.paper.specs.declared.Record.{Record}
use Rattle.paper.specs.Lists.{three}
use Rattle.paper.specs.Numbers.{limit_most}
use Rattle.paper.specs.Ranges.{within, is_live, term_at, rate_at, range_at, band_at}
use Rattle.paper_desk.specs.Rates.{minimum_of}
use Rattle.paper_desk.specs.Desk.{Call, id_of, blank, step}
use Rattle.demands.specs.Demands.{BandsInOrder}

-- ---- the words

-- "ascend": each number is at most the one behind it, and two may be equal
unfoldable pub never_falls : (numbers : List ℕ) → Bool
never_falls [] = true
never_falls (x ∷ []) = true
never_falls (x ∷ y ∷ rest) = leb x y && never_falls (y ∷ rest)

-- "the three rates"
abbrev pub rates_of : Record → List ℕ
rates_of r = three (λ i. rate_at r.rates i)

-- "lower ranges 3, 2, 1, the evaluation, and upper ranges 1, 2, 3"
abbrev pub ranges_around : Record → List ℕ
ranges_around r =
    (range_at r 2).lower ∷ (range_at r 1).lower ∷ (range_at r 0).lower
    ∷ r.p1.units
    ∷ (range_at r 0).upper ∷ (range_at r 1).upper ∷ (range_at r 2).upper ∷ []

-- "RRcL ≤ 0 ≤ RRcH for a term"
abbrev pub holds_zero : Term → Bool
holds_zero x = le_z x.low (pos 0) && le_z (pos 0) x.high

-- neither limit exceeds the greatest
abbrev pub at_most : (greatest : ℕ) → Limits → Bool
at_most greatest x = leb x.lower greatest && leb x.upper greatest

-- ---- a live record

-- what stands in a slot of a table; past its end nothing does, which counts as an empty slot
abbrev pub slot_at : List Record → (slot : ℕ) → Record
slot_at t n = get_or t n blank

-- a slot holds a live record: "id 0 marks an empty slot", whatever else stands in it
pub record HoldsLive (t : List Record) (slot : ℕ) : Type 0 where
  pub full : (slot_at t slot).id ≢ 0
  pub live : is_live (slot_at t slot).standing ≡ true

-- ---- the request

-- of the live record r in a slot of the table t
pub record InOrder (t : List Record) (slot : ℕ) (r : Record) : Type 0 where
  -- "the three rates ascend, lie between minimum and maximum and are multiples of h": the minimum of its own level
  pub rates_ascend : never_falls (rates_of r) ≡ true
  pub rates_between : (i : ℕ) → i < 3
      → within (minimum_of r.statics (i + 1)) r.statics.smax (rate_at r.rates i) ≡ true
  pub rates_multiples : (i : ℕ) → i < 3 → rate_at r.rates i % r.statics.h ≡ 0
  -- "lower ranges 3, 2, 1, the evaluation, and upper ranges 1, 2, 3 ascend"
  pub ranges_ascend : never_falls (ranges_around r) ≡ true
  -- "each band's lower limit isn't above its upper"
  pub bands : BandsInOrder r
  -- "Where RRcL ≤ 0 ≤ RRcH for a term, the evaluation lies within that term's band."
  pub evaluation_within : (k : ℕ) → k < 3 → holds_zero (term_at r.terms k) ≡ true
      → within (band_at r k).lower (band_at r k).upper r.p1.units ≡ true
  -- "No limit in the table then exceeds 2·10^12 + 2·10^10 units."
  pub ranges_most : (i : ℕ) → i < 3 → at_most limit_most (range_at r i) ≡ true
  pub bands_most : (k : ℕ) → k < 3 → at_most limit_most (band_at r k) ≡ true
  -- "Records of other ids are the same before and after": a call about another id leaves this record in its slot
  pub others : (c : Call) → r.id ≢ id_of c → slot_at (step c t).table slot ≡ r
