-- Document 02, W-202, on both sides of its lines: t where the replacement wins, and where it does not. W-208: its t
-- beside S_max, with the rates, which S_max holds.
-- It may use Rates, and the values of PinnedValues.
use Rattle.std.specs.Prelude.{◌≡◌, refl, List, [], ◌∷◌, map, ℕ, ◌+◌, ℤ, pos}
use Rattle.paper.specs.declared.Rate.{Rate}
use Rattle.paper.specs.declared.Statics.{Statics}
use Rattle.paper.specs.Ranges.{given_of, statics_of}
use Rattle.paper.specs.declared.Figures.{Figures}
use Rattle.paper_desk.specs.Rates.{modelled}
use Rattle.paper.specs.PinnedValues.{◌but◌, liq_at, minima_at, z_numbers}
use Rattle.paper_desk.specs.PinnedSequence.{numbers}

-- new s, and the tentative rate that a rate of 0 becomes, which is t where t is at least a step; after b holidays, with
-- the last rate S_1, the move r and the old s, by Z's statics with changes
carried_by : (numbersOfZ : List ℤ) → (b s1 r s : ℕ) → List ℕ
unfolding numbers statics_of given_of z_numbers
carried_by numbersOfZ b s1 r s =
    let st : Statics = statics_of (given_of numbersOfZ) in
    let f : Figures = modelled st b 0 s1 r s (record { bp = 0; age = 0 }) in
    f.s ∷ f.tentative.bp ∷ []

pub replacements : List (List ℕ)
unfolding carried_by
replacements =
    -- "When a share's replacement is the greater, ..; on a tie the ordinary rule stands.": r is 10,000, y 3,334, and x
    -- is 3,333, then 3,334, then 3,335
    carried_by z_numbers 0 99 10000 1109
    ∷ carried_by z_numbers 0 99 10000 1110
    ∷ carried_by z_numbers 0 99 10000 1114
    -- x is y again, where r is not above 100·S_1: no y is taken
    ∷ carried_by z_numbers 0 100 10000 1110
    -- y is taken after one holiday and not after two
    ∷ carried_by z_numbers 1 99 20000 1109
    ∷ carried_by z_numbers 2 99 20000 1109
    -- "the least multiple of h with 100·t ≥ r": one below 100·h, at it, and one above
    ∷ carried_by z_numbers 0 0 9999 0
    ∷ carried_by z_numbers 0 0 10000 0
    ∷ carried_by z_numbers 0 0 10001 0
    ∷ []

pub replacements_are : replacements
    -- 0.9·1,109² + 0.1·10,000² is 11,106,892.9, and 3,333² is 11,108,889: y wins, and 100·100 is r
    ≡ (3334 ∷ 100 ∷ [])
    -- 0.9·1,110² + 0.1·10,000² is 11,108,890, one above: x is y, and 300·3,334 is 1,000,200
    ∷ (3334 ∷ 200 ∷ [])
    -- 0.9·1,114² + 0.1·10,000² is 11,116,896.4, and 3,334² is 11,115,556
    ∷ (3335 ∷ 200 ∷ [])
    ∷ (3334 ∷ 200 ∷ [])
    -- y is 6,667, and 300·6,667 is 2,000,100; with the weight 0, s stays, and 300·1,109 is 332,700
    ∷ (6667 ∷ 200 ∷ [])
    ∷ (1109 ∷ 100 ∷ [])
    ∷ (3333 ∷ 100 ∷ [])
    ∷ (3334 ∷ 100 ∷ [])
    ∷ (3334 ∷ 200 ∷ [])
    ∷ []
unfolding replacements
replacements_are = refl

-- the evening after a replacement that won (line 1), with b holidays and a move of 0: new s, and the tentative rate
pub afterwards : (b : ℕ) → List ℕ
unfolding carried_by
afterwards b =
    let st : Statics = statics_of (given_of z_numbers) in
    let won : Figures = modelled st 0 0 99 10000 1109 (record { bp = 0; age = 0 }) in
    let f : Figures = modelled st b 0 99 0 won.s won.tentative in
    f.s ∷ f.tentative.bp ∷ []

-- "on a tie the ordinary rule stands", and so on every evening on which no replacement wins: with the weight 0 s stays
-- 3,334, and t is 200 by the ordinary rule; with a_down, 500 of 10,000, s is 3,250, and t is 100 as it was
pub afterwards_are : map afterwards (2 ∷ 1 ∷ []) ≡ (3334 ∷ 200 ∷ []) ∷ (3250 ∷ 100 ∷ []) ∷ []
unfolding afterwards
afterwards_are = refl

-- ---- W-208: "Take the cap off t, W-202's included. .. Rates stay held at S_max"

-- Z's, with S_max 200 bp, minima and liq 0
low_most : List ℤ
unfolding z_numbers
low_most =
    z_numbers but (liq_at, pos 0) but (minima_at, pos 0) but (minima_at + 1, pos 0) but (minima_at + 2, pos 0)
    but (minima_at + 3, pos 200)

-- the tentative rate that a rate of 0 becomes when a replacement by the move r wins, and the three rates
rated_by : (r : ℕ) → List ℕ
unfolding carried_by low_most
rated_by r =
    let f : Figures = modelled (statics_of (given_of low_most)) 0 0 0 r 0 (record { bp = 0; age = 0 }) in
    f.tentative.bp ∷ map (λ (x : Rate). x.bp) f.rates

-- t is a step below S_max, at it, and a step above
pub rated : List (List ℕ)
unfolding rated_by
rated = map rated_by (10000 ∷ 20000 ∷ 20001 ∷ [])

pub rated_are : rated
    -- 100·sqrt(5/2) is 158.1
    ≡ (100 ∷ 100 ∷ 200 ∷ 200 ∷ [])
    ∷ (200 ∷ 200 ∷ 200 ∷ 200 ∷ [])
    ∷ (300 ∷ 200 ∷ 200 ∷ 200 ∷ [])
    ∷ []
unfolding rated
rated_are = refl
