-- `inputs::valid_tentative` meets its contract: a multiple of h is at most the top, which is a multiple too and less
-- than a step above 100,000 bp, exactly where it is less than a step above 100,000 bp itself.
use mathlib.Core.Path.{◌≡◌}
use mathlib.Core.Logic.{◌⊎◌, inl, inr}
use Prim.Native.Nat.{ℕ, ◌+◌, ◌-◌, ◌*◌, ◌/◌, ◌%◌, ◌≤◌, ◌<◌}
use native.Mathlib.Nat.{lt_of_mul-lt-mul_right, mul-le-mul_right}
use native.Mathlib.Omega.{arith}
use lib.Dec.{leb, ltb, eqb}
use borrow.Author.Tests.{le-leb, lt-leb, le-ltb, lt-ltb, eqb-true}
use Rattle.paper.specs.Numbers.{tentative_most}
use Rattle.paper.specs.Ranges.{tentative_top, valid_tentative}
use Rattle.paper.proofs.Logic.{le_or_lt}
use Rattle.paper_desk.proofs.Level.{quotient_times_is}
use Rattle.paper_desk.proofs.TentativeRange.{tentative_top_is, tentative_top_high}
use Rattle.inputs.proofs.Tests.{same_where_second_passes}
use Rattle.inputs.proofs.statics.valid_tentative.Goals as goal

-- a step less than a multiple above the top is 100,000 bp or more, since the top is the least that reaches them
step_less_below_most_is_within_top : (h t : ℕ) → 0 < h → t % h ≡ 0 → ltb (t - h) tentative_most ≡ leb t (tentative_top h)
step_less_below_most_is_within_top h t p e = go (le_or_lt t (tentative_top h))
  where
    whole : t / h * h ≡ t
    whole = quotient_times_is t h e

    go : (t ≤ tentative_top h) ⊎ (tentative_top h < t) → ltb (t - h) tentative_most ≡ leb t (tentative_top h)
    go (inl l) =
        let below : t - h < tentative_most = omega (arith, tentative_top_high h p) in
        rw (le-leb t (tentative_top h) l, lt-ltb (t - h) tentative_most below)
    go (inr l) =
        let top = tentative_top_is h p in
        let top-whole : tentative_top h / h * h ≡ tentative_top h =
        quotient_times_is (tentative_top h) h top.multiple in
        let fewer : tentative_top h / h < t / h =
        lt_of_mul-lt-mul_right h {m = tentative_top h / h} {n = t / h} (omega (arith, whole)) in
        let a-step : (tentative_top h / h + 1) * h ≤ t / h * h = mul-le-mul_right h (omega arith) in
        let reached : tentative_most ≤ t - h = omega (arith, whole, top.enough) in
        rw (lt-leb t (tentative_top h) l, le-ltb (t - h) tentative_most reached)

pub returns : goal.returns
unfolding valid_tentative
returns c =
    let a = c.args in
    let rest : ℕ = a.tentative % a.h in
    rw c.saturating_sub.ensures
    (same_where_second_passes _ _ (eqb rest 0)
    (λ e. step_less_below_most_is_within_top a.h a.tentative c.requires (eqb-true rest 0 e)))
