-- Laws of "Units and ranges" and of the gateway's answers.
use mathlib.Core.Path.{◌≡◌, refl}
use mathlib.Core.Logic.{◌⊎◌, inl, inr}
use mathlib.Core.Bool.{Bool, true, false, ◌&&◌}
use Prim.Native.Nat.{ℕ, zero, suc, ◌+◌, ◌-◌, ◌^◌, ◌≤◌, ◌<◌}
use native.Mathlib.Omega.{arith}
use lib.Dec.{leb}
use lib.IntN.{ℤ, pos, negsuc}
use borrow.Author.Tests.{le-leb, lt-leb}
use Rattle.paper.specs.declared.GivenStatics.{GivenStatics}
use Rattle.paper.specs.Lists.{pick}
use Rattle.paper.specs.Numbers.{past_every}
use Rattle.paper.specs.Least.{least}
use Rattle.paper.specs.Ranges.{within, within_z, unsigned, grid_of, ceiling_log10, valid_given}
use Rattle.paper.specs.Verdicts.{is_done, first_of}
use Rattle.paper_desk.specs.Gateway.{gateway_checks, gateway_answer}
use Rattle.paper.proofs.Logic.{le_or_lt}
use Rattle.paper.proofs.Search.{least_unique}

-- a number below zero is out of every range, and a number that is not is in it exactly where it is between its ends
pub unsigned_within : (low high : ℕ) (x : ℤ) → high < past_every
    → within low high (unsigned x) ≡ within_z (pos low) (pos high) x
unfolding unsigned
unsigned_within low high (pos n) h = refl
unsigned_within low high (negsuc n) h = go (leb low past_every)
  where
    past : leb past_every high ≡ false
    past = lt-leb past_every high h

    go : (b : Bool) → (b && leb past_every high) ≡ false
    go true = past
    go false = refl

pub grid_is_power_of_ten : (lot : ℕ) → lot ≤ 100 → grid_of lot ≡ 10 ^ (4 - (ceiling_log10 lot + 2))
unfolding grid_of ceiling_log10
grid_is_power_of_ten lot h = go (le_or_lt lot 1) (le_or_lt lot 10)
  where
    enough : ℕ → Bool
    enough e = leb lot (10 ^ e)

    below_one : 1 < lot → (z : ℕ) → z < 1 → enough z ≡ false
    below_one a zero l = lt-leb lot 1 a
    below_one a (suc z) l = absurd (omega arith)

    below_two : 10 < lot → (z : ℕ) → z < 2 → enough z ≡ false
    below_two b zero l = lt-leb lot 1 (omega arith)
    below_two b (suc zero) l = lt-leb lot 10 b
    below_two b (suc (suc z)) l = absurd (omega arith)

    go : (lot ≤ 1) ⊎ (1 < lot) → (lot ≤ 10) ⊎ (10 < lot) → pick (leb lot 1) 100 (pick (leb lot 10) 10 1)
        ≡ 10 ^ (4 - (least 2 enough + 2))
    go (inl a) b =
        let e : least 2 enough ≡ 0 =
        least_unique 2 enough 0 (omega arith) (λ _. le-leb lot 1 a) (λ z l. absurd (omega arith)) in
        rw (le-leb lot 1 a, e)
    go (inr a) (inl b) =
        let e : least 2 enough ≡ 1 = least_unique 2 enough 1 (omega arith) (λ _. le-leb lot 10 b) (below_one a) in
        rw (lt-leb lot 1 a, le-leb lot 10 b, e)
    go (inr a) (inr b) =
        let e : least 2 enough ≡ 2 = least_unique 2 enough 2 (omega arith) (λ l. absurd (omega arith)) (below_two b) in
        rw (lt-leb lot 1 a, lt-leb lot 10 b, e)

-- ---- the gateway: "one figure, or minus the refusal number", 4 before 6

pub gateway_answers_minus_four : (g : GivenStatics) (in_range : Bool) (figure : ℕ) → valid_given g ≡ false
    → gateway_answer (first_of (gateway_checks g in_range)) figure ≡ negsuc 3
unfolding gateway_answer gateway_checks first_of is_done
gateway_answers_minus_four g in_range figure e = rw e

pub gateway_answers_minus_six : (g : GivenStatics) (in_range : Bool) (figure : ℕ) → valid_given g ≡ true → in_range ≡ false
    → gateway_answer (first_of (gateway_checks g in_range)) figure ≡ negsuc 5
unfolding gateway_answer gateway_checks first_of is_done
gateway_answers_minus_six g in_range figure e f = rw (e, f)

pub gateway_answers_figure : (g : GivenStatics) (in_range : Bool) (figure : ℕ) → valid_given g ≡ true → in_range ≡ true
    → gateway_answer (first_of (gateway_checks g in_range)) figure ≡ pos figure
unfolding gateway_answer gateway_checks first_of is_done
gateway_answers_figure g in_range figure e f = rw (e, f)
