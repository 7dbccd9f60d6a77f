-- What the near test is worked out in: its ranges, and its one comparison.
use Rattle.std.specs.Prelude.{◌≡◌, Bool, true, ℕ, ◌≤◌, pos, ◌*ℤ◌}
use Rattle.std.proofs.Common.{arith, leb-true}
use Rattle.std.proofs.Math.IntN.{sub_ℕ}
use Rattle.std.specs.Int.Signed.{lt_z}
use Rattle.paper.specs.declared.Statics.{Statics}
use Rattle.paper.specs.declared.Limits.{Limits}
use Rattle.paper.specs.Numbers.{one_in_ten_thousandths, limit_most, nearness_most, quote_most}
use Rattle.paper.specs.Ranges.{valid_statics, valid_limits, is_limit}
use Rattle.paper.proofs.Logic.{and_left, and_right}
use Rattle.paper.proofs.StaticsFacts.{statics_facts}

-- "w 0..5,000", "limits .. 0..2·10^12 + 2·10^10"; a price, quoted or a limit, is at most that too
pub record NearRange (w : ℕ) (x : Limits) (price : ℕ) : Type 0 where
  pub nearness : w ≤ nearness_most
  pub lower : x.lower ≤ limit_most
  pub upper : x.upper ≤ limit_most
  pub within : price ≤ limit_most

-- so it is of valid statics, a sound record's limits and a valid quote's price
pub near_range : (st : Statics) (g : ℕ) (x : Limits) (price : ℕ) → valid_statics st ≡ true → valid_limits g x ≡ true
    → price ≤ quote_most
    → NearRange st.w x price
unfolding valid_limits is_limit
near_range st g x price v l p =
    record {
      nearness = (statics_facts st v).w;
      lower = leb-true _ _ (search (l, and_left, and_right));
      upper = leb-true _ _ (search (l, and_left, and_right));
      within = omega arith;
    }

-- "to - from strictly less than w·(PcH - PcL)"
unfoldable pub closer : (w : ℕ) → Limits → (from to : ℕ) → Bool
closer w x from to = lt_z (pos one_in_ten_thousandths *ℤ sub_ℕ to from) (pos w *ℤ sub_ℕ x.upper x.lower)
