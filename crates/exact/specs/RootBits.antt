-- How `least_root` looks for a root, bit by bit from the top: what is known of what is found when k bits are to come,
-- and what a turn makes of it. No reader of `least_root`'s own contract needs it.
use Rattle.std.specs.Prelude.{◌≡◌, ℕ, ◌+◌, ◌-◌, ◌*◌, ◌^◌, ◌≤◌, ◌<◌}
use Rattle.exact.specs.declared.Found.{Found}

-- y = x·2^k is the greatest multiple of 2^k with factor·y² at most the number: the rest, which y leaves, is below what
-- the next multiple, y + 2^k, would take of it
pub record Searched (factor k : ℕ) (f : Found) : Type 0 where
  pub bits : k ≤ 20
  pub top : (f.x + 1) * 2 ^ k ≤ 2 ^ 20
  pub doubled : f.doubled ≡ factor * (f.x * 2 ^ k) * 2 ^ 21
  pub above : f.rest < f.doubled + factor * 2 ^ k * 2 ^ 20

-- the number, which is rest and factor·y², times 2^(20 - k)
abbrev pub sought : (factor k : ℕ) → Found → ℕ
sought factor k f = f.rest + factor * (f.x * f.x) * 2 ^ k * 2 ^ 20

-- r is what is found of the same number when one bit less is to come
pub record OneBitMore (factor k : ℕ) (f r : Found) : Type 0 where
  pub searched : Searched factor (k - 1) r
  pub same : sought factor (k - 1) r ≡ 2 * sought factor k f
