-- `record_soundness::is_limit` meets its contract: the limit is made exactly where the definition's first test passes,
-- and its grid is judged by `is_on_grid`.
use mathlib.Core.Path.{◌≡◌, sym, ◌∙◌}
use Prim.Native.Nat.{ℕ}
use native.Mathlib.Omega.{arith}
use lib.Dec.{leb}
use Rattle.paper.specs.declared.Limit.{Limit}
use Rattle.std.specs.declared.option.Option.TheVariants.{None, Some}
use Rattle.paper.specs.Numbers.{limit_most}
use Rattle.paper.specs.Ranges.{is_limit, limit_made}
use Rattle.inputs.proofs.Made.{picked_first, picked_second}
use Rattle.record_soundness.proofs.is_limit.Goals as goal

limit_apart : (x : Limit) → Some x ≡ None → ⊥
limit_apart x e = let z : ◌≡◌ {A = ℕ} 0 1 = cc in omega arith

pub returns-in-Some : goal.returns-in-Some
unfolding is_limit limit_made
returns-in-Some c =
    let x : ℕ = c.args.x in
    let l : Limit = c.in-Some.limit in
    let is : limit_made x ≡ Some l = sym c.new-made.ensures ∙ c.in-Some.is in
    let made = picked_first (leb x limit_most) _ (Some l) None (λ q. limit_apart l (cc)) is in
    let same : ◌≡◌ {A = Limit} l (record { units = x }) = cc in
    rw (c.is_on_grid.ensures, made.0, same)

pub returns-in-None : goal.returns-in-None
unfolding is_limit limit_made
returns-in-None c =
    let x : ℕ = c.args.x in
    let is : limit_made x ≡ None = sym c.new-made.ensures ∙ c.in-None.is in
    rw (picked_second (leb x limit_most) _ None (limit_apart (record { units = x })) is)
