use mathlib.Core.Path.{◌≡◌}
use native.Mathlib.Nat.{pos_of_ne-zero}
use native.Mathlib.Omega.{arith}
use Rattle.paper.specs.Least.{least_root, least, first}
use Rattle.exact.proofs.RootSearch.{RootSearch, shifted_fits, begins, goes_on, ends}
use Rattle.exact.proofs.least_root.Goals as goal
use Rattle.exact.proofs.least_root.Goals.{After-loop-k-2}

-- what is known when no bit is to come
last_known : (c : After-loop-k-2)
    → RootSearch c.before.before.before.before.before.before.before.args.factor
    c.before.before.before.before.before.before.before.args.n
    0
    c.before.loop-k-2.found
last_known c =
    let none : c.before.loop-k-2.k ≡ 0 = omega arith in
    rw none at c.before.loop-k-2.invariant

pub returns-then-n-eq0 : goal.returns-then-n-eq0
unfolding least_root least first
returns-then-n-eq0 c = rw c.if-n-eq0.true

pub overflow_sub-n : goal.overflow_sub-n
overflow_sub-n c = omega (arith, pos_of_ne-zero c.if-n-eq0.false)

pub shl-requires : goal.shl-requires
shl-requires c =
    let known = c.root_bits-k.ensures in
    (omega arith, shifted_fits _ _ _ known.0 known.1 _ (omega arith) c.requires.1)

pub loop-k-init : goal.loop-k-init
loop-k-init c =
    let known = c.root_bits-k.ensures in
    let shifted = c.shl.ensures in
    rw shifted (begins _ _ _ known.0 known.1 (pos_of_ne-zero c.if-n-eq0.false))

pub next_bit-found-requires : goal.next_bit-found-requires
next_bit-found-requires c =
    (omega arith, c.requires.1, c.loop-k.invariant.searched)

pub loop-k-preserved : goal.loop-k-preserved
loop-k-preserved c =
    goes_on _ _ _ _ _ (omega arith) c.loop-k.invariant c.next_bit-found.ensures

pub loop-k-2-init : goal.loop-k-2-init
loop-k-2-init c = c.loop-k.invariant

pub next_bit-found-requires-in-loop-k-2 : goal.next_bit-found-requires-in-loop-k-2
next_bit-found-requires-in-loop-k-2 c =
    (omega arith, c.requires.1, c.loop-k-2.invariant.searched)

pub loop-k-2-preserved : goal.loop-k-2-preserved
loop-k-2-preserved c =
    goes_on _ _ _ _ _ (omega arith) c.loop-k-2.invariant c.next_bit-found-in-loop-k-2.ensures

pub overflow_add-result : goal.overflow_add-result
overflow_add-result c = omega (arith, (last_known (goal.at.overflow_add-result c).After-loop-k-2).searched.top)

pub returns : goal.returns
returns c =
    ends _ _ _ c.requires.0 (pos_of_ne-zero c.if-n-eq0.false) (last_known (goal.at.returns c).After-loop-k-2)
