-- `every_within` meets its contract: a chunk holds the numbers from its place on, so that its test is the place's.
use mathlib.Core.Path.{◌≡◌, refl}
use mathlib.Core.List.{List}
use Prim.Native.Nat.{ℕ, zero, suc, ◌+◌, ◌≤◌}
use native.Mathlib.Omega.{arith}
use lib.IntN.{ℤ, pos}
use lib.ListN.{length}
use borrow.Author.Rules.{rules}
use Rattle.std.specs.List.{IsSubsliceAt}
use Rattle.std.specs.Slice.Iter.{chunks_exact_size, chunks_exact_rest}
use Rattle.exact.specs.Chunks.{all_answers, chunks_read}
use Rattle.exact.specs.Within.{within_first, all_within, every_within, place}
use Rattle.exact.proofs.every_within.Goals as goal

-- the first so many of a chunk are those from its place on
first_same : (least most numbers x : List ℤ) (at n : ℕ) → n ≤ length least → IsSubsliceAt (length least) numbers at x
    → within_first least most x 0 n ≡ within_first least most numbers at n
unfolding within_first
first_same least most numbers x at zero h e = refl
first_same least most numbers x at (suc n) h e =
    let here : 0 + n ≡ n = omega arith in
    rw (first_same least most numbers x at n (omega arith) e, here, e.2 n (pos 0) (omega arith))

pub returns : goal.returns
unfolding every_within
returns c =
    let a = c.args in
    let run = c.all.ensures.runs in
    let chunks =
    chunks_read run.0 chunks_exact_size chunks_exact_rest _ _ _ c.requires.least_nonzero.0 run.1 c.chunks_exact.ensures.size
    c.chunks_exact.ensures.rest (c.chunks_exact.ensures.runs run.0 run.0.seen) in
    all_answers run.0 _ _ (all_within a.least.now a.most.now a.numbers.now) place _ _ c.requires.least_nonzero.0 chunks
    (λ x. all_within a.least.now a.most.now x 0) (λ x at part. first_same _ _ _ x at _ (omega arith) part) (λ b. b)
    (λ x b wide call. search rules) (λ d r f' call. search rules) a.numbers refl refl _ run.2
