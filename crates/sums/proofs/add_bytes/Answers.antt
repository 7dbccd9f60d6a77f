use Rattle.std.proofs.Common.{ℕ, ◌≤◌, List, length, drop, ap, ap₂, sym, ◌∙◌, arith, add-one, drop-cons, drop_of_length-le}
use Rattle.sums.specs.Sums.{after_bytes}
use Rattle.sums.proofs.add_bytes.Goals as goal

pub loop-byte-preserved : goal.loop-byte-preserved
unfolding after_bytes
loop-byte-preserved c =
    let at : ℕ = c.loop-byte.byte-index in
    let bytes : List ℕ = c.args.bytes.now in
    ap₂ after_bytes c.add_byte-left.ensures (ap (λ (n : ℕ). drop n bytes) (add-one at))
    ∙ sym (ap (after_bytes c.loop-byte.left) (drop-cons bytes at 0 c.loop-byte-test.true))
    ∙ c.loop-byte.invariant

pub returns : goal.returns
unfolding after_bytes
returns c =
    let bytes : List ℕ = c.args.bytes.now in
    let over : length bytes ≤ c.loop-byte.byte-index = omega arith in
    sym (ap (after_bytes c.loop-byte.left) (drop_of_length-le bytes over)) ∙ c.loop-byte.invariant
