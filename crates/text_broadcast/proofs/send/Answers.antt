-- `send` meets its contract: what the writer left at the start of its buffer is what is sent.
use mathlib.Core.Path.{◌≡◌, sym, ap, ◌∙◌}
use mathlib.Core.List.{List, ◌++◌}
use Prim.Native.Nat.{ℕ, ◌≤◌}
use native.Mathlib.Omega.{arith}
use borrow.Author.Rules.{rules}
use lib.ListN.{length}
use lib.Seq.{length-take-le}
use Rattle.text_broadcast.proofs.Sending.{starts_with_sent}
use Rattle.text_broadcast.proofs.send.Goals as goal

pub slice_bounds-message-end : goal.slice_bounds-message-end
slice_bounds-message-end c =
    omega (arith, (starts_with_sent _ _ _ _ _ c.unwrap_or-length.ensures (search rules) c.write.ensures).0)

pub slice_bounds-put_bytes-end : goal.slice_bounds-put_bytes-end
slice_bounds-put_bytes-end c =
    let fits : c.unwrap_or-length.result ≤ length c.write.new.buf =
    omega (arith, (starts_with_sent _ _ _ _ _ c.unwrap_or-length.ensures (search rules) c.write.ensures).0) in
    sym (length-take-le _ _ fits)

pub returns-clause-text : goal.returns-clause-text
returns-clause-text c =
    c.put_bytes.ensures.text
    ∙ ap (λ (t : List ℕ). c.args.out.now ++ t)
    (starts_with_sent _ _ _ _ _ c.unwrap_or-length.ensures (search rules) c.write.ensures).1
