-- Any two outcomes that a promise allows are equal.
use mathlib.Core.Path.{◌≡◌, sym, ◌∙◌}
use mathlib.Core.List.{List}
use Prim.Native.Nat.{ℕ}
use Rattle.paper_messages.specs.declared.Message.{Message}
use Rattle.std.specs.Prelude.{Result}
use Rattle.paper.specs.declared.Verdict.{Verdict}
use Rattle.paper_messages.specs.Messages.{Hearing}
use Rattle.messages.specs.Promises.{Writes, HearsAt}

pub write_determined : (b : List ℕ) (m : Message) (r r' : Result ℕ Verdict) (after after' : List ℕ) → Writes b m r after
    → Writes b m r' after'
    → (r ≡ r') × (after ≡ after')
write_determined b m r r' after after' p q = (p.answers ∙ sym q.answers, p.leaves ∙ sym q.leaves)

pub read_determined : (b : List ℕ) (at : ℕ) (r r' : Hearing) → HearsAt b at r → HearsAt b at r' → r ≡ r'
read_determined b at r r' p q = p.answers ∙ sym q.answers
