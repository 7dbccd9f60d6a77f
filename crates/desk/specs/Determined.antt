-- Document 01: "For every input, refusals among them, a public call's promise must determine the answer and the whole
-- table after it. Any two outcomes it allows are shown equal." Here is what that says of a contract; it is shown of
-- each public call in proofs/Determined.
use Rattle.std.specs.Prelude.{◌≡◌}
use seplogic.Ra.Ura.{Ura}
use base.Logic.{ent}
use contract.Conj.{conj}
use contract.Lifetimes.{Lfts}
use contract.Monad.{fact}
use denote.Triple.Entry.{Args, Res}
use denote.Triple.Clauses.{Clauses, Ended, AtExit}

-- what the clauses c of T ensure determines the result, and what is left of the parameters at exit
abbrev pub Determined : {M : Type 1} (𝓤 : Ura M) {X : Type 0} (T : Ended) → Clauses 𝓤 T
    → (left : (κs : Lfts T.signature.lifetimes) → AtExit T κs → X) → Type 1
Determined 𝓤 T c left =
    (κs : Lfts T.signature.lifetimes) (a : Args T.signature κs) (g : (c κs a).ghost)
    (r r' : Res T.signature κs) (e e' : AtExit T κs)
    → ent 𝓤 (conj 𝓤 ((c κs a).ensures g r e) ((c κs a).ensures g r' e')) (fact 𝓤 ((r ≡ r') × (left κs e ≡ left κs e')))
