-- `interest_maturities::nth` meets its contract: behind n key maturities it is the first, and with fewer there is none.
use Rattle.std.proofs.Common.{◌≡◌, ◌∙◌, ℕ, ◌*◌, arith, take, drop, sym, ap}
use Rattle.std.proofs.lemmas.List.{length-drop}
use Rattle.std.proofs.Math.Seq.{take-length}
use Rattle.interest_maturities.specs.KeyLaws.{nth_is, nth_past}
use Rattle.interest_maturities.proofs.nth.Goals as goal

pub returns-in_err-get : goal.returns-in_err-get
returns-in_err-get c = rw c.from_residual.ensures (sym (nth_past _ _ (omega (arith, c.in_err-get.ensures.lookup))))

pub returns-in_err-k : goal.returns-in_err-k
returns-in_err-k c =
    rw c.from_residual-in_err-k.ensures
    (sym (nth_past _ _ (omega (arith, c.in_ok-get.ensures.lookup, c.in_err-k.ensures.parts))))

pub returns : goal.returns
returns c =
    let found = c.in_ok-get.ensures.lookup in
    let rest = drop (8 * c.args.n) c.args.numbers.now in
    let is : c.in_ok-get.field-0.now ≡ rest =
    found.0.2
    ∙ ap (λ (m : ℕ). take m rest) (sym (length-drop (8 * c.args.n) c.args.numbers.now))
    ∙ take-length rest in
    sym (nth_is _ _ _ _ (omega (arith, found, c.in_ok-k.ensures.shorter)) (rw is at c.in_ok-k.ensures.parts))
