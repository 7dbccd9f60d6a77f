-- `record_calls::admission::admitted` meets its contract: an admission with a price that is not made is refused 4, and with
-- both made it is `admitted_at`'s.
use mathlib.Core.Path.{sym, ◌∙◌}
use Rattle.paper.proofs.Logic.{not_true_and_false}
use Rattle.inputs.proofs.Made.{price_made_lem, price_unmade}
use Rattle.record_calls.proofs.Judging.{admission_invalid, admission_prices_valid}
use Rattle.record_calls.proofs.admission.admitted.Goals as goal

-- each price in hand is the one that was given
pub admitted_at-requires : goal.admitted_at-requires
admitted_at-requires c = (
  (price_made_lem _ _ (sym c.new-later.ensures ∙ c.in-Some.is)).1,
  (price_made_lem _ _ (sym c.new-earlier.ensures ∙ c.in-Some-earlier.is)).1,
)

pub returns-in-None : goal.returns-in-None
returns-in-None c =
    let out = price_unmade _ (sym c.new-later.ensures ∙ c.in-None.is) in
    c.refused.ensures ∙ admission_invalid _ _ _ (λ v. not_true_and_false _ (admission_prices_valid _ v).0 out)

pub returns-in-None-earlier : goal.returns-in-None-earlier
returns-in-None-earlier c =
    let out = price_unmade _ (sym c.new-earlier.ensures ∙ c.in-None-earlier.is) in
    c.refused-in-None-earlier.ensures ∙ admission_invalid _ _ _ (λ v. not_true_and_false _ (admission_prices_valid _ v).1 out)
