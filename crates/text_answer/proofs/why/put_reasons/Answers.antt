-- `put_reasons` meets its contract: what is named, each with its reason, and the figures.
use Rattle.text_answer.proofs.Told.{reasons_told}
use Rattle.text_answer.proofs.why.put_reasons.Goals as goal

pub returns-clause-text : goal.returns-clause-text
returns-clause-text c =
    reasons_told c.args.r c.args.out.now _ _ _ _ _ _ _ _ c.put_named.ensures.text c.put_named-2.ensures.text
    c.put_named-3.ensures.text c.put_named-4.ensures.text c.put_named-5.ensures.text c.put_named-6.ensures.text
    c.put_named-7.ensures.text c.put_figures.ensures.text
