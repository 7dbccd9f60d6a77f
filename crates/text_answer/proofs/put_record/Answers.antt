-- `put_record` meets its contract: its parts stand in the order of `record_numbers`.
use Rattle.text_answer.proofs.Told.{record_told}
use Rattle.text_answer.proofs.put_record.Goals as goal

pub returns-clause-text : goal.returns-clause-text
returns-clause-text c =
    record_told c.args.r c.args.out.now _ _ _ _ _ _ _ c.put_levels.ensures.text c.put_term.ensures.text
    c.put_term-2.ensures.text c.put_term-3.ensures.text c.put_last.ensures.text c.put_session.ensures.text
    c.put_external.ensures.text
