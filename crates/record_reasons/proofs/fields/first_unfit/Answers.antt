-- `fields::first_unfit` meets its contract: each test of the code is the definition's, from the last place to the first.
use Rattle.record_reasons.proofs.fields.first_unfit.Goals as goal

pub returns : goal.returns
returns c =
    rw (
      c.named_or.ensures,
      c.is_on_grid-2.ensures,
      c.named_or-f-8.ensures,
      c.is_on_grid.ensures,
      c.named_or-f-7.ensures,
      c.valid_tentative.ensures,
      c.named_or-f-6.ensures,
      c.named_or-f-5.ensures,
      c.named_or-f-4.ensures,
      c.is_off.ensures,
      c.named_or-f-3.ensures,
      c.is_unfit-3.ensures,
      c.named_or-f-2.ensures,
      c.is_unfit-2.ensures,
      c.named_or-f.ensures,
      c.is_unfit.ensures,
    )
