-- `night_serve::serve` meets its contract: what is taken in is answered, and the sheet is handed over.
use mathlib.Core.Path.{refl, sym, ◌∙◌}
use native.Mathlib.Omega.{arith}
use Rattle.paper.proofs.Logic.{not_true_and_false}
use Rattle.night_serve.proofs.Whole.{held_some, answers_good, answers_bad}
use Rattle.night_serve.proofs.serve.Goals as goal

pub print_all-requires : goal.print_all-requires
print_all-requires c = (c.requires.0, c.requires.1, held_some _ _ _ c.in_default.ensures)

pub returns-in-Err : goal.returns-in-Err
returns-in-Err c =
    record {
      end = _;
      takes = c.take_in-taken.ensures;
      answers = λ e. answers_bad _ _ _ _ _ _ _ c.in-Err.ensures refl c.unwritten-told.ensures;
      silent = λ e. absurd (not_true_and_false _ (c.has_failed.ensures ∙ e) c.if-has_failed.false);
    }

pub returns : goal.returns
returns c =
    record {
      end = _;
      takes = c.take_in-taken.ensures;
      answers =
          λ e. answers_good _ _ _ _ _ _ _ c.in_default.ensures c.print_all.ensures refl
          (rw (c.as_slice-bytes.ensures, c.unwritten-told.ensures) at c.hand-told.ensures);
      silent = λ e. absurd (not_true_and_false _ (c.has_failed.ensures ∙ e) c.if-has_failed.false);
    }
