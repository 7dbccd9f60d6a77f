-- `rows::rows_valid` meets its contract: only whole rows are walked, each chunk is the row at its place, and without
-- whole rows the definition's first test fails.
use mathlib.Core.Path.{refl, ap}
use native.Mathlib.Omega.{arith}
use borrow.Author.Rules.{rules}
use Rattle.std.specs.Slice.Iter.{chunks_exact_size, chunks_exact_rest}
use Rattle.paper.specs.Ranges.{valid_rows, valid_row, rows_of, row_at}
use Rattle.exact.specs.Chunks.{all_answers, chunks_read}
use Rattle.rows.specs.RowLaws.{chunk_is_row}
use Rattle.rows.proofs.rows_valid.Goals as goal

pub returns-then-whole_rows : goal.returns-then-whole_rows
unfolding valid_rows rows_of
returns-then-whole_rows c =
    let run = c.all.ensures.runs in
    let chunks =
    chunks_read run.0 chunks_exact_size chunks_exact_rest _ _ _ (omega arith) run.1 c.chunks_exact.ensures.size c.chunks_exact.ensures.rest
    (c.chunks_exact.ensures.runs run.0 run.0.seen) in
    rw (← c.whole_rows.ensures, c.if-whole_rows.true)
    (all_answers run.0 _ _ valid_row row_at _ _ (omega arith) chunks (λ x. valid_row (row_at x 0)) (λ x at part. ap valid_row (chunk_is_row _ x at part)) (λ b. b)
    (λ x b seven call. search rules)
    (λ a r f' call. search rules) c.args.rows refl refl _ run.2)

pub returns-else-whole_rows : goal.returns-else-whole_rows
unfolding valid_rows
returns-else-whole_rows c = rw (← c.whole_rows.ensures, c.if-whole_rows.false)
