-- `rows::has_crossed_row` meets its contract: some row is crossed where not every row passes.
use mathlib.Core.Path.{refl, sym, ap, ◌∙◌}
use mathlib.Core.Bool.{not, not-not}
use native.Mathlib.Omega.{arith}
use borrow.Author.Rules.{rules}
use Rattle.std.specs.Slice.Iter.{chunks_exact_size, chunks_exact_rest}
use Rattle.paper.specs.Ranges.{rows_of, row_at}
use Rattle.exact.specs.Chunks.{any_answers, chunks_read}
use Rattle.rows.specs.RowLaws.{chunk_is_row}
use Rattle.rows.specs.RowTests.{not_crossed, crossed_fails}
use Rattle.rows.proofs.has_crossed_row.Goals as goal

pub returns : goal.returns
unfolding rows_of
returns c =
    let run = c.any.ensures.runs in
    let chunks =
    chunks_read run.0 chunks_exact_size chunks_exact_rest _ _ _ (omega arith) run.1 c.chunks_exact.ensures.size c.chunks_exact.ensures.rest
    (c.chunks_exact.ensures.runs run.0 run.0.seen) in
    let all =
    any_answers run.0 _ _ not_crossed row_at _ _ (omega arith) chunks (λ x. not_crossed (row_at x 0)) (λ x at part. ap not_crossed (chunk_is_row _ x at part)) not
    (λ x b seven call. search rules)
    (λ a r f' call. search rules) c.args.rows refl refl _ run.2 in
    sym (not-not _) ∙ ap not all ∙ crossed_fails _
