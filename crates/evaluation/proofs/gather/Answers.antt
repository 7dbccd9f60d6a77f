use mathlib.Core.Path.{◌≡◌, refl, sym, ap, ◌∙◌}
use mathlib.Core.Bool.{not}
use native.Mathlib.Omega.{arith}
use borrow.Author.Rules.{rules}
use Rattle.paper.specs.Ranges.{valid_row, row_of}
use Rattle.paper_desk.specs.Evaluation.{is_crossed_row, row_fits}
use Rattle.paper.proofs.Logic.{and_right}
use Rattle.rows.specs.RowLaws.{InRange, whole_within_most, valid_row_in_range}
use Rattle.evaluation.proofs.Prices.{roubles_are_fitting}
use Rattle.evaluation.proofs.Books.{empty, filled_room}
use Rattle.evaluation.proofs.Gathering.{no_book_gathers, gathered_out, torn_rows_not_valid, row_out_of_range_not_valid}
use Rattle.evaluation.proofs.Gathering.{row_refused_not_all_taken, gathering_next, walked_rows_gather}
use Rattle.evaluation.proofs.Gathering.{walking_first, chunk_room, chunk_row, walking_next, walked}
use Rattle.evaluation.proofs.gather.Goals as goal

pub returns-then-not-whole_rows : goal.returns-then-not-whole_rows
returns-then-not-whole_rows c =
    no_book_gathers _ _ refl
    (gathered_out _ (torn_rows_not_valid _ (sym c.whole_rows.ensures ∙ c.if-not-whole_rows.true)))

pub loop-numbers-init : goal.loop-numbers-init
loop-numbers-init c =
    let none : c.default-book.result ≡ empty = search rules in
    let made = c.into_iter-numbers-iterator.ensures.into_iter_gives in
    rw (none, made) (walking_first _ _ _ c.chunks_exact-numbers-items.ensures.rest c.chunks_exact-numbers-items.ensures.size)

pub returns-then-not-row_valid : goal.returns-then-not-row_valid
returns-then-not-row_valid c =
    let w = c.loop-numbers.invariant in
    let s = c.in-Some.ensures.steps in
    let no = sym (ap valid_row (chunk_row _ _ _ _ w _ _ s.1.0 s.1.1)) ∙ (sym c.row_valid.ensures ∙ c.if-not-row_valid.true) in
    no_book_gathers _ _ refl
    (gathered_out _
    (row_out_of_range_not_valid _ _ _ (chunk_room _ _ _ _ w _ _ s.1.0 s.1.1) w.gathering
    (sym c.whole_rows.ensures ∙ c.if-not-whole_rows.false) no))

pub in_roubles-r-requires : goal.in_roubles-r-requires
in_roubles-r-requires c =
    rw c.row_at-row.ensures (valid_row_in_range _ (sym c.row_valid.ensures ∙ c.if-not-row_valid.false))

pub row_taken-requires-clause-in_range : goal.row_taken-requires-clause-in_range
row_taken-requires-clause-in_range c =
    rw c.row_at-row.ensures (valid_row_in_range _ (sym c.row_valid.ensures ∙ c.if-not-row_valid.false))

pub refused-requires : goal.refused-requires
refused-requires c =
    let w = c.loop-numbers.invariant in
    let s = c.in-Some.ensures.steps in
    row_refused_not_all_taken _ _ _ (chunk_room _ _ _ _ w _ _ s.1.0 s.1.1) w.gathering _
    (c.row_at-row.ensures ∙ ap row_of (chunk_row _ _ _ _ w _ _ s.1.0 s.1.1))
    (sym c.row_taken.ensures ∙ c.if-not-row_taken.true)

pub add-book-requires : goal.add-book-requires
add-book-requires c =
    let w = c.loop-numbers.invariant in
    let s = c.in-Some.ensures.steps in
    let row = c.row_at-row.result in
    let range : InRange row =
    rw c.row_at-row.ensures (valid_row_in_range _ (sym c.row_valid.ensures ∙ c.if-not-row_valid.false)) in
    rw c.in_roubles-r.ensures
    (filled_room w.at _ _
    (omega (arith, chunk_room _ _ _ _ w _ _ s.1.0 s.1.1, whole_within_most _ (sym c.whole_rows.ensures ∙ c.if-not-whole_rows.false)))
    w.gathering.filled
    (roubles_are_fitting row range
    (and_right (not (is_crossed_row row)) (row_fits row) (sym c.row_taken.ensures ∙ c.if-not-row_taken.false))))

pub loop-numbers-preserved : goal.loop-numbers-preserved
loop-numbers-preserved c =
    let w = c.loop-numbers.invariant in
    let s = c.in-Some.ensures.steps in
    let row = chunk_row _ _ _ _ w _ _ s.1.0 s.1.1 in
    rw (c.add-book.ensures, c.in_roubles-r.ensures)
    (walking_next _ _ _ _ w _ _ s.1.0 s.1.1 _ _ s.0
    (gathering_next _ _ _ (chunk_room _ _ _ _ w _ _ s.1.0 s.1.1) w.gathering _ (c.row_at-row.ensures ∙ ap row_of row)
    (sym (ap valid_row row) ∙ (sym c.row_valid.ensures ∙ c.if-not-row_valid.false))
    (sym c.row_taken.ensures ∙ c.if-not-row_taken.false)))

pub returns : goal.returns
returns c =
    let w = c.loop-numbers.invariant in
    let whole = sym c.whole_rows.ensures ∙ c.if-not-whole_rows.false in
    walked_rows_gather _ _ _ whole (walked _ _ _ _ w whole c.in-None.ensures.steps.1.0) w.gathering
