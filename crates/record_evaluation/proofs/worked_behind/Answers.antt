-- `record_evaluation::worked_behind` meets its contract: each return is the first check behind 1 that applies, 6, 16, 5
-- or 7; after them the evaluation and its figures are all that the rest takes.
use mathlib.Core.Path.{◌≡◌, sym, ap, ◌∙◌}
use mathlib.Core.Bool.{true, false}
use lib.Dec.{leb}
use borrow.Author.Tests.{le-leb, lt-leb}
use Rattle.paper_desk.proofs.LimitSizes.{grid_in_range}
use Rattle.record_soundness.proofs.Facts.{sound_facts}
use Rattle.paper.specs.Ranges.{grid_of, last_day, valid_day}
use Rattle.paper_desk.specs.Evaluation.{day_rows, has_crossed_row}
use Rattle.paper_desk.specs.Desk.{used_by}
use Rattle.evaluation.specs.declared.Priced.{Priced}
use Rattle.std.specs.declared.option.Option.TheVariants.{Some}
use Rattle.evaluation.specs.Evaluation.{evaluation_made}
use Rattle.record_answers.specs.Effects.{is_known}
use Rattle.record_evaluation.specs.Workings.{Begun}
use Rattle.record_answers.proofs.Tests.{tested_true, tested_false, known_sound}
use Rattle.record_evaluation.proofs.Judging.{day_out, day_row_crossed, day_not_after, day_beyond}
use Rattle.record_evaluation.proofs.Evaluations.{day_valid_parts, day_gathered, crossed_gathered}
use Rattle.record_evaluation.proofs.Evaluations.{used_prices_within_most, beyond_does_not_fit, Fitting}
use Rattle.record_evaluation.proofs.Evaluations.{evaluated_is_fitting}
use mathlib.Core.Bool.{not}
use Rattle.record_evaluation.proofs.worked_behind.Goals.{After-evaluate-evaluation, After-is_crossed, After-r-1, After-valid_day, Else-d-last_day, Else-is_crossed, Else-not-valid_day, Start}
use Rattle.record_evaluation.proofs.worked_behind.Goals as goal

-- what was given, of the first stage, and of those behind 6, 16 and 5
abbrev start : After-r-1 → Start
start c = c.before

abbrev start-ranged : Else-not-valid_day → Start
start-ranged c = start c.before.before.before

abbrev start-begun : Else-is_crossed → Start
start-begun c = start-ranged c.before.before

abbrev begun-before : Else-d-last_day → Else-is_crossed
begun-before c = c.before.before.before

known : (c : After-r-1) → is_known (start c).args.s ≡ true
known c = c.before.requires

-- 6, of what was gathered
day : (c : After-valid_day)
    → let a = (start c.before.before).args in
    c.valid_day.result ≡ valid_day a.d a.rows.now
day c = c.valid_day.ensures ∙ day_gathered _ _ _ c.before.gather-gathered.ensures.is

valid : (c : Else-not-valid_day)
    → let a = (start-ranged c).args in
    valid_day a.d a.rows.now ≡ true
valid c = tested_true _ (day c.before) (ap not c.if-not-valid_day.false)

-- 16, of what was gathered
crossed : (c : After-is_crossed)
    → let a = (start-ranged c.before).args in
    c.is_crossed.result ≡ has_crossed_row (day_rows a.rows.now)
crossed c =
    c.is_crossed.ensures
    ∙ crossed_gathered _ _ c.before.before.before.gather-gathered.ensures.is (day_valid_parts _ _ (valid c.before)).1

begun : (c : Else-is_crossed)
    → let a = (start-begun c).args in
    Begun a.s a.d a.rows.now
begun c =
    let ranged = c.before.before in
    record {
      known = known ranged.before.before.before;
      valid = valid ranged;
      uncrossed = sym (crossed c.before) ∙ c.if-is_crossed.false;
    }

after : (c : Else-d-last_day)
    → let a = (start-begun (begun-before c)).args in
    leb a.d.day (last_day a.s.rec.standing) ≡ false
after c = lt-leb _ _ (rw c.before.before.last_day.ensures at c.if-d-last_day.false)

-- the stage behind 5, of the one that has the evaluation
abbrev later : After-evaluate-evaluation → Else-d-last_day
later c = c.before.before.before.before

-- the evaluation is that of the record's grid
evaluation : (c : After-evaluate-evaluation)
    → let a = (start-begun (begun-before (later c))).args in
    let r = a.s.rec in
    evaluation_made (grid_of r.statics.lot) r.p1.units (used_by r) (day_rows a.rows.now) ≡ c.evaluate-evaluation.result
evaluation c =
    let e = begun-before (later c) in
    let b = begun e in
    rw (← c.before.before.before.grid_of-g.ensures, ← c.before.used_by-used.ensures)
    (sym
    (c.evaluate-evaluation.ensures _ e.before.before.before.before.gather-gathered.ensures.is (day_valid_parts _ _ b.valid).1
    b.uncrossed))

price : (c : After-evaluate-evaluation) (e : Priced) → c.evaluate-evaluation.result ≡ Some e
    → let a = (start-begun (begun-before (later c))).args in
    let r = a.s.rec in
    Fitting (grid_of r.statics.lot) r.p1.units (used_by r) (day_rows a.rows.now) e
price c e is = evaluated_is_fitting _ _ _ _ _ (evaluation c ∙ is)

pub returns-then-not-valid_day : goal.returns-then-not-valid_day
returns-then-not-valid_day c =
    c.unmade.ensures ∙ day_out _ _ _ (known (goal.at.returns-then-not-valid_day c).After-r-1)
    (tested_false _ (day (goal.at.returns-then-not-valid_day c).After-valid_day) (ap not c.if-not-valid_day.true))

pub returns-then-is_crossed : goal.returns-then-is_crossed
returns-then-is_crossed c =
    c.unmade-then-is_crossed.ensures ∙ day_row_crossed _ _ _ (known (goal.at.returns-then-is_crossed c).After-r-1) (valid (goal.at.returns-then-is_crossed c).Else-not-valid_day)
    (sym (crossed (goal.at.returns-then-is_crossed c).After-is_crossed) ∙ c.if-is_crossed.true)

pub returns-then-d-last_day : goal.returns-then-d-last_day
returns-then-d-last_day c =
    let test = le-leb _ _ (rw c.last_day.ensures at c.if-d-last_day.true) in
    c.unmade-then-d-last_day.ensures ∙ day_not_after _ _ _ (begun (goal.at.returns-then-d-last_day c).Else-is_crossed) test

pub returns-in_default : goal.returns-in_default
returns-in_default c =
    let e = later (goal.at.returns-in_default c).After-evaluate-evaluation in
    let test = beyond_does_not_fit _ _ _ _ (evaluation (goal.at.returns-in_default c).After-evaluate-evaluation ∙ c.in_default.is) in
    c.unmade-in_default.ensures ∙ day_beyond _ _ _ (begun (begun-before e)) (after e) test

pub evaluate-evaluation-requires : goal.evaluate-evaluation-requires
evaluate-evaluation-requires c =
    let begun-here = begun-before (goal.at.evaluate-evaluation-requires c).Else-d-last_day in
    let b = begun begun-here in
    let grid = rw (← c.grid_of-g.ensures) at (grid_in_range c.args.s.rec.statics.lot) in
    let sound = known_sound _ b.known in
    record {
      bound = c.gather-gathered.ensures.bound;
      units_le_price_most = ((sound_facts _ sound).figures.later.price.most, grid.0, grid.1);
      bid_le_price_most = rw c.used_by-used.ensures (used_prices_within_most _ sound);
    }

pub worked_at-requires : goal.worked_at-requires
worked_at-requires c =
    let evaluated = (goal.at.worked_at-requires c).After-evaluate-evaluation in
    let b = begun (begun-before (later evaluated)) in
    record {
      rec_value = known_sound _ b.known;
      d_value = (day_valid_parts _ _ b.valid).0;
      units_value = (price evaluated c.in-Some.e c.in-Some.is).price;
    }

pub returns : goal.returns
returns c =
    let evaluated = (goal.at.returns c).After-evaluate-evaluation in
    let e = later evaluated in
    let p = price evaluated c.in-Some.e c.in-Some.is in
    c.worked_at.ensures _
    (record { begun = begun (begun-before e); later = after e; fits = p.fits })
    p.is
