-- `record_answers::blank` meets its contract: every figure is the definition's.
use mathlib.Core.Path.{◌≡◌, refl}
use lib.IntN.{pos}
use Rattle.std.specs.declared.option.Option.TheVariants.{None}
use Rattle.paper.specs.declared.External.{External}
use Rattle.paper.specs.declared.Limits.{Limits}
use Rattle.paper.specs.declared.Moves.{Moves}
use Rattle.paper.specs.declared.NearSeconds.{NearSeconds}
use Rattle.paper.specs.declared.Rate.{Rate}
use Rattle.paper.specs.declared.Statics.{Statics}
use Rattle.paper.specs.declared.Tentative.{Tentative}
use Rattle.paper.specs.declared.Term.{Term}
use Rattle.paper.specs.Ranges.{no_limits, not_near, no_external}
use Rattle.paper_desk.specs.Desk.{blank, no_statics}
use Rattle.record_answers.proofs.blank.Goals as goal

limits_zero : (x : Limits) → (x.lower ≡ 0) × (x.upper ≡ 0) → x ≡ no_limits
limits_zero x z = let is : ◌≡◌ {A = Limits} (record { lower = x.lower; upper = x.upper }) no_limits =
    rw (z.0, z.1) refl in is

pub returns : goal.returns
unfolding blank no_statics
returns c =
    let statics : ◌≡◌ {A = Statics} c.default.result no_statics =
    rw (
      c.default.ensures.0,
      c.default.ensures.1.0,
      c.default.ensures.1.1.0,
      c.default.ensures.1.1.1.0,
      c.default.ensures.1.1.1.1.0,
      c.default.ensures.1.1.1.1.1.0,
      c.default.ensures.1.1.1.1.1.1.0,
      c.default.ensures.1.1.1.1.1.1.1.0,
      c.default.ensures.1.1.1.1.1.1.1.1.0,
      c.default.ensures.1.1.1.1.1.1.1.1.1.0,
      c.default.ensures.1.1.1.1.1.1.1.1.1.1.0,
      c.default.ensures.1.1.1.1.1.1.1.1.1.1.1.0,
      c.default.ensures.1.1.1.1.1.1.1.1.1.1.1.1.0,
      c.default.ensures.1.1.1.1.1.1.1.1.1.1.1.1.1.0,
      c.default.ensures.1.1.1.1.1.1.1.1.1.1.1.1.1.1.0,
      c.default.ensures.1.1.1.1.1.1.1.1.1.1.1.1.1.1.1.0,
      c.default.ensures.1.1.1.1.1.1.1.1.1.1.1.1.1.1.1.1.0,
      c.default.ensures.1.1.1.1.1.1.1.1.1.1.1.1.1.1.1.1.1.0,
      c.default.ensures.1.1.1.1.1.1.1.1.1.1.1.1.1.1.1.1.1.1.0,
      c.default.ensures.1.1.1.1.1.1.1.1.1.1.1.1.1.1.1.1.1.1.1.0,
      c.default.ensures.1.1.1.1.1.1.1.1.1.1.1.1.1.1.1.1.1.1.1.1.0,
      c.default.ensures.1.1.1.1.1.1.1.1.1.1.1.1.1.1.1.1.1.1.1.1.1.0,
      c.default.ensures.1.1.1.1.1.1.1.1.1.1.1.1.1.1.1.1.1.1.1.1.1.1.0,
      c.default.ensures.1.1.1.1.1.1.1.1.1.1.1.1.1.1.1.1.1.1.1.1.1.1.1.0,
      c.default.ensures.1.1.1.1.1.1.1.1.1.1.1.1.1.1.1.1.1.1.1.1.1.1.1.1.0,
      c.default.ensures.1.1.1.1.1.1.1.1.1.1.1.1.1.1.1.1.1.1.1.1.1.1.1.1.1,
    ) refl in
    let tentative : ◌≡◌ {A = Tentative} c.default-2.result (record { bp = 0; age = 0 }) =
    rw (c.default-2.ensures.0, c.default-2.ensures.1) refl in
    let rate : ◌≡◌ {A = Rate} c.default-3.result (record { bp = 0 }) = rw c.default-3.ensures refl in
    let term : ◌≡◌ {A = Term} c.default-5.result (record { k = 0; low = pos 0; high = pos 0 }) =
    rw (c.default-5.ensures.0, c.default-5.ensures.1.0, c.default-5.ensures.1.1) refl in
    let moves : ◌≡◌ {A = Moves} c.default-7.result (record { upper = 0; lower = 0 }) =
    rw (c.default-7.ensures.0, c.default-7.ensures.1) refl in
    let near : ◌≡◌ {A = NearSeconds} c.default-8.result not_near =
    rw (c.default-8.ensures.0, c.default-8.ensures.1) refl in
    let external : ◌≡◌ {A = External} c.default-9.result no_external =
    rw (c.default-9.ensures.0, c.default-9.ensures.1) refl in
    rw (
      statics,
      tentative,
      rate,
      limits_zero _ c.default-4.ensures,
      term,
      limits_zero _ c.default-6.ensures,
      moves,
      near,
      external,
    )
