use mathlib.Core.Path.{◌≡◌, ap, ◌∙◌}
use mathlib.Core.List.{List, ◌++◌, append_assoc}
use Prim.Native.Nat.{min}
use native.Mathlib.Omega.{arith}
use borrow.Author.Rules.{rules}
use lib.IntN.{ℤ}
use lib.ListN.{length, take}
use Rattle.std.proofs.Common.{append-nil}
use Rattle.paper_interest.specs.Interest.{no_figures}
use Rattle.text_bytes.specs.Numbers.{spaced}
use Rattle.text_out.specs.Appends.{spaced_none, spaced_both}
use Rattle.text_answer.proofs.Maturities.{none_told, one_more, all_told}
use Rattle.text_answer.proofs.interest_line.put_maturities.Goals as goal

pub loop-f-init : goal.loop-f-init
loop-f-init c = record { text = simp (none_told, spaced_none, append-nil); most = omega arith }

pub loop-f-preserved : goal.loop-f-preserved
loop-f-preserved c =
    let more = one_more c.loop-f.f-index (take c.min-told.result c.args.figures) no_figures c.loop-f-test.true in
    record {
      text = simp (c.put_maturity.ensures.text, c.loop-f.invariant.text, more, spaced_both, append_assoc);
      most = omega (arith, c.put_maturity.ensures.most, c.loop-f.invariant.most);
    }

pub returns-clause-text : goal.returns-clause-text
returns-clause-text c =
    let eight : length c.args.figures ≡ 8 = search rules in
    let over : c.loop-f.f-index ≡ length (take c.min-told.result c.args.figures) = omega arith in
    let told : c.min-told.result ≡ min c.args.count (length c.args.figures) = rw eight c.min-told.ensures in
    (rw over at c.loop-f.invariant.text)
    ∙ ap (λ (zs : List ℤ). c.args.out.now ++ spaced zs) (all_told c.args.count c.args.figures c.min-told.result told)
