-- `interest::Evening::answer` meets its contract: the paper's limits are those of the figures at the two terms.
use Rattle.std.proofs.Common.{rules, sym, ap, ◌∙◌, w64}
use mir.Val.{SFits}
use mir.Facts.{to_z-of_z}
use Rattle.paper.specs.declared.RepoLimits.{RepoLimits}
use Rattle.paper.specs.declared.Verdict.TheVariants.{Done}
use Rattle.paper_interest.specs.Interest.{accepted_interest}
use Rattle.interest_maturities.specs.KeyLaws.{count_is}
use Rattle.interest.proofs.Terms.{band_held_is_of_limits}
use Rattle.interest.proofs.Evening.answer.Goals as goal

pub returns : goal.returns
unfolding accepted_interest
returns c =
    let band = c.band_of-band in
    let is = band.ensures ∙ band_held_is_of_limits _ _ _ _ c.point_at-m.ensures c.point_at-n.ensures in
    let low : SFits w64 band.result.low = search rules in
    let high : SFits w64 band.result.high = search rules in
    λ j. record {
      pair = record {
        verdict = Done;
        lower = (to_z-of_z low ∙ ap (λ (x : RepoLimits). x.low) is) j;
        upper =
            (to_z-of_z high ∙ ap (λ (x : RepoLimits). x.high) is) j;
      };
      count = sym (count_is c.args.self.now.numbers.now) j;
      figures = c.all_figures.ensures j;
    }
