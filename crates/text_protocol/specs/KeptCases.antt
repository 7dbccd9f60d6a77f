-- docs/EVENING.md, "A pair of terms in an evaluation", by examples: three pairs that are kept, each found by both of its
-- terms, and what an accepted and a refused interest line leave of them.
use Rattle.std.specs.Prelude.{◌≡◌, refl, ℕ, pos}
use Rattle.paper.specs.declared.Interest.{Interest}
use Rattle.paper.specs.declared.WorkedBand.{WorkedBand}
use Rattle.paper.specs.declared.InterestAnswer.{InterestAnswer}
use Rattle.paper.specs.declared.Verdict.{Verdict}
use Rattle.paper.specs.declared.Verdict.TheVariants.{Done, OutOfRange, NotAscending}
use Rattle.paper.specs.Lists.{eight}
use Rattle.paper.specs.Verdicts.{is_done, number_of}
use Rattle.paper_interest.specs.Interest.{no_figures}
use Rattle.text_protocol.specs.declared.Pair.{Pair}
use Rattle.text_protocol.specs.declared.Kept.{Kept}
use Rattle.text_protocol.specs.Kept.{unknown, none_kept, kept_after, found_in}

-- a band with its limits
abbrev worked : Verdict → (lower upper : ℕ) → WorkedBand
worked v lower upper = record { verdict = v; lower = pos lower; upper = pos upper }

abbrev kept : (ym yn lower upper : ℕ) → Pair
kept ym yn lower upper = record { ym = ym; yn = yn; worked = worked Done lower upper }

-- each pair has a term of another
abbrev three_kept : Kept
three_kept = record { newest = kept 6 7 61 71; middle = kept 6 8 62 82; oldest = kept 5 7 53 73 }

-- a pair is found by both of its terms, in their order; the newest of two answers counts; what is not kept is out of
-- range
pub found_are : (found_in three_kept 6 7 ≡ worked Done 61 71)
    × (found_in three_kept 6 8 ≡ worked Done 62 82)
    × (found_in three_kept 5 7 ≡ worked Done 53 73)
    × (found_in three_kept 5 8 ≡ unknown)
    × (found_in three_kept 7 6 ≡ unknown)
    × (found_in (record { newest = kept 5 7 1 2; middle = kept 6 7 61 71; oldest = kept 5 7 53 73 }) 5 7
    ≡ worked Done 1 2)
    × (found_in none_kept 6 7 ≡ unknown)
    × (number_of unknown.verdict ≡ 6)
unfolding found_in
found_are = (refl, refl, refl, refl, refl, refl, refl, refl)

-- the interest line of the pair 3/4, and what it answers
abbrev line : Interest
line =
    record {
      b = 0;
      ym = 3;
      yn = 4;
      model = record { aup = 0; adown = 0; q = 0 };
      h = 0;
      wait = 0;
      liq = 0;
      mm = 0;
      sec = 0;
      xir = 0;
      money = pos 0;
      secrate = pos 0;
    }

abbrev answered : Verdict → InterestAnswer
answered v = record { pair = worked v 34 44; count = 0; figures = eight (λ i. no_figures) }

-- an accepted line comes first and the oldest goes; a refused one changes nothing
pub kept_are : (kept_after three_kept line (answered Done)
    ≡ record { newest = kept 3 4 34 44; middle = kept 6 7 61 71; oldest = kept 6 8 62 82 })
    × (kept_after three_kept line (answered NotAscending) ≡ three_kept)
    × (kept_after three_kept line (answered OutOfRange) ≡ three_kept)
unfolding kept_after is_done
kept_are = (refl, refl, refl)
