-- What is refused: 6, then 14; and what is not has the ranges that the rules ask for.
use mathlib.Core.Path.{◌≡◌}
use mathlib.Core.Bool.{true, false, ◌&&◌}
use mathlib.Core.List.{List}
use lib.Dec.{ltb}
use lib.IntN.{ℤ}
use borrow.Author.Tests.{ltb-true}
use Rattle.paper.specs.declared.Interest.{Interest}
use Rattle.paper.specs.declared.Verdict.TheVariants.{Done, OutOfRange, NotAscending}
use Rattle.paper_interest.specs.Interest.{valid_interest, valid_keys, maturities_of, strictly_ascending, interest_checks}
use Rattle.paper.specs.Verdicts.{first_of}
use Rattle.paper.proofs.Logic.{and_left, and_right}
use Rattle.paper_interest.proofs.InterestRanges.{valid_interest_in_range}
use Rattle.interest_maturities.specs.Pair.{PairRange}

module _ (i : Interest) (numbers : List ℤ) where
  -- what is not refused gives the ranges that the rules ask for
  pub answered_keys_valid : (valid_interest i && valid_keys numbers) ≡ true → valid_keys numbers ≡ true
  answered_keys_valid e = and_right (valid_interest i) (valid_keys numbers) e

  pub answered_pair_in_range : (valid_interest i && valid_keys numbers) ≡ true
      → (strictly_ascending (maturities_of numbers) && ltb i.ym i.yn) ≡ true → PairRange i
  answered_pair_in_range e o =
      record {
        given = valid_interest_in_range i (and_left (valid_interest i) (valid_keys numbers) e);
        order = ltb-true i.ym i.yn (and_right (strictly_ascending (maturities_of numbers)) (ltb i.ym i.yn) o);
      }

  pub judged_out_of_range : (valid_interest i && valid_keys numbers) ≡ false
      → first_of (interest_checks i numbers) ≡ OutOfRange
  unfolding interest_checks first_of
  judged_out_of_range e = rw e

  pub judged_not_ascending : (valid_interest i && valid_keys numbers) ≡ true
      → (strictly_ascending (maturities_of numbers) && ltb i.ym i.yn) ≡ false
      → first_of (interest_checks i numbers) ≡ NotAscending
  unfolding interest_checks first_of
  judged_not_ascending e o = rw (e, o)

  pub judged_done : (valid_interest i && valid_keys numbers) ≡ true
      → (strictly_ascending (maturities_of numbers) && ltb i.ym i.yn) ≡ true
      → first_of (interest_checks i numbers) ≡ Done
  unfolding interest_checks first_of
  judged_done e o = rw (e, o)
