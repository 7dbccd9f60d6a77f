-- W-201, "The security's evaluation may take these limits or given ones": what the band of a term is where a pair was
-- worked out, and that a pair that was refused makes its day out of range (6).
use mathlib.Core.Path.{◌≡◌, refl}
use mathlib.Core.Bool.{Bool, true, false, ◌&&◌, ◌||◌, and-false}
use mathlib.Core.List.{List}
use Prim.Native.Nat.{ℕ}
use lib.Dec.{leb}
use lib.IntN.{ℤ}
use Rattle.paper.specs.declared.AskedDay.{AskedDay}
use Rattle.paper.specs.declared.AskedTerm.{AskedTerm}
use Rattle.paper.specs.declared.RepoBand.{RepoBand}
use Rattle.paper.specs.declared.RepoBand.TheVariants as band
use Rattle.paper.specs.declared.Interest.{Interest}
use Rattle.paper.specs.declared.Verdict.TheVariants.{Done}
use Rattle.paper.specs.declared.WorkedBand.{WorkedBand}
use Rattle.paper.specs.Numbers.{day_most, behind_most, ahead_most, term_days_most}
use Rattle.paper_interest.specs.Interest.{maturities_of, lower_limit, upper_limit, interest_checks, accepted_interest}
use Rattle.paper_interest.specs.Interest.{refused_interest, interest_answer}
use Rattle.paper.specs.Ranges.{valid_term, valid_day}
use Rattle.paper.specs.Terms.{worked_repo, repo_of, term_of, day_of}
use Rattle.paper.specs.Verdicts.{is_done, first_of}
use Rattle.paper.proofs.Logic.{not_true_and_false, not_true}
use Rattle.interest_terms.specs.Pairs.{with_pair, is_refused}

-- ---- a pair that was accepted

-- its limits are judged as given ones are: they make the same term
pub worked_as_given : (k : ℕ) (pair : WorkedBand) → pair.verdict ≡ Done
    → term_of (with_pair k pair)
    ≡ term_of (record { k = k; band = band.AsGiven (record { low = pair.lower; high = pair.upper }) })
unfolding term_of repo_of worked_repo is_done
worked_as_given k pair e = rw e

-- what the interest side accepts has exactly the limits of clause 16.2
pub accepted_limits : (k : ℕ) (i : Interest) (numbers : List ℤ) → first_of (interest_checks i numbers) ≡ Done
    → term_of (with_pair k (interest_answer i numbers).pair)
    ≡ record { k = k; low = lower_limit i (maturities_of numbers); high = upper_limit i (maturities_of numbers) }
unfolding term_of repo_of worked_repo is_done interest_answer accepted_interest
accepted_limits k i numbers e = rw e

-- ---- a pair that was refused

-- it has no band, whatever the term's days
pub refused_out : (x : AskedTerm) → is_refused x.band ≡ true → valid_term (term_of x) ≡ false
unfolding term_of repo_of worked_repo valid_term
refused_out x e = go x.band e
  where
    go : (b : RepoBand) → is_refused b ≡ true
        → valid_term (record { k = x.k; low = (repo_of b).low; high = (repo_of b).high }) ≡ false
    go (band.AsGiven r) e = absurd (not_true_and_false false e refl)
    go (band.WorkedOut pair) e =
        rw (not_true (is_done pair.verdict) e, and-false (leb x.k term_days_most && true))

-- the pair that the interest side refuses is such a band
pub refused_pair : (i : Interest) (numbers : List ℤ) → is_done (first_of (interest_checks i numbers)) ≡ false
    → is_refused (band.WorkedOut (interest_answer i numbers).pair) ≡ true
unfolding interest_answer refused_interest
refused_pair i numbers e = rw (e, e)

pub refused_pair_out : (k : ℕ) (i : Interest) (numbers : List ℤ) → is_done (first_of (interest_checks i numbers)) ≡ false
    → valid_term (term_of (with_pair k (interest_answer i numbers).pair)) ≡ false
refused_pair_out k i numbers e = refused_out (with_pair k (interest_answer i numbers).pair) (refused_pair i numbers e)

-- any one of them makes the day out of range
pub refused_day : (a : AskedDay) (rows : List ℤ)
    → (is_refused a.first.band || is_refused a.second.band || is_refused a.third.band) ≡ true
    → valid_day (day_of a) rows ≡ false
unfolding day_of valid_day
refused_day a rows e =
    rw (
      any (is_refused a.first.band) (is_refused a.second.band) (is_refused a.third.band) e
          (refused_out a.first) (refused_out a.second)
          (refused_out a.third),
      and-false (leb a.day day_most && leb a.b behind_most && leb a.m ahead_most),
    )
  where
    any : (x y z : Bool) {p q r : Bool} → (x || y || z) ≡ true → (x ≡ true → p ≡ false) → (y ≡ true → q ≡ false)
        → (z ≡ true → r ≡ false)
        → (p && q && r) ≡ false
    any true y z {p} {q} {r} e f g h = rw (f refl) refl
    any false true z {p} {q} {r} e f g h = rw (g refl, and-false p)
    any false false true {p} {q} {r} e f g h = rw (h refl) (and-false (p && q))
    any false false false e f g h = absurd (not_true_and_false false e refl)
