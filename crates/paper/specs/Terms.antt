-- Document 02, W-201: "The security's evaluation may take these limits or given ones." A day as it is asked for is a
-- day of document 01.
use Rattle.std.specs.Prelude.{[], ◌∷◌, pos}
use Rattle.paper.specs.declared.Term.{Term}
use Rattle.paper.specs.declared.RepoLimits.{RepoLimits}
use Rattle.paper.specs.declared.WorkedBand.{WorkedBand}
use Rattle.paper.specs.declared.RepoBand.{RepoBand}
use Rattle.paper.specs.declared.RepoBand.TheVariants as band
use Rattle.paper.specs.declared.AskedTerm.{AskedTerm}
use Rattle.paper.specs.declared.AskedDay.{AskedDay}
use Rattle.paper.specs.declared.Day.{Day}
use Rattle.paper.specs.Lists.{pick}
use Rattle.paper.specs.Verdicts.{is_done}

-- no band: its low is above its high, so that it is out of range (6)
abbrev pub no_repo : RepoLimits
no_repo = record { low = pos 1; high = pos 0 }

-- the limits of a pair that was worked out, as they are; a pair that was refused has none
unfoldable pub worked_repo : WorkedBand → RepoLimits
worked_repo pair = pick (is_done pair.verdict) (record { low = pair.lower; high = pair.upper }) no_repo

unfoldable pub repo_of : RepoBand → RepoLimits
repo_of (band.AsGiven x) = x
repo_of (band.WorkedOut pair) = worked_repo pair

unfoldable pub term_of : AskedTerm → Term
term_of x = record { k = x.k; low = (repo_of x.band).low; high = (repo_of x.band).high }

-- the day of document 01, "the worked limits judged by the same range test (6) as given ones"
unfoldable pub day_of : AskedDay → Day
day_of a = record {
  day = a.day;
  b = a.b;
  m = a.m;
  terms =
      term_of a.first ∷ term_of a.second ∷ term_of a.third ∷ [];
}
