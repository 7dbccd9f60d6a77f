-- W-201, "The security's evaluation may take these limits or given ones": a term that takes a pair, and a band that is
-- a refused pair.
use Rattle.std.specs.Prelude.{Bool, false, not, ℕ}
use Rattle.paper.specs.declared.AskedTerm.{AskedTerm}
use Rattle.paper.specs.declared.RepoBand.{RepoBand}
use Rattle.paper.specs.declared.RepoBand.TheVariants as band
use Rattle.paper.specs.declared.WorkedBand.{WorkedBand}
use Rattle.paper.specs.Verdicts.{is_done}

-- a term with a pair that was worked out
abbrev pub with_pair : (k : ℕ) → WorkedBand → AskedTerm
with_pair k pair = record { k = k; band = band.WorkedOut pair }

-- whether a band is a pair that was refused
abbrev pub is_refused : RepoBand → Bool
is_refused (band.AsGiven x) = false
is_refused (band.WorkedOut pair) = not (is_done pair.verdict)
