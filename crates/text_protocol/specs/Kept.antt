-- docs/EVENING.md, "A pair of terms in an evaluation" (document 02, W-201): what the three latest accepted
-- interest lines answered is kept.
use Rattle.std.specs.Prelude.{Bool, ◌&&◌, ℕ, eqb, pos}
use Rattle.paper.specs.declared.Interest.{Interest}
use Rattle.paper.specs.declared.WorkedBand.{WorkedBand}
use Rattle.paper.specs.declared.InterestAnswer.{InterestAnswer}
use Rattle.paper.specs.declared.Verdict.TheVariants.{OutOfRange}
use Rattle.paper.specs.Lists.{pick}
use Rattle.paper.specs.Verdicts.{is_done}
use Rattle.text_protocol.specs.declared.Pair.{Pair}
use Rattle.text_protocol.specs.declared.Kept.{Kept}

-- no answer: a pair that is not kept makes the day out of range
abbrev pub unknown : WorkedBand
unknown = record { verdict = OutOfRange; lower = pos 0; upper = pos 0 }

-- nothing is kept at the start: the pair 0/0, which no interest line may have, stands for it
abbrev pub no_pair : Pair
no_pair = record { ym = 0; yn = 0; worked = unknown }

abbrev pub none_kept : Kept
none_kept = record { newest = no_pair; middle = no_pair; oldest = no_pair }

-- the pair of an accepted interest line comes first, and the oldest goes; what is refused changes nothing that is kept
unfoldable pub kept_after : Kept → Interest → InterestAnswer → Kept
kept_after k i a =
    pick (is_done a.pair.verdict)
    (record { newest = record { ym = i.ym; yn = i.yn; worked = a.pair }; middle = k.newest; oldest = k.middle })
    k

abbrev pub is_of : Pair → (ym yn : ℕ) → Bool
is_of p ym yn = eqb p.ym ym && eqb p.yn yn

-- the newest answer of a pair of terms
unfoldable pub found_in : Kept → (ym yn : ℕ) → WorkedBand
found_in k ym yn =
    pick (is_of k.newest ym yn) k.newest.worked
    (pick (is_of k.middle ym yn) k.middle.worked
    (pick (is_of k.oldest ym yn) k.oldest.worked unknown))
