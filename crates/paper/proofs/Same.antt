-- Two verdicts are one where they have one number: what a comparison of two verdicts says.
use Rattle.std.specs.Prelude.{◌≡◌, eqb}
use mathlib.Core.Path.{refl}
use denote.Enum.Bare.{sameb}
use denote.Enum.Declared.{tag_of}
use Rattle.std.proofs.Common.{rules}
use Rattle.paper.specs.contracts.Verdict.{the_type}
use Rattle.paper.specs.declared.Verdict.{Verdict}
use Rattle.paper.specs.Verdicts.{number_of}

tag_is_number : (v : Verdict) → tag_of the_type v ≡ number_of v
tag_is_number v = search rules

pub same_by_number : (v w : Verdict) → sameb the_type v w ≡ eqb (number_of v) (number_of w)
same_by_number v w = rw (tag_is_number v, tag_is_number w) refl
