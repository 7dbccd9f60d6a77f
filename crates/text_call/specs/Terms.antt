-- A term of an evaluation or of a bond by its place, as the code reads it.
use Rattle.std.specs.Prelude.{Bool, List, ℕ, ◌+◌, ℤ, pos, get_or}
use Rattle.paper.specs.declared.AskedTerm.{AskedTerm}
use Rattle.paper.specs.Ranges.{unsigned}
use Rattle.text_protocol.specs.declared.Kept.{Kept}
use Rattle.text_protocol.specs.Calls.{band_of}

abbrev pub term_at_place : Kept → (pair : Bool) → List ℤ → (at : ℕ) → AskedTerm
term_at_place k pair zs at =
    record {
      k = unsigned (get_or zs at (pos 0));
      band = band_of k pair (get_or zs (at + 1) (pos 0)) (get_or zs (at + 2) (pos 0));
    }
