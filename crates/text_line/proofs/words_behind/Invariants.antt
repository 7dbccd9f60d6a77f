-- `text_line::words_behind` meets its contract: the words from `from` on, behind the call's.
use Rattle.text_line.proofs.LineLoop.{Filling}
use Rattle.text_protocol.specs.Line.{no_pairs, fill}
use Rattle.text_protocol.specs.Kinds.{kind_number}
use Rattle.text_bytes.specs.Bytes.{words}
use lib.ListN.{length, drop}
use mathlib.Core.List.{[]}
use Prim.Native.Nat.{◌-◌}
use Rattle.text_line.proofs.words_behind.Given as goal

abbrev pub invariant-loop-xs : goal.invariant-loop-xs
invariant-loop-xs l =
    Filling l.l (kind_number l.kind) (fill (kind_number l.kind) [] no_pairs (words (drop l.from l.l))) l.xs l.s l.pairs

abbrev pub decreases-loop-xs : goal.decreases-loop-xs
decreases-loop-xs l = length l.l - l.s
