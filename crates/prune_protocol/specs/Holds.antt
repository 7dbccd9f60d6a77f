-- What is proved of pruning: the lines that matter lead to the same desk as all lines of a journal, and each of them is
-- accepted again, so that recovery serves the pruned journal. proofs/Pruned.antt proves it.
use Rattle.std.specs.Prelude.{◌≡◌, List, [], ◌∷◌, ℕ, length}
use Rattle.text_evening.specs.Evening.{Evening, after_all}
use Rattle.journal_protocol.specs.Journal.{journal_text, entries_at}
use Rattle.journal_protocol.specs.Recovery.{kept_again_of}
use Rattle.journal_protocol.specs.Holds.{SameDesk, RecoveredTo}
use Rattle.prune_protocol.specs.Pruning.{pruned}

-- THE PRUNED LINES LEAD TO THE SAME DESK, the same table and the same kept interest answers, and each of them would be
-- kept again
pub record PrunedLead (lines : List (List ℕ)) (start : Evening) : Type 0 where
  pub desk : SameDesk (after_all (pruned lines) start) (after_all lines start)
  pub again : kept_again_of (pruned lines) start ≡ length (pruned lines)

-- the lines of a pruned journal are a batch each
unfoldable pub each_alone : List (List ℕ) → List (List (List ℕ))
each_alone [] = []
each_alone (l ∷ ls) = (l ∷ []) ∷ each_alone ls

-- THE BYTES OF A PRUNED JOURNAL
unfoldable pub pruned_text : (lines : List (List ℕ)) → List ℕ
pruned_text ls = journal_text (entries_at 1 (each_alone (pruned ls)))

-- RECOVERY SERVES IT, on the desk of the journal that was pruned
pub record PrunedServes (lines : List (List ℕ)) (start : Evening) : Type 0 where
  pub recovers : RecoveredTo (pruned lines) start (pruned_text lines)
  pub desk : SameDesk recovers.evening (after_all lines start)
