-- What holds of a desk that was recovered, over its whole history: the lines of every evening since the journal began.
-- proofs/Holds.antt proves it, whatever bytes stand where the last batch was to be written, and of a pruned journal.
use Rattle.std.specs.Prelude.{List, ◌++◌, ℕ, suc, length, take}
use Rattle.text_evening.specs.Evening.{start_evening, after_all}
use Rattle.journal_protocol.specs.Journal.{line_texts, journal_text, batch_at}
use Rattle.journal_protocol.specs.Lines.{kept_of, all_lines}
use Rattle.journal_protocol.specs.Holds.{entries_of, RecoveredTo}
use Rattle.prune_protocol.specs.Holds.{PrunedServes}
use Rattle.demands_evening.specs.Holds.{own_table, EveningHolds}

-- the bytes that are written for the last batch of a journal
unfoldable pub last_bytes : (heard : List (List (List ℕ))) → (last : List (List ℕ)) → List ℕ
last_bytes heard last =
    journal_text
    (batch_at (suc (length (entries_of heard (start_evening own_table))))
    (kept_of last (after_all (all_lines heard) (start_evening own_table))))

-- A DESK WHOSE LAST BATCH WAS REPLACED BY THE BYTES `torn` is recovered to all lines of the batches before it and to a
-- front of the last; and of its table all holds that holds of an evening of those lines, the customer's demands first
pub record RecoveryHolds (heard : List (List (List ℕ))) (last : List (List ℕ)) (torn : List ℕ) : Type 0 where
  pub count : ℕ
  pub recovers : RecoveredTo (all_lines heard ++ take count last) (start_evening own_table)
      (journal_text (entries_of heard (start_evening own_table)) ++ torn)
  pub holds : EveningHolds (line_texts (all_lines heard ++ take count last)) recovers.evening.table

-- A DESK WHOSE JOURNAL WAS PRUNED: recovery serves it, and of its table all holds that holds of an evening of all lines
-- that were heard, those too that were pruned
pub record PrunedHolds (heard : List (List ℕ)) : Type 0 where
  pub serves : PrunedServes (kept_of heard (start_evening own_table)) (start_evening own_table)
  pub holds : EveningHolds (line_texts heard) serves.recovers.evening.table
