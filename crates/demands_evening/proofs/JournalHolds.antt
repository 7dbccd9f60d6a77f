-- One theorem for every recovered desk: its table is the one behind lines, so that all holds of it that holds of an
-- evening of those lines.
use mathlib.Core.Path.{◌≡◌, refl, sym, ap, subst, ◌∙◌}
use mathlib.Core.Bool.{Bool, true, false}
use mathlib.Core.List.{List, [], ◌∷◌, ◌++◌}
use Prim.Native.Nat.{ℕ, zero, suc}
use lib.ListN.{length, take}
use Rattle.paper.specs.declared.Record.{Record}
use Rattle.paper.specs.Lists.{pick}
use Rattle.text_bytes.specs.Bytes.{is_line_feed, pieces, ended, lines}
use Rattle.text_bytes.specs.Split.{AllFree, no_piece, piece}
use Rattle.text_bytes.proofs.Pieces.{pieces_more, pieces_some}
use Rattle.text_evening.specs.Evening.{Evening, start_evening, after, after_all}
use Rattle.journal_protocol.specs.Journal.{line_texts}
use Rattle.journal_protocol.specs.Lines.{is_kept, kept_of, all_lines}
use Rattle.journal_protocol.specs.Holds.{Torn, entries_of, TornRecovered}
use Rattle.journal_protocol.proofs.JournalLaws.{feed}
use Rattle.journal_protocol.proofs.KeptLaws.{same_desk_self, kept_lead, kept_again, kept_fit}
use Rattle.journal_protocol.proofs.RecoveryLaws.{torn_recovered, cut_is_torn}
use Rattle.demands_evening.specs.Holds.{own_table, table_behind, EveningHolds}
use Rattle.demands_evening.proofs.Holds.{evening_holds}
use Rattle.demands_evening.proofs.Tables.{own_table_fresh}
use Rattle.prune_protocol.specs.Holds.{PrunedServes}
use Rattle.prune_protocol.proofs.Pruned.{pruned_serves}
use Rattle.demands_evening.specs.JournalHolds.{last_bytes, RecoveryHolds, PrunedHolds}

-- ---- the lines of an evening's bytes

ended_more : (p : List ℕ) (ps : List (List ℕ)) → (ps ≡ [] → ⊥) → ended (p ∷ ps) ≡ p ∷ ended ps
unfolding ended
ended_more p [] h = absurd (h refl)
ended_more [] (q ∷ ps) h = refl
ended_more (b ∷ p) (q ∷ ps) h = refl

lines_back : {ls : List (List ℕ)} → AllFree is_line_feed ls → lines (line_texts ls) ≡ ls
unfolding lines line_texts pieces ended
lines_back no_piece = refl
lines_back (piece {p} {ps} f r) =
    ap ended (pieces_more is_line_feed (line_texts ps) f feed)
    ∙ ended_more p (pieces is_line_feed (line_texts ps)) (λ e. pieces_some is_line_feed {A = ⊥} (line_texts ps) e)
    ∙ ap (λ (ls : List (List ℕ)). p ∷ ls) (lines_back r)

-- ---- the lines that it is recovered to

front_free : (n : ℕ) (ls : List (List ℕ)) → AllFree is_line_feed ls → AllFree is_line_feed (take n ls)
front_free zero ls f = no_piece
front_free (suc n) [] f = no_piece
front_free (suc n) (l ∷ ls) (piece g r) = piece g (front_free n ls r)

both_free : {ls : List (List ℕ)} (ms : List (List ℕ)) → AllFree is_line_feed ls → AllFree is_line_feed ms
    → AllFree is_line_feed (ls ++ ms)
both_free ms no_piece g = g
both_free ms (piece f r) g = piece f (both_free ms r g)

-- FOR EVERY JOURNAL WHOSE LAST BATCH IS REPLACED BY ANY BYTES
pub recovery_holds : (heard : List (List (List ℕ))) (last : List (List ℕ)) (torn : List ℕ)
    → AllFree is_line_feed (all_lines heard) → AllFree is_line_feed last
    → Torn (suc (length (entries_of heard (start_evening own_table))))
    (kept_of last (after_all (all_lines heard) (start_evening own_table))) torn
    → RecoveryHolds heard last torn
recovery_holds heard last torn f g t =
    let r : TornRecovered heard last (start_evening own_table) torn =
    torn_recovered heard last (start_evening own_table) torn f t in
    let ls : List (List ℕ) = all_lines heard ++ take r.count last in
    let free : AllFree is_line_feed ls = both_free (take r.count last) f (front_free r.count last g) in
    record {
      count = r.count;
      recovers = r.recovers;
      holds =
          subst (λ (table : List Record). EveningHolds (line_texts ls) table)
          (ap table_behind (lines_back free) ∙ sym r.recovers.desk.table) (evening_holds (line_texts ls));
    }

-- FOR EVERY JOURNAL THAT IS CUT AT ANY BYTE of its last batch, with no premise on sums
pub cut_holds : (heard : List (List (List ℕ))) (last : List (List ℕ)) (m : ℕ)
    → AllFree is_line_feed (all_lines heard) → AllFree is_line_feed last
    → RecoveryHolds heard last (take m (last_bytes heard last))
unfolding last_bytes
cut_holds heard last m f g =
    recovery_holds heard last (take m (last_bytes heard last)) f g
    (cut_is_torn (suc (length (entries_of heard (start_evening own_table))))
    (kept_of last (after_all (all_lines heard) (start_evening own_table)))
    (kept_fit last (after_all (all_lines heard) (start_evening own_table)) g) m)

-- ---- a pruned journal

kept_free : (ls : List (List ℕ)) (e : Evening) → AllFree is_line_feed ls → AllFree is_line_feed (kept_of ls e)
unfolding kept_of
kept_free [] e f = f
kept_free (l ∷ ls) e (piece g f) = go (is_kept l e) (kept_free ls (after l e) f)
  where
    go : (x : Bool) → AllFree is_line_feed (kept_of ls (after l e))
        → AllFree is_line_feed (pick x (l ∷ kept_of ls (after l e)) (kept_of ls (after l e)))
    go true r = piece g r
    go false r = r

-- FOR EVERY JOURNAL THAT IS PRUNED
pub pruned_holds : (heard : List (List ℕ)) → AllFree is_line_feed heard → PrunedHolds heard
pruned_holds heard f =
    let s : PrunedServes (kept_of heard (start_evening own_table)) (start_evening own_table) =
    pruned_serves (kept_of heard (start_evening own_table)) own_table own_table_fresh.empty
    (kept_free heard (start_evening own_table) f)
    (kept_again heard (start_evening own_table) (start_evening own_table) (same_desk_self (start_evening own_table))) in
    record {
      serves = s;
      holds =
          subst (λ (table : List Record). EveningHolds (line_texts heard) table)
          (ap table_behind (lines_back f)
          ∙ sym (kept_lead heard (start_evening own_table) (start_evening own_table)
          (same_desk_self (start_evening own_table))).table
          ∙ sym s.desk.table) (evening_holds (line_texts heard));
    }
