-- The lines that matter lead to the same desk: line by line, a desk that heard all lines and one that heard only those
-- that matter are alike but for what later lines write anew, and behind all lines they are the same.
use mathlib.Core.Path.{◌≡◌, refl, sym, ap, subst, ◌∙◌}
use mathlib.Core.Bool.{Bool, true, false, not, ◌||◌}
use mathlib.Core.List.{List, [], ◌∷◌, ◌++◌, append-nil}
use Prim.Native.Nat.{ℕ, zero, suc}
use native.Mathlib.Omega.{arith}
use lib.Dec.{eqb}
use lib.ListN.{length, get_or, take}
use lib.Seq.{take-nil}
use borrow.Author.Tests.{eqb-true}
use lib.IntN.{ℤ}
use Rattle.paper.specs.declared.Record.{Record}
use Rattle.paper.specs.declared.Interest.{Interest}
use Rattle.paper.specs.Lists.{pick, every}
use Rattle.paper.specs.Verdicts.{is_done, NoneApplies, also}
use Rattle.paper.proofs.Logic.{not_true_and_false, and_left, and_right, not_true, not_false, pick_true, pick_false}
use Rattle.paper_desk.specs.Desk.{Ask, evaluating, quoting, moving, reading, opening, receiving, Call, admit, about}
use Rattle.paper_desk.specs.Desk.{blank, known, Outcome, checks_of, accepted_of, step, fresh}
use Rattle.paper_desk.specs.Kept.{good, every_slot}
use Rattle.paper_desk.proofs.Refusals.{verdict_first, accepted_step, accepted_only, accepted_always}
use Rattle.paper_interest.specs.Interest.{interest_answer}
use Rattle.demands.proofs.Kept.{good_kept, fresh_good}
use Rattle.text_bytes.specs.Bytes.{is_line_feed, same}
use Rattle.text_bytes.specs.Split.{AllFree, piece}
use Rattle.text_protocol.specs.declared.Kept.{Kept}
use Rattle.text_protocol.specs.Kept.{none_kept, kept_after}
use Rattle.text_protocol.specs.CallCases.{deed_by}
use Rattle.text_protocol.specs.Line.{meaning}
use Rattle.text_protocol.specs.Calls.{Deed, nothing, no_call, call, interest, bond, deed_of}
use Rattle.text_evening.specs.Evening.{Evening, table_after, kept_by, asked_by, after, start_evening, after_all}
use Rattle.journal_protocol.specs.Lines.{reads_only, may_change, changes, closed_line, is_kept, kept_of, kept_batches, all_lines}
use Rattle.journal_protocol.specs.Recovery.{kept_again_of}
use Rattle.journal_protocol.specs.Journal.{journal_text, entries_at}
use Rattle.journal_protocol.specs.Holds.{SameDesk, no_line, entries_of, RecoveredTo, TornRecovered}
use Rattle.journal_protocol.proofs.EntryLaws.{same_is}
use Rattle.journal_protocol.proofs.JournalLaws.{or_other}
use Rattle.journal_protocol.proofs.RecoveryLaws.{torn_recovered, cut_is_torn}
use Rattle.prune_protocol.specs.Pruning.{other, ask_part, deed_part, part_of}
use Rattle.prune_protocol.specs.Pruning.{part_matters, matters, pruned}
use Rattle.prune_protocol.specs.Holds.{PrunedLead, each_alone, pruned_text, PrunedServes}
use Rattle.prune_protocol.proofs.Records.{alike_self}
use Rattle.prune_protocol.proofs.Tables.{Own, own_kept, Tables, line_of_none, about_checks, about_kept, about_left}
use Rattle.prune_protocol.proofs.Tables.{admit_checks_lem, admit_kept, tables_same}
use Rattle.prune_protocol.proofs.Answers.{answers_of, Thinned, thinned_self, NoInterest, thinned_passes}
use Rattle.prune_protocol.proofs.Answers.{interest_kept, interest_left, kept_same}
use Rattle.prune_protocol.proofs.Asked.{part_is, asked_same}

-- ---- two desks

record Desks (ls : List (List ℕ)) (t u : List Record) (k m : Kept) : Type 0 where
  tables : Tables ls t u
  answers : Thinned ls [] (answers_of k) (answers_of m)

-- an accepted call
done_table : (c : Call) (t : List Record) → is_done (step c t).answer.verdict ≡ true
    → (accepted_of c t).table ≡ (step c t).table
done_table c t e =
    ap (λ (o : Outcome). o.table) (sym (accepted_step c t (ap is_done (sym (verdict_first c t)) ∙ e)))

done_always : (c : Call) (t : List Record) → NoneApplies (checks_of c t) → is_done (step c t).answer.verdict ≡ true
unfolding is_done
done_always c t n = ap is_done (accepted_always c t n)

ask_no_interest : (i : ℕ) (x : Ask) → NoInterest (ask_part i x)
unfolding ask_part
ask_no_interest i (evaluating d rows) = tt
ask_no_interest i (quoting q) = tt
ask_no_interest i (moving side) = tt
ask_no_interest i reading = tt
ask_no_interest i opening = tt
ask_no_interest i (receiving x) = tt

-- what an accepted interest line leaves
kept_after_lem : (i : Interest) (keys : List ℤ) (k : Kept) → is_done (interest_answer i keys).pair.verdict ≡ true
    → kept_after k i (interest_answer i keys)
    ≡ record {
      newest = record { ym = i.ym; yn = i.yn; worked = (interest_answer i keys).pair };
      middle = k.newest;
      oldest = k.middle;
    }
unfolding kept_after
kept_after_lem i keys k e = pick_true (is_done (interest_answer i keys).pair.verdict) _ _ e

module _ (l : List ℕ) (ls : List (List ℕ)) (t u : List Record) (k m : Kept) (o : Own t) (g : every_slot good u ≡ true)
    (d : Desks (l ∷ ls) t u k m) where
  -- a call that changes something
  record Accepted (i : ℕ) (x : Ask) : Type 0 where
    done : is_done (step (about i x) t).answer.verdict ≡ true
    none : NoneApplies (checks_of (about i x) t)
    there : known t i ≡ true
    writes : reads_only x ≡ false

  accepted_ask : (i : ℕ) (x : Ask) → changes (call (about i x)) t ≡ true → Accepted i x
  unfolding changes may_change checks_of
  accepted_ask i x c =
      let done : is_done (step (about i x) t).answer.verdict ≡ true = and_right (not (reads_only x)) _ c in
      record {
        done = done;
        none = accepted_only (about i x) t done;
        there = known_there (accepted_only (about i x) t done);
        writes = not_true (reads_only x) (and_left (not (reads_only x)) _ c);
      }
    where
      known_there : NoneApplies (checks_of (about i x) t) → known t i ≡ true
      known_there (also q n) = not_false (known t i) q

  calls_pass : (i : ℕ) (x : Ask) → part_of l ≡ ask_part i x → Thinned ls [] (answers_of k) (answers_of m)
  calls_pass i x says = thinned_passes l ls (rw says (ask_no_interest i x)) d.answers

  -- THE LINE MATTERS: it changes something on the other desk too, and leaves two that are alike
  record Stays (e : Deed) : Type 0 where
    changes_too : changes e u ≡ true
    desks : Desks ls (table_after e t) (table_after e u) (kept_by e k) (kept_by e m)

  ask_stays : (i : ℕ) (x : Ask) → part_of l ≡ ask_part i x → part_matters (part_of l) ls ≡ true → Accepted i x
      → Stays (call (about i x))
  unfolding changes may_change table_after kept_by
  ask_stays i x says matter a =
      let done : is_done (step (about i x) u).answer.verdict ≡ true =
      done_always (about i x) u
      (about_checks l ls i x says t u o d.tables a.there g matter a.writes a.none) in
      record {
        changes_too = rw (a.writes, done);
        desks =
            record {
              tables =
                  rw (sym (done_table (about i x) t a.done), sym (done_table (about i x) u done))
                  (about_kept l ls i x says t u o d.tables a.there matter a.writes);
              answers = calls_pass i x says;
            };
      }

  line_stays : (e : Deed) → part_of l ≡ deed_part e → part_matters (part_of l) ls ≡ true → changes e t ≡ true → Stays e
  unfolding changes may_change table_after kept_by deed_part
  line_stays nothing says matter c = absurd (not_true_and_false false c refl)
  line_stays no_call says matter c = absurd (not_true_and_false false c refl)
  line_stays (call (admit a)) says matter c =
      let n : NoneApplies (checks_of (admit a) t) = accepted_only (admit a) t c in
      let done : is_done (step (admit a) u).answer.verdict ≡ true =
      done_always (admit a) u (admit_checks_lem l ls a says t u d.tables n) in
      record {
        changes_too = done;
        desks =
            record {
              tables =
                  rw (sym (done_table (admit a) t c), sym (done_table (admit a) u done))
                  (admit_kept l ls a says t u d.tables n);
              answers = thinned_passes l ls (rw says tt) d.answers;
            };
      }
  line_stays (call (about i x)) says matter c = ask_stays i x says matter (accepted_ask i x c)
  line_stays (interest i keys) says matter c =
      record {
        changes_too = c;
        desks =
            record {
              tables = line_of_none l ls (λ id. rw says tt) t u d.tables;
              answers =
                  rw (kept_after_lem i keys k c, kept_after_lem i keys m c)
                  (interest_kept l ls (record { ym = i.ym; yn = i.yn; worked = (interest_answer i keys).pair }) says
                  _ _ _ _ _ _ d.answers);
            };
      }
  line_stays (bond b flows) says matter c = absurd (not_true_and_false false c refl)

  -- IT DOES NOT MATTER, and is left out on the other desk
  line_left : (e : Deed) → part_of l ≡ deed_part e → part_matters (part_of l) ls ≡ false → changes e t ≡ true
      → Desks ls (table_after e t) u (kept_by e k) m
  unfolding changes may_change table_after kept_by deed_part part_matters
  line_left nothing says matter c = absurd (not_true_and_false false c refl)
  line_left no_call says matter c = absurd (not_true_and_false false c refl)
  line_left (call (admit a)) says matter c = absurd (not_true_and_false true refl (rw says at matter))
  line_left (call (about i x)) says matter c =
      let a : Accepted i x = accepted_ask i x c in
      record {
        tables =
            rw (sym (done_table (about i x) t a.done))
            (about_left l ls i x says t u o d.tables a.there matter);
        answers = calls_pass i x says;
      }
  line_left (interest i keys) says matter c =
      record {
        tables = line_of_none l ls (λ id. rw says tt) t u d.tables;
        answers =
            rw (kept_after_lem i keys k c)
            (interest_left l ls (record { ym = i.ym; yn = i.yn; worked = (interest_answer i keys).pair }) says
            _ _ _ _ _ _ d.answers matter);
      }
  line_left (bond b flows) says matter c = absurd (not_true_and_false false c refl)

-- ---- one line on two evenings

or_later : (a : Bool) {b : Bool} → b ≡ true → (a || b) ≡ true
or_later true e = refl
or_later false e = e

record Evenings (ls : List (List ℕ)) (e f : Evening) : Type 0 where
  desks : Desks ls e.table f.table e.kept f.kept
  own : Own e.table
  good_slots : every_slot good f.table ≡ true

own_after : (d : Deed) (t : List Record) → Own t → Own (table_after d t)
unfolding table_after
own_after nothing t o = o
own_after no_call t o = o
own_after (call c) t o = own_kept c t o
own_after (interest i keys) t o = o
own_after (bond b flows) t o = o

good_after : (d : Deed) (t : List Record) → every_slot good t ≡ true → every_slot good (table_after d t) ≡ true
unfolding table_after
good_after nothing t g = g
good_after no_call t g = g
good_after (call c) t g = good_kept c t g
good_after (interest i keys) t g = g
good_after (bond b flows) t g = g

-- the line that closes an evening asks for nothing
closed_asks : (l : List ℕ) (k : Kept) → same l closed_line ≡ true → deed_of k (meaning l) ≡ nothing
unfolding deed_by closed_line
closed_asks l k e =
    let is : l ≡ closed_line = same_is l closed_line e in
    ap (λ (x : List ℕ). deed_of k (meaning x)) is

module _ (l : List ℕ) (ls : List (List ℕ)) (e f : Evening) (d : Evenings (l ∷ ls) e f) (keeps : is_kept l e ≡ true) where
  says : part_of l ≡ deed_part (asked_by l e)
  says = part_is e.kept l

  -- what does not change anything is the close, which says nothing on either desk
  is_close : changes (asked_by l e) e.table ≡ false → same l closed_line ≡ true
  unfolding is_kept
  is_close c = or_other (changes (asked_by l e) e.table) (same l closed_line) keeps c

  -- what changes something is no close
  part_decides : changes (asked_by l e) e.table ≡ true → matters l ls ≡ part_matters (part_of l) ls
  unfolding matters changes
  part_decides c = pick_false (same l closed_line) _ _ (go (same l closed_line) refl)
    where
      go : (b : Bool) → same l closed_line ≡ b → b ≡ false
      go true w = absurd (not_true_and_false false (rw (closed_asks l e.kept w) at c) refl)
      go false w = refl

  close_desks : same l closed_line ≡ true → Desks ls e.table f.table e.kept f.kept
  unfolding deed_part
  close_desks c =
      let none : part_of l ≡ other = rw (closed_asks l e.kept c) at says in
      record {
        tables = line_of_none l ls (λ id. rw none tt) e.table f.table d.desks.tables;
        answers = thinned_passes l ls (rw none tt) d.desks.answers;
      }

  close_stays : same l closed_line ≡ true → Evenings ls (after l e) (after l f)
  unfolding after table_after kept_by
  close_stays c =
      rw (closed_asks l e.kept c, closed_asks l f.kept c)
      (record { desks = close_desks c; own = d.own; good_slots = d.good_slots })

  close_left : same l closed_line ≡ true → Evenings ls (after l e) f
  unfolding after table_after kept_by
  close_left c =
      rw (closed_asks l e.kept c) (record { desks = close_desks c; own = d.own; good_slots = d.good_slots })

  change_stays : changes (asked_by l e) e.table ≡ true → matters l ls ≡ true
      → (is_kept l f ≡ true) × Evenings ls (after l e) (after l f)
  unfolding is_kept after
  change_stays c m =
      let asked : asked_by l f ≡ asked_by l e =
      asked_same l ls e.kept f.kept d.desks.answers e.table c in
      let s : Stays l ls e.table f.table e.kept f.kept d.own d.good_slots d.desks (asked_by l e) =
      line_stays l ls e.table f.table e.kept f.kept d.own d.good_slots d.desks (asked_by l e) says
      (sym (part_decides c) ∙ m) c in (
        rw (asked, s.changes_too),
        record {
          desks = rw asked s.desks;
          own = own_after (asked_by l e) e.table d.own;
          good_slots = good_after (asked_by l f) f.table d.good_slots;
        },
      )

  -- A LINE THAT MATTERS is kept on both
  stays_on : matters l ls ≡ true → (is_kept l f ≡ true) × Evenings ls (after l e) (after l f)
  unfolding is_kept
  stays_on m = go (changes (asked_by l e) e.table) refl
    where
      go : (b : Bool) → changes (asked_by l e) e.table ≡ b
          → (is_kept l f ≡ true) × Evenings ls (after l e) (after l f)
      go true c = change_stays c m
      go false c = (or_later (changes (asked_by l f) f.table) (is_close c), close_stays (is_close c))

  -- ONE THAT DOES NOT is left out on the second
  left_out : matters l ls ≡ false → Evenings ls (after l e) f
  unfolding after
  left_out m = go (changes (asked_by l e) e.table) refl
    where
      go : (b : Bool) → changes (asked_by l e) e.table ≡ b → Evenings ls (after l e) f
      go true c =
          record {
            desks =
                line_left l ls e.table f.table e.kept f.kept d.own d.good_slots d.desks
                (asked_by l e) says (sym (part_decides c) ∙ m) c;
            own = own_after (asked_by l e) e.table d.own;
            good_slots = d.good_slots;
          }
      go false c = close_left (is_close c)

-- ---- all lines

leads : (ls : List (List ℕ)) (e f : Evening) → kept_again_of ls e ≡ length ls → Evenings ls e f
    → SameDesk (after_all (pruned ls) f) (after_all ls e) × (kept_again_of (pruned ls) f ≡ length (pruned ls))
unfolding after_all pruned kept_again_of
leads [] e f h d = (
  record {
    table = tables_same e.table f.table d.desks.tables;
    kept = kept_same e.kept f.kept d.desks.answers;
  },
  refl,
)
leads (l ∷ ls) e f h d = go (is_kept l e) refl (matters l ls) refl h (λ n g c. leads ls (after l e) g n c)
  where
    go : (x : Bool) → is_kept l e ≡ x → (y : Bool) → matters l ls ≡ y
        → pick x (suc (kept_again_of ls (after l e))) 0 ≡ suc (length ls)
        → (kept_again_of ls (after l e) ≡ length ls → (g : Evening) → Evenings ls (after l e) g
        → SameDesk (after_all (pruned ls) g) (after_all ls (after l e)) × (kept_again_of (pruned ls) g ≡ length (pruned ls)))
        → SameDesk (after_all (pick y (l ∷ pruned ls) (pruned ls)) f) (after_all ls (after l e))
        × (kept_again_of (pick y (l ∷ pruned ls) (pruned ls)) f ≡ length (pick y (l ∷ pruned ls) (pruned ls)))
    go false k y w n rest = absurd (omega arith)
    go true k true w n rest =
        let s = stays_on l ls e f d k w in
        let r = rest (omega arith) (after l f) s.1 in
        (r.0, rw s.0 (ap suc r.1))
    go true k false w n rest = rest (omega arith) f (left_out l ls e f d k w)

-- on a fresh table each id stands in one slot: none stands at all
fresh_own : (t : List Record) → fresh t ≡ true → Own t
unfolding fresh every blank
fresh_own t h = record { at = λ k n. absurd (n (empty t k h)) }
  where
    empty : (t : List Record) (k : ℕ) → fresh t ≡ true → (get_or t k blank).id ≡ 0
    empty [] k h = refl
    empty (r ∷ t) zero h = eqb-true r.id 0 (and_left (eqb r.id 0) _ h)
    empty (r ∷ t) (suc k) h = empty t k (and_right (eqb r.id 0) _ h)

-- THE LINES OF A JOURNAL, PRUNED, LEAD TO THE SAME DESK
pub pruned_lead : (ls : List (List ℕ)) (t : List Record) → fresh t ≡ true
    → kept_again_of ls (start_evening t) ≡ length ls → PrunedLead ls (start_evening t)
pruned_lead ls t h n = record { desk = both.0; again = both.1 }
  where
    both : SameDesk (after_all (pruned ls) (start_evening t)) (after_all ls (start_evening t))
        × (kept_again_of (pruned ls) (start_evening t) ≡ length (pruned ls))
    both =
        leads ls (start_evening t) (start_evening t) n
        (record {
          desks =
              record {
                tables = record { size = refl; slots = λ k. alike_self _ _ _ (get_or t k blank) };
                answers = thinned_self ls none_kept;
              };
          own = fresh_own t h;
          good_slots = fresh_good t h;
        })

-- ---- recovery of a pruned journal

alone_lines : (ls : List (List ℕ)) → all_lines (each_alone ls) ≡ ls
unfolding all_lines each_alone
alone_lines [] = refl
alone_lines (l ∷ ls) = ap (λ (ks : List (List ℕ)). l ∷ ks) (alone_lines ls)

-- lines that would all be kept again are kept, a batch each
alone_kept : (ls : List (List ℕ)) (e : Evening) → kept_again_of ls e ≡ length ls → kept_batches (each_alone ls) e ≡ each_alone ls
unfolding kept_again_of kept_batches each_alone kept_of after_all
alone_kept [] e h = refl
alone_kept (l ∷ ls) e h = go (is_kept l e) h (alone_kept ls (after l e))
  where
    go : (x : Bool) → pick x (suc (kept_again_of ls (after l e))) 0 ≡ suc (length ls)
        → (kept_again_of ls (after l e) ≡ length ls → kept_batches (each_alone ls) (after l e) ≡ each_alone ls)
        → pick x (l ∷ []) [] ∷ kept_batches (each_alone ls) (after l e) ≡ (l ∷ []) ∷ each_alone ls
    go true n rest = ap (λ (bs : List (List (List ℕ))). (l ∷ []) ∷ bs) (rest (omega arith))
    go false n rest = absurd (omega arith)

pruned_free : (ls : List (List ℕ)) → AllFree is_line_feed ls → AllFree is_line_feed (pruned ls)
unfolding pruned
pruned_free [] f = f
pruned_free (l ∷ ls) (piece g f) = go (matters l ls) (pruned_free ls f)
  where
    go : (x : Bool) → AllFree is_line_feed (pruned ls)
        → AllFree is_line_feed (pick x (l ∷ pruned ls) (pruned ls))
    go true r = piece g r
    go false r = r

-- RECOVERY SERVES THE PRUNED JOURNAL, on the desk of the journal that was pruned
pub pruned_serves : (ls : List (List ℕ)) (t : List Record) → fresh t ≡ true → AllFree is_line_feed ls
    → kept_again_of ls (start_evening t) ≡ length ls → PrunedServes ls (start_evening t)
unfolding pruned_text kept_of
pruned_serves ls t h f n = record { recovers = recovers; desk = desk }
  where
    lead : PrunedLead ls (start_evening t)
    lead = pruned_lead ls t h n

    torn : TornRecovered (each_alone (pruned ls)) [] (start_evening t) []
    torn =
        torn_recovered (each_alone (pruned ls)) [] (start_evening t) []
        (rw (alone_lines (pruned ls)) (pruned_free ls f)) (cut_is_torn _ [] no_line 0)

    lines_are : all_lines (each_alone (pruned ls)) ++ take torn.count [] ≡ pruned ls
    lines_are = rw (take-nil torn.count, append-nil (all_lines (each_alone (pruned ls)))) (alone_lines (pruned ls))

    bytes_are : journal_text (entries_of (each_alone (pruned ls)) (start_evening t)) ++ []
        ≡ journal_text (entries_at 1 (each_alone (pruned ls)))
    bytes_are =
        append-nil (journal_text (entries_of (each_alone (pruned ls)) (start_evening t)))
        ∙ ap (λ (bs : List (List (List ℕ))). journal_text (entries_at 1 bs))
        (alone_kept (pruned ls) (start_evening t) lead.again)

    recovers : RecoveredTo (pruned ls) (start_evening t) (journal_text (entries_at 1 (each_alone (pruned ls))))
    recovers =
        subst (λ (bytes : List ℕ). RecoveredTo (pruned ls) (start_evening t) bytes) bytes_are
        (subst
        (λ (ks : List (List ℕ)). RecoveredTo ks (start_evening t)
        (journal_text (entries_of (each_alone (pruned ls)) (start_evening t)) ++ []))
        lines_are torn.recovers)

    desk : SameDesk recovers.evening (after_all ls (start_evening t))
    desk =
        record {
          table = recovers.desk.table ∙ lead.desk.table;
          kept = recovers.desk.kept ∙ lead.desk.kept;
        }
