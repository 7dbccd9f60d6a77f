-- What a line asks for on two desks: what is kept of interest lines changes the day of an evaluation alone, and where an
-- evaluation is accepted it takes the same answers on both.
use mathlib.Core.Path.{◌≡◌, refl, ap}
use mathlib.Core.Bool.{Bool, true, false, ◌&&◌, ◌||◌}
use mathlib.Core.List.{List, [], ◌∷◌}
use Prim.Native.Nat.{ℕ, ◌<◌}
use native.Mathlib.Omega.{arith}
use lib.Dec.{leb, eqb}
use lib.IntN.{ℤ, pos}
use lib.Signed.{le_z}
use borrow.Author.Tests.{eq-eqb}
use Rattle.paper.specs.declared.Record.{Record}
use Rattle.paper.specs.declared.Day.{Day}
use Rattle.paper.specs.declared.WorkedBand.{WorkedBand}
use Rattle.paper.specs.declared.RepoLimits.{RepoLimits}
use Rattle.paper.specs.declared.RepoBand.TheVariants as band
use Rattle.paper.specs.declared.AskedDay.{AskedDay}
use Rattle.paper_bonds.specs.declared.Bond.{Bond}
use Rattle.paper.specs.Lists.{pick}
use Rattle.paper.specs.Verdicts.{is_done, NoneApplies, also}
use Rattle.paper.specs.Numbers.{day_most, behind_most, ahead_most, term_days_most, repo_least}
use Rattle.paper.specs.Ranges.{unsigned, valid_term, valid_day, valid_day_numbers, term_at}
use Rattle.paper.specs.Terms.{no_repo, worked_repo, repo_of, term_of, day_of}
use Rattle.paper.proofs.Logic.{not_true_and_false, and_left, and_right, not_false, each_of_three}
use Rattle.paper_desk.specs.Desk.{Call, evaluate, checks_of}
use Rattle.paper_desk.proofs.Refusals.{accepted_only}
use Rattle.text_protocol.specs.declared.Kept.{Kept}
use Rattle.text_protocol.specs.declared.Pairs.{Pairs}
use Rattle.text_protocol.specs.Kept.{found_in, none_kept}
use Rattle.text_protocol.specs.Names.{Name, ID, K0, RRCL0, RRCH0, K1, RRCL1, RRCH1, K2, RRCL2, RRCH2, evaluate_names}
use Rattle.text_protocol.specs.Names.{bond_names, admit_kind, evaluate_kind, interest_kind, bond_kind, the}
use Rattle.text_protocol.specs.Line.{Said, Nothing, NoCall, Call as saysCall, meaning}
use Rattle.text_protocol.specs.Calls.{Deed, call, bond, unsigned_of, figures_behind, band_of}
use Rattle.text_protocol.specs.Calls.{term_of as askedTerm, asked_of, bond_of, desk_call, call_of, deed_of}
use Rattle.journal_protocol.specs.Lines.{may_change, changes}
use Rattle.prune_protocol.specs.Pruning.{evaluates, ask_part, deed_part, part_of, takes, names_pair}
use Rattle.prune_protocol.proofs.Answers.{answers_of, Thinned, found_same}

-- ---- the two deeds

-- the same; or two evaluations that differ in what their pairs of terms stand for; or two bonds
data Asks (k m : Kept) : Said → Deed → Deed → Type 0 where
  alike : {s : Said} {d : Deed} → Asks k m s d d
  days : {kind id : ℕ} {zs rows : List ℤ} {p : Pairs}
      → Asks k m (saysCall kind zs p) (call (evaluate id (day_of (asked_of k zs p)) rows))
      (call (evaluate id (day_of (asked_of m zs p)) rows))
  bonds : {s : Said} {b c : Bond} {flows more : List ℤ} → Asks k m s (bond b flows) (bond c more)

asks : (k m : Kept) (s : Said) → Asks k m s (deed_of k s) (deed_of m s)
unfolding deed_of call_of desk_call
asks k m Nothing = alike
asks k m NoCall = alike
asks k m (saysCall kind zs p) =
    go (eqb kind interest_kind) (eqb kind bond_kind) (eqb kind admit_kind) (eqb kind evaluate_kind) _ _ _
  where
    go : (a b c d : Bool) (i : Deed) (x y : Call)
        → Asks k m (saysCall kind zs p)
        (pick a i (pick b (bond (bond_of k zs p) (figures_behind bond_names zs)) (call (pick c x (pick d
        (evaluate (unsigned_of evaluate_names zs ID) (day_of (asked_of k zs p)) (figures_behind evaluate_names zs)) y)))))
        (pick a i (pick b (bond (bond_of m zs p) (figures_behind bond_names zs)) (call (pick c x (pick d
        (evaluate (unsigned_of evaluate_names zs ID) (day_of (asked_of m zs p)) (figures_behind evaluate_names zs)) y)))))
    go true b c d i x y = alike
    go false true c d i x y = bonds
    go false false true d i x y = alike
    go false false false true i x y = days
    go false false false false i x y = alike

same_part : {k m : Kept} {s : Said} {d e : Deed} → Asks k m s d e → deed_part d ≡ deed_part e
unfolding deed_part ask_part
same_part alike = refl
same_part days = refl
same_part bonds = refl

-- THE PART OF A LINE, whatever is kept
pub part_is : (k : Kept) (l : List ℕ) → part_of l ≡ deed_part (deed_of k (meaning l))
unfolding part_of
part_is k l = same_part (asks none_kept k (meaning l))

-- ---- a term of an accepted evaluation

-- a pair that was not found makes its term out of range
worked_found : (n : ℕ) (w : WorkedBand) → valid_term (term_of (record { k = n; band = band.WorkedOut w })) ≡ true
    → is_done w.verdict ≡ true
unfolding term_of repo_of worked_repo valid_term
worked_found n w v = go (is_done w.verdict) refl v
  where
    go : (b : Bool) → is_done w.verdict ≡ b
        → valid_term (record {
          k = n;
          low = (pick {A = RepoLimits} b (record { low = w.lower; high = w.upper }) no_repo).low;
          high = (pick {A = RepoLimits} b (record { low = w.lower; high = w.upper }) no_repo).high;
        }) ≡ true
        → b ≡ true
    go true e v = refl
    go false e v =
        absurd
        (not_true_and_false false
        (and_right (leb n term_days_most && le_z repo_least (pos 1)) _
        (and_left ((leb n term_days_most && le_z repo_least (pos 1)) && le_z (pos 1) (pos 0)) _ v)) refl)

-- ---- the same deed

module _ (l : List ℕ) (ls : List (List ℕ)) (k m : Kept) (thin : Thinned (l ∷ ls) [] (answers_of k) (answers_of m)) where
  -- a term that stands in a valid day is the same on both
  term_same : (id n : ℕ) (pair : Bool) (low high : ℤ) → part_of l ≡ evaluates id
      → (pair ≡ true → takes (meaning l) (unsigned low) (unsigned high) ≡ true)
      → valid_term (term_of (record { k = n; band = band_of k pair low high })) ≡ true
      → band_of m pair low high ≡ band_of k pair low high
  unfolding band_of
  term_same id n false low high says named v = refl
  term_same id n true low high says named v =
      ap band.WorkedOut
      (found_same l ls id (unsigned low) (unsigned high) says (named refl) k m thin
      (worked_found n (found_in k (unsigned low) (unsigned high)) v))

  module _ (kind id : ℕ) (zs rows : List ℤ) (p : Pairs) (is : meaning l ≡ saysCall kind zs p)
      (says : part_of l ≡ evaluates id) (valid : valid_day (day_of (asked_of k zs p)) rows ≡ true) where
    names_own : (pair : Bool) (low high : Name) → pair ≡ true
        → names_pair zs pair low high (unsigned_of evaluate_names zs low) (unsigned_of evaluate_names zs high) ≡ true
    names_own pair low high e =
        rw (
          e,
          eq-eqb (unsigned_of evaluate_names zs low) (unsigned_of evaluate_names zs low) refl,
          eq-eqb (unsigned_of evaluate_names zs high) (unsigned_of evaluate_names zs high) refl,
        )

    or_last : (a : Bool) → (a || true) ≡ true
    or_last true = refl
    or_last false = refl

    or_third : (a b : Bool) → (a || (b || true)) ≡ true
    or_third true b = refl
    or_third false b = or_last b

    -- so the line takes the pair of each term that has one
    takes_first : (ym yn : ℕ) → names_pair zs p.first RRCL0 RRCH0 ym yn ≡ true → takes (meaning l) ym yn ≡ true
    unfolding takes
    takes_first ym yn h = rw (is, h)

    takes_second : (ym yn : ℕ) → names_pair zs p.second RRCL1 RRCH1 ym yn ≡ true → takes (meaning l) ym yn ≡ true
    unfolding takes
    takes_second ym yn h = rw (is, h) (or_last (names_pair zs p.first RRCL0 RRCH0 ym yn))

    takes_third : (ym yn : ℕ) → names_pair zs p.third RRCL2 RRCH2 ym yn ≡ true → takes (meaning l) ym yn ≡ true
    unfolding takes
    takes_third ym yn h =
        rw (is, h)
        (or_third (names_pair zs p.first RRCL0 RRCH0 ym yn) (names_pair zs p.second RRCL1 RRCH1 ym yn))

    abbrev d : Day
    d = day_of (asked_of k zs p)

    terms_valid : (i : ℕ) → i < 3 → valid_term (term_at (day_of (asked_of k zs p)).terms i) ≡ true
    unfolding valid_day
    terms_valid i h =
        each_of_three (λ i. valid_term (term_at (day_of (asked_of k zs p)).terms i))
        (and_right (leb d.day day_most && leb d.b behind_most && leb d.m ahead_most) _
        (and_left (valid_day_numbers (day_of (asked_of k zs p))) _ valid)) i h

    day_same : asked_of m zs p ≡ asked_of k zs p
    unfolding asked_of askedTerm day_of
    day_same =
        let first : band_of m p.first (the evaluate_names zs RRCL0) (the evaluate_names zs RRCH0)
        ≡ band_of k p.first (the evaluate_names zs RRCL0) (the evaluate_names zs RRCH0) =
        term_same id (unsigned_of evaluate_names zs K0) p.first (the evaluate_names zs RRCL0)
        (the evaluate_names zs RRCH0) says
        (λ e. takes_first _ _ (names_own p.first RRCL0 RRCH0 e)) (terms_valid 0 (omega arith)) in
        let second : band_of m p.second (the evaluate_names zs RRCL1) (the evaluate_names zs RRCH1)
        ≡ band_of k p.second (the evaluate_names zs RRCL1) (the evaluate_names zs RRCH1) =
        term_same id (unsigned_of evaluate_names zs K1) p.second (the evaluate_names zs RRCL1)
        (the evaluate_names zs RRCH1) says
        (λ e. takes_second _ _ (names_own p.second RRCL1 RRCH1 e)) (terms_valid 1 (omega arith)) in
        let third : band_of m p.third (the evaluate_names zs RRCL2) (the evaluate_names zs RRCH2)
        ≡ band_of k p.third (the evaluate_names zs RRCL2) (the evaluate_names zs RRCH2) =
        term_same id (unsigned_of evaluate_names zs K2) p.third (the evaluate_names zs RRCL2)
        (the evaluate_names zs RRCH2) says
        (λ e. takes_third _ _ (names_own p.third RRCL2 RRCH2 e)) (terms_valid 2 (omega arith)) in
        rw (first, second, third)

  deed_same : {s : Said} {d e : Deed} (t : List Record) → Asks k m s d e → meaning l ≡ s → part_of l ≡ deed_part d
      → changes d t ≡ true → e ≡ d
  unfolding changes deed_part ask_part checks_of
  deed_same t alike is says c = refl
  deed_same t (days {kind} {id} {zs} {rows} {p}) is says c =
      ap (λ (x : AskedDay). call (evaluate id (day_of x) rows)) (day_same kind id zs rows p is says (valid accepted))
    where
      accepted : NoneApplies (checks_of (evaluate id (day_of (asked_of k zs p)) rows) t)
      accepted =
          accepted_only (evaluate id (day_of (asked_of k zs p)) rows) t
          (and_right (may_change (evaluate id (day_of (asked_of k zs p)) rows)) _ c)

      valid : NoneApplies (checks_of (evaluate id (day_of (asked_of k zs p)) rows) t)
          → valid_day (day_of (asked_of k zs p)) rows ≡ true
      valid (also q (also v rest)) = not_false _ v
  deed_same t bonds is says c = absurd (not_true_and_false false c refl)

  -- A LINE THAT CHANGES SOMETHING ASKS FOR THE SAME ON BOTH
  pub asked_same : (t : List Record) → changes (deed_of k (meaning l)) t ≡ true
      → deed_of m (meaning l) ≡ deed_of k (meaning l)
  asked_same t c = deed_same t (asks k m (meaning l)) refl (part_is k l) c
