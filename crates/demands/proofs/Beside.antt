-- Demand 1 of the calls beside the table, by the laws of each of them.
use mathlib.Core.Path.{◌≡◌, refl, sym, ◌∙◌, ap}
use mathlib.Core.Bool.{Bool, true, false}
use mathlib.Core.List.{List, [], ◌∷◌, map}
use Prim.Native.Nat.{ℕ, suc, ◌≤◌, ◌<◌}
use native.Mathlib.Omega.{arith}
use lib.IntN.{ℤ, pos, negsuc}
use lib.ListN.{length, drop}
use Rattle.paper.specs.declared.GivenStatics.{GivenStatics}
use Rattle.paper.specs.declared.Verdict.{Verdict}
use Rattle.paper.specs.declared.Verdict.TheVariants.{Done}
use Rattle.paper.specs.Lists.{every}
use Rattle.paper.specs.Ranges.{valid_given}
use Rattle.paper.specs.Verdicts.{number_of, is_done, Check, first_of, all_refusals}
use Rattle.paper_desk.specs.Gateway.{gateway_checks, gateway_answer, level_call, range_call, band_call}
use Rattle.paper_interest.specs.Interest.{interest_checks, interest_answer}
use Rattle.paper_bonds.specs.Bonds.{bond_checks, bond_answer}
use Rattle.paper_messages.specs.Messages.{write_checks, wrote_of, read_checks, heard_at}
use Rattle.exchange_protocol.specs.declared.Reading.{Reading}
use Rattle.text_bytes.specs.Bytes.{is_line_feed, pieces}
use Rattle.exchange_protocol.specs.Exchange.{text_most, Bad, refused, accepted, Says, too_long, bad_at_lem, good}
use Rattle.demands.specs.Beside.{Judged, FirstBad, ReadExactly, Figured, Demand1Beside}
use Rattle.paper_desk.proofs.Refusals.{refused_exactly, accepted_exactly}
use Rattle.paper_desk.proofs.Units.{gateway_answers_minus_four, gateway_answers_minus_six, gateway_answers_figure}
use Rattle.paper_interest.proofs.InterestRefusals as interest
use Rattle.paper_bonds.proofs.BondRefusals as bond
use Rattle.paper_messages.proofs.MessageLaws.{heard_verdict}
use Rattle.paper_messages.proofs.Refusals.{wrote_verdict, read_zeros, write_untouched}
use Rattle.exchange_protocol.proofs.Texts.{says_unique, no_line_zero}
use Rattle.paper_messages.specs.Messages.{verdict_of}

-- ---- an answer that is the first of its checks

judged : (verdict : Verdict) (checks : List Check) (numbers : List ℕ) → verdict ≡ first_of checks
    → all_refusals checks ≡ true → map (λ (x : Check). number_of x.verdict) checks ≡ numbers
    → Judged verdict checks numbers
judged verdict checks numbers is all order =
    record {
      order = order;
      refused = refused_exactly verdict checks is;
      accepted = accepted_exactly verdict checks is all;
    }

-- ---- the exchange's text

-- what is refused has a line, and what is accepted has none
line_is : (m n : ℕ) → refused m ≡ refused n → m ≡ n
unfolding refused
line_is m n e = ap (λ (r : Reading). r.line) e

not_both : (n : ℕ) (rows : List (List ℤ)) → (accepted rows).verdict ≡ (refused n).verdict → ⊥
unfolding refused accepted
not_both n rows e = let z : ◌≡◌ {A = ℕ} 0 15 = ap number_of e in omega arith

module _ (id : ℕ) (t : List ℕ) where
  long_text : {r : Reading} → Says id t r → r ≡ refused 0 → text_most < length t
  long_text (too_long h) e = h
  long_text (bad_at_lem {n = n} h b f) e = absurd (no_line_zero b (line_is n 0 e))
  long_text (good {rows = rows} h f g) e = absurd (not_both 0 rows (ap (λ (r : Reading). r.verdict) e))

  first_bad : {r : Reading} (k : ℕ) → Says id t r → r ≡ refused (suc k) → FirstBad id t (suc k)
  first_bad k (too_long h) e = let z : ◌≡◌ {A = ℕ} 0 (suc k) = line_is 0 (suc k) e in absurd (omega arith)
  first_bad k (bad_at_lem {n = n} h b f) e =
      let z : n ≡ suc k = line_is n (suc k) e in
      rw (← z) (record { fits = h; bad = b; none_before = f })
  first_bad k (good {rows = rows} h f g) e = absurd (not_both (suc k) rows (ap (λ (r : Reading). r.verdict) e))

  done_good : {r : Reading} → Says id t r → r.verdict ≡ Done
      → (length t ≤ text_most) × ((n : ℕ) → Bad id (pieces is_line_feed t) n → ⊥)
  unfolding accepted
  done_good (too_long h) e = absurd (not_both 0 [] (sym e))
  done_good (bad_at_lem {n = n} h b f) e = absurd (not_both n [] (sym e))
  done_good (good h f g) e = (h, f)

  good_done : {r : Reading} → Says id t r → length t ≤ text_most → ((n : ℕ) → Bad id (pieces is_line_feed t) n → ⊥)
      → r.verdict ≡ Done
  unfolding accepted
  good_done (too_long h) fits none = let z : ⊥ = omega arith in absurd z
  good_done (bad_at_lem {n = n} h b f) fits none = absurd (none n b)
  good_done (good h f g) fits none = refl

  read_exactly : (r : Reading) → Says id t r → ReadExactly id t r
  read_exactly r s =
      record {
        too_long = (long_text s, λ h. says_unique s (too_long h));
        bad_line_lem = λ k. (first_bad k s, λ b. says_unique s (bad_at_lem b.fits b.bad b.none_before));
        accepted = (done_good s, λ w. good_done s w.0 w.1);
      }

-- ---- the gateway

-- a figure is no refusal, and 4 is not 6
figured : (g : GivenStatics) (in_range : Bool) (figure : ℕ)
    → Figured (gateway_answer (first_of (gateway_checks g in_range)) figure) g in_range figure
figured g in_range figure =
    record {
      four = (λ e. four (valid_given g) refl in_range refl e, gateway_answers_minus_four g in_range figure);
      six = (
        λ e. six (valid_given g) refl in_range refl e,
        λ w. gateway_answers_minus_six g in_range figure w.0 w.1,
      );
      accepted = gateway_answers_figure g in_range figure;
    }
  where
    answer : ℤ
    answer = gateway_answer (first_of (gateway_checks g in_range)) figure

    four : (valid : Bool) → valid_given g ≡ valid → (inside : Bool) → in_range ≡ inside → answer ≡ negsuc 3
        → valid_given g ≡ false
    four false v inside i e = v
    four true v false i e =
        let z : ◌≡◌ {A = ℤ} (negsuc 5) (negsuc 3) = sym (gateway_answers_minus_six g in_range figure v i) ∙ e in
        absurd (let y : ◌≡◌ {A = ℕ} 5 3 = cc in omega arith)
    four true v true i e =
        let z : ◌≡◌ {A = ℤ} (pos figure) (negsuc 3) = sym (gateway_answers_figure g in_range figure v i) ∙ e in
        absurd (let y : ◌≡◌ {A = ℕ} 0 1 = cc in omega arith)

    six : (valid : Bool) → valid_given g ≡ valid → (inside : Bool) → in_range ≡ inside → answer ≡ negsuc 5
        → (valid_given g ≡ true) × (in_range ≡ false)
    six true v false i e = (v, i)
    six false v inside i e =
        let z : ◌≡◌ {A = ℤ} (negsuc 3) (negsuc 5) = sym (gateway_answers_minus_four g in_range figure v) ∙ e in
        absurd (let y : ◌≡◌ {A = ℕ} 3 5 = cc in omega arith)
    six true v true i e =
        let z : ◌≡◌ {A = ℤ} (pos figure) (negsuc 5) = sym (gateway_answers_figure g in_range figure v i) ∙ e in
        absurd (let y : ◌≡◌ {A = ℕ} 0 1 = cc in omega arith)

-- ---- the demand

pub demand_1_beside : Demand1Beside
unfolding interest_checks bond_checks read_checks write_checks wrote_of level_call range_call band_call all_refusals every is_done
demand_1_beside =
    record {
      interest = λ i numbers.
          judged (interest_answer i numbers).pair.verdict (interest_checks i numbers) (6 ∷ 14 ∷ [])
          (interest.verdict_first i numbers) refl refl;
      interest_zero = interest.refused_zero;
      bond = λ b flows.
          judged (bond_answer b flows).verdict (bond_checks b flows) (6 ∷ 17 ∷ 7 ∷ 9 ∷ []) (bond.verdict_first b flows)
          refl refl;
      bond_zero = bond.refused_zero;
      exchange = read_exactly;
      heard = λ buffer place.
          judged (verdict_of (heard_at buffer place)) (read_checks (drop place buffer)) (21 ∷ 22 ∷ 21 ∷ 22 ∷ 23 ∷ [])
          (heard_verdict buffer place) refl refl;
      heard_zero = read_zeros;
      wrote = λ buffer m.
          judged (verdict_of (wrote_of buffer m)) (write_checks buffer m) (23 ∷ 24 ∷ []) (wrote_verdict buffer m) refl refl;
      wrote_nothing = write_untouched;
      level_rate_lem = λ g tentative m level. figured g _ _;
      range_limit_lem = λ g p rate side. figured g _ _;
      band_limit_lem = λ g p s1 k repo c side. figured g _ _;
    }
