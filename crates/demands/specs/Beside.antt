-- "Any input gets an answer. Every call refuses by a number from document 01's list, exactly when the list says so": of
-- the calls that look into no table, with the numbers that document 02 added. proofs/Beside.antt proves it for every
-- input.
use Rattle.std.specs.Prelude.{◌≡◌, Bool, true, false, List, [], ◌∷◌, map, ℕ, suc, ◌≤◌, ◌<◌, ℤ, pos, neg_ℤ, length, drop}
use Rattle.paper.specs.declared.GivenStatics.{GivenStatics}
use Rattle.paper.specs.declared.Interest.{Interest}
use Rattle.paper.specs.declared.Verdict.{Verdict}
use Rattle.paper.specs.declared.Verdict.TheVariants.{Done, OutOfRange, AdmissionOutOfRange}
use Rattle.paper.specs.Ranges.{statics_of, valid_given, side_of}
use Rattle.paper.specs.Verdicts.{number_of, is_done, Check, FirstAt, NoneApplies, Exactly}
use Rattle.paper_desk.specs.Limits.{range_limit, band_limit}
use Rattle.paper_desk.specs.Gateway.{level_in_range, level_figure, level_call, range_in_range, range_call, band_in_range}
use Rattle.paper_desk.specs.Gateway.{band_call}
use Rattle.paper_interest.specs.Interest.{interest_checks, refused_interest, interest_answer}
use Rattle.paper_bonds.specs.declared.Bond.{Bond}
use Rattle.paper_bonds.specs.Bonds.{bond_checks, refused_bond, bond_answer}
use Rattle.paper_messages.specs.declared.Message.{Message}
use Rattle.paper_messages.specs.Messages.{write_checks, wrote_of, written, read_checks, heard_at}
use Rattle.text_bytes.specs.Bytes.{is_line_feed, pieces}
use Rattle.exchange_protocol.specs.declared.Reading.{Reading}
use Rattle.exchange_protocol.specs.Exchange.{text_most, Bad, refused, Says}
use Rattle.paper_messages.specs.Messages.{verdict_of}
use Rattle.std.specs.Prelude.{Err}
use Rattle.std.specs.Result.{result_unwrap_or}

-- ---- calls that are judged by a list of checks

-- the verdict of a call is that of the first check that applies, and 0 where none does; the checks have these numbers
pub record Judged (verdict : Verdict) (checks : List Check) (numbers : List ℕ) : Type 0 where
  pub order : map (λ (x : Check). number_of x.verdict) checks ≡ numbers
  pub refused : (v : Verdict) → is_done v ≡ false → Exactly (verdict ≡ v) (FirstAt v checks)
  pub accepted : Exactly (verdict ≡ Done) (NoneApplies checks)

-- ---- the exchange's text (W-203)

-- "15, bad line, with its line number counted from 1; the first bad line wins": n is it
pub record FirstBad (id : ℕ) (t : List ℕ) (n : ℕ) : Type 0 where
  pub fits : length t ≤ text_most
  pub bad : Bad id (pieces is_line_feed t) n
  pub none_before : (m : ℕ) → m < n → Bad id (pieces is_line_feed t) m → ⊥

-- of what a text says of a security; `refused n` is 15 with the line n and zeros
pub record ReadExactly (id : ℕ) (t : List ℕ) (r : Reading) : Type 0 where
  -- "a buffer over the length is bad at line 0"
  pub too_long : Exactly (r ≡ refused 0) (text_most < length t)
  pub bad_line_lem : (k : ℕ) → Exactly (r ≡ refused (suc k)) (FirstBad id t (suc k))
  pub accepted : Exactly (r.verdict ≡ Done)
      ((length t ≤ text_most) × ((n : ℕ) → Bad id (pieces is_line_feed t) n → ⊥))

-- ---- the gateway

-- "one figure, or minus the refusal number": "gateway 4 (a static out of range), 6 (another value out of range or off
-- the grid)"
pub record Figured (answer : ℤ) (g : GivenStatics) (in_range : Bool) (figure : ℕ) : Type 0 where
  pub four : Exactly (answer ≡ neg_ℤ (pos (number_of AdmissionOutOfRange))) (valid_given g ≡ false)
  pub six : Exactly (answer ≡ neg_ℤ (pos (number_of OutOfRange))) ((valid_given g ≡ true) × (in_range ≡ false))
  pub accepted : valid_given g ≡ true → in_range ≡ true → answer ≡ pos figure

-- ---- the demand

pub record Demand1Beside : Type 0 where
  -- W-201: "14, .., after 6"; "A refusal returns its number with all figures 0"
  pub interest : (i : Interest) (numbers : List ℤ)
      → Judged (interest_answer i numbers).pair.verdict (interest_checks i numbers) (6 ∷ 14 ∷ [])
  pub interest_zero : (i : Interest) (numbers : List ℤ) → is_done (interest_answer i numbers).pair.verdict ≡ false
      → interest_answer i numbers ≡ refused_interest (interest_answer i numbers).pair.verdict
  -- W-206: "17, face value 0, after 6"; "crossed by the same test and answers 9"
  pub bond : (b : Bond) (flows : List ℤ)
      → Judged (bond_answer b flows).verdict (bond_checks b flows) (6 ∷ 17 ∷ 7 ∷ 9 ∷ [])
  pub bond_zero : (b : Bond) (flows : List ℤ) → is_done (bond_answer b flows).verdict ≡ false
      → bond_answer b flows ≡ refused_bond (bond_answer b flows).verdict
  -- W-203, of whatever the text says; that it says one thing only is `says_unique`
  pub exchange : (id : ℕ) (t : List ℕ) (r : Reading) → Says id t r → ReadExactly id t r
  -- W-212: "A length outside 2 to 4,096 is 22 at once, otherwise 21 comes first, then 22, then 23", where a buffer that
  -- has no length at all is cut short; a refusal has zeros
  pub heard : (buffer : List ℕ) (place : ℕ)
      → Judged (verdict_of (heard_at buffer place)) (read_checks (drop place buffer)) (21 ∷ 22 ∷ 21 ∷ 22 ∷ 23 ∷ [])
  pub heard_zero : (buffer : List ℕ) (place : ℕ) → is_done (verdict_of (heard_at buffer place)) ≡ false
      → heard_at buffer place ≡ Err (verdict_of (heard_at buffer place))
  -- "The writer gives 23, then 24, no room, .. the buffer, which is left untouched"
  pub wrote : (buffer : List ℕ) (m : Message)
      → Judged (verdict_of (wrote_of buffer m)) (write_checks buffer m) (23 ∷ 24 ∷ [])
  pub wrote_nothing : (buffer : List ℕ) (m : Message) → is_done (verdict_of (wrote_of buffer m)) ≡ false
      → (written buffer m ≡ buffer) × (result_unwrap_or (wrote_of buffer m) 0 ≡ 0)
  -- the three calls of the gateway
  pub level_rate_lem : (g : GivenStatics) (tentative m level : ℕ)
      → Figured (level_call g tentative m level) g (level_in_range (statics_of g) tentative m level)
      (level_figure (statics_of g) tentative m level)
  pub range_limit_lem : (g : GivenStatics) (p rate side : ℕ)
      → Figured (range_call g p rate side) g (range_in_range (statics_of g) p rate side)
      (range_limit (statics_of g) p rate (side_of side))
  pub band_limit_lem : (g : GivenStatics) (p s1 k : ℕ) (repo : ℤ) (c side : ℕ)
      → Figured (band_call g p s1 k repo c side) g (band_in_range (statics_of g) p s1 k repo c side)
      (band_limit (statics_of g) p s1 k repo c (side_of side))
