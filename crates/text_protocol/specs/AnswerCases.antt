-- docs/EVENING.md, "The answers", byte for byte: of each call, of an interest line and of a bond line one that is
-- accepted and one that is refused. The figures count up and are all different, so that each is seen at its place.
use Rattle.std.specs.Prelude.{◌≡◌, refl, true, false, List, [], ◌∷◌, ◌++◌, map, ℕ, ◌+◌, pos, negsuc, replicate}
use Rattle.paper.specs.declared.Standing.TheVariants.{Admitted, Live}
use Rattle.paper.specs.declared.Session.TheVariants.{Evening}
use Rattle.std.specs.declared.option.Option.TheVariants.{None, Some}
use Rattle.paper.specs.declared.Notice.TheVariants.{Withdrawal}
use Rattle.paper.specs.declared.Record.{Record}
use Rattle.paper.specs.declared.Answer.{Answer}
use Rattle.paper.specs.declared.MaturityFigures.{MaturityFigures}
use Rattle.paper.specs.declared.InterestAnswer.{InterestAnswer}
use Rattle.paper.specs.declared.Verdict.{Verdict}
use Rattle.paper.specs.declared.Verdict.TheVariants.{Done, OutOfRange, NotAscending, NoFaceValue}
use Rattle.paper.specs.Lists.{three}
use Rattle.paper.specs.PinnedValues.{admission_z}
use Rattle.paper.specs.Ranges.{is_live, last_day, no_term}
use Rattle.paper.specs.Verdicts.{is_done}
use Rattle.paper_bonds.specs.declared.BondAnswer.{BondAnswer}
use Rattle.paper_desk.specs.Desk.{no_statics, blank, showing}
use Rattle.paper_desk.specs.Desk.{Call, admit, evaluate, quote, move, read, open_evening, receive}
use Rattle.paper_desk.specs.External.{notice}
use Rattle.text_bytes.specs.Bytes.{bytes}
use Rattle.text_bytes.specs.Numbers.{spelt, decimal, signed, next, spaced, answer_text}
use Rattle.text_protocol.specs.Answers.{answer_most, waiting_most, bad_text, flag}
use Rattle.text_protocol.specs.Answers.{near_number, standing_numbers}
use Rattle.text_protocol.specs.Answers.{figure_numbers, rates_numbers, ranges_numbers, term_numbers, last_numbers}
use Rattle.text_protocol.specs.Answers.{session_numbers, external_numbers, record_numbers, figures_answered, call_text}
use Rattle.text_protocol.specs.Answers.{maturity_numbers, maturities_numbers, interest_numbers, interest_text}
use Rattle.text_protocol.specs.Answers.{bond_limits_numbers, bond_figures_numbers, bond_numbers, bond_text}

-- ---- the calls

-- a live record in the evening, whose third term is not near at the top
unfoldable pub counted : Record
counted =
    record {
      id = 11;
      statics = no_statics;
      standing = Live 12;
      p1 = record { units = 13 };
      p2 = record { units = 14 };
      s = 15;
      tentative = record { bp = 16; age = 17 };
      rates = record { bp = 21 } ∷ record { bp = 22 } ∷ record { bp = 23 } ∷ [];
      ranges =
          record { lower = 41; upper = 31 } ∷ record { lower = 42; upper = 32 } ∷ record { lower = 43; upper = 33 } ∷ [];
      terms =
          record { k = 50; low = negsuc 50; high = pos 52 }
          ∷ record { k = 60; low = negsuc 60; high = pos 62 }
          ∷ record { k = 70; low = negsuc 70; high = pos 72 }
          ∷ [];
      bands =
          record { lower = 53; upper = 54 } ∷ record { lower = 63; upper = 64 } ∷ record { lower = 73; upper = 74 } ∷ [];
      moves = record { upper = 81; lower = 82 };
      near =
          record { top = Some 55; bottom = Some 56 }
          ∷ record { top = Some 65; bottom = Some 66 }
          ∷ record { top = None; bottom = Some 76 }
          ∷ [];
      second = 83;
      session = Evening 84;
      external = record { bid = 91; ask = 92 };
    }

unfoldable pub counted_text : List ℕ
counted_text =
    bytes "0 11 1 12 13 14 15 16 17 21 22 23 31 32 33 41 42 43"
    ++ bytes " 50 -51 52 53 54 55 56 60 -61 62 63 64 65 66 70 -71 72 73 74 -1 76 81 82 83 1 84 91 92\n"

-- a record that is admitted only, in the main session, and nothing is near
unfoldable pub resting : Record
unfolding blank
resting =
    record {
      id = 8;
      statics = blank.statics;
      standing = Admitted 9;
      p1 = blank.p1;
      p2 = blank.p2;
      s = blank.s;
      tentative = blank.tentative;
      rates = blank.rates;
      ranges = blank.ranges;
      terms = blank.terms;
      bands = blank.bands;
      moves = blank.moves;
      near = blank.near;
      second = blank.second;
      session = blank.session;
      external = blank.external;
    }

unfoldable pub calls : List Call
calls =
    admit admission_z
    ∷ evaluate 11 (record { day = 12; b = 0; m = 0; terms = three (λ k. no_term) }) []
    ∷ quote 11 (record { second = 83; term = 0; bid = 1; ask = 2 })
    ∷ move 11 0
    ∷ read 11
    ∷ open_evening 11
    ∷ receive 11 (notice Withdrawal)
    ∷ []

-- an answer with every figure: the record, and an alert at the top alone
unfoldable pub said_with : Verdict → Answer
said_with v = record { verdict = v; rec = counted; top = true; bottom = false }

-- what is answered to each call with a verdict. It opens every definition that an answer is written with, so that a
-- table opens this one alone
unfoldable pub call_texts : Verdict → List (List ℕ)
unfolding calls said_with counted call_text figures_answered record_numbers figure_numbers rates_numbers ranges_numbers
    term_numbers last_numbers session_numbers external_numbers flag near_number standing_numbers answer_text bad_text spaced
    next signed decimal spelt is_done is_live last_day bytes
call_texts v = map (λ (c : Call). call_text c (said_with v)) calls

-- an admission has no figure, a quote its two alerts, the others the record; a refusal's number stands alone, whatever
-- the figures
pub call_texts_lem : (call_texts Done
    ≡ bytes "0\n" ∷ counted_text ∷ bytes "0 1 0\n" ∷ counted_text ∷ counted_text ∷ counted_text ∷ counted_text ∷ [])
    × (call_texts OutOfRange ≡ replicate 7 (bytes "6\n"))
    × (call_text (read 8) (showing resting)
    ≡ bytes "0 8 0 9 0 0 0 0 0 0 0 0 0 0 0 0 0 0 0 0 0 0 0 -1 -1 0 0 0 0 0 -1 -1 0 0 0 0 0 -1 -1 0 0 0 0 0 0 0\n")
unfolding call_texts counted_text resting showing
call_texts_lem = (refl, refl, refl)

-- the parts that are written on their own: the standing, a line that is no call
pub part_texts : (standing_numbers (Live 12) ≡ pos 1 ∷ pos 12 ∷ [])
    × (standing_numbers (Admitted 9) ≡ pos 0 ∷ pos 9 ∷ [])
    × (bad_text 120 ≡ bytes "bad 120\n")
unfolding call_texts
part_texts = (refl, refl, refl)

-- of a buffer of 65,536 bytes an answer takes 1,200 at most
pub waiting_is : (waiting_most ≡ 64336) × (waiting_most + answer_most ≡ 65536)
waiting_is = (refl, refl)

-- ---- an interest line

-- six figures that count up
abbrev maturity_from : (change : ℕ) → (volatility : ℕ) → (bp : ℕ) → (age : ℕ) → (up : ℕ) → (down : ℕ) → MaturityFigures
maturity_from change volatility bp age up down =
    record {
      change = change;
      volatility = volatility;
      tentative = record { bp = bp; age = age };
      up = up;
      down = down;
    }

-- of three key maturities the third is past the count
unfoldable pub interest_with : Verdict → InterestAnswer
interest_with v =
    record {
      pair = record { verdict = v; lower = negsuc 10; upper = pos 12 };
      count = 2;
      figures =
          maturity_from 21 22 23 24 25 26 ∷ maturity_from 31 32 33 34 35 36 ∷ maturity_from 41 42 43 44 45 46 ∷ [];
    }

pub interest_texts : (interest_text (interest_with Done) ≡ bytes "0 -11 12 21 22 23 24 25 26 31 32 33 34 35 36\n")
    × (interest_text (interest_with NotAscending) ≡ bytes "14\n")
unfolding call_texts interest_with interest_text interest_numbers maturities_numbers maturity_numbers
interest_texts = (refl, refl)

-- ---- a bond line

unfoldable pub bond_with : Verdict → BondAnswer
bond_with v =
    record {
      verdict = v;
      gross = 11;
      tentative = record { bp = 12; age = 13 };
      rates = record { bp = 21 } ∷ record { bp = 22 } ∷ record { bp = 23 } ∷ [];
      limits =
          record { band = record { lower = 31; upper = 32 }; off = record { lower = 33; upper = 34 } }
          ∷ record { band = record { lower = 41; upper = 42 }; off = record { lower = 43; upper = 44 } }
          ∷ record { band = record { lower = 51; upper = 52 }; off = record { lower = 53; upper = 54 } }
          ∷ [];
    }

pub bond_texts : (bond_text (bond_with Done) ≡ bytes "0 11 12 13 21 22 23 31 32 33 34 41 42 43 44 51 52 53 54\n")
    × (bond_text (bond_with NoFaceValue) ≡ bytes "17\n")
unfolding call_texts bond_with bond_text bond_numbers bond_figures_numbers bond_limits_numbers
bond_texts = (refl, refl)
