-- docs/EVENING.md, "Why" (document 02, W-207): answers to evaluations, byte for byte: of one that is
-- accepted, of a share that is not modelled, and of refusals; and answers to admissions.
use Rattle.std.specs.Prelude.{◌≡◌, refl, List, [], ◌∷◌, ◌++◌, ℕ}
use Rattle.paper.specs.Verdicts.{is_done}
use Rattle.paper.specs.declared.Verdict.TheVariants as verdict
use Rattle.paper_reasons.specs.declared.PriceReason.TheVariants as price
use Rattle.paper_reasons.specs.declared.WeightReason.TheVariants as weight
use Rattle.paper_reasons.specs.declared.ReplacementReason.TheVariants as replacement
use Rattle.paper_reasons.specs.declared.TentativeReason.TheVariants as tentative
use Rattle.paper_reasons.specs.declared.LevelReason.TheVariants as level
use Rattle.std.specs.declared.option.Option.{Option}
use Rattle.std.specs.declared.option.Option.TheVariants.{None, Some}
use Rattle.paper_reasons.specs.declared.Fault.{Fault}
use Rattle.paper_reasons.specs.declared.Fault.TheVariants as fault
use Rattle.paper_reasons.specs.declared.Reasons.{Reasons}
use Rattle.paper.specs.declared.Verdict.{Verdict}
use Rattle.paper_reasons.specs.Words.{price_word, weight_word, replacement_word, tentative_word, level_word}
use Rattle.text_bytes.specs.Numbers.{spelt, decimal}
use Rattle.text_bytes.specs.Bytes.{bytes}
use Rattle.text_protocol.specs.Reasons.{figure_words, reason_words, fault_words, field_words, spelled, words_text}
use Rattle.text_protocol.specs.Reasons.{why_text, field_text}

-- document 02's example, a share that is not modelled, and no reason at all
abbrev rising : Reasons
rising =
    record {
      price = price.Close;
      weight = weight.Up;
      replacement = replacement.No;
      tentative = tentative.Rose;
      level1 = level.Requirement;
      level2 = level.Requirement;
      level3 = level.Minimum;
      figures = Some (record { r = 20001; before = 19998; x = 19999; y = 6667; s = 20002; t = 700 });
    }

abbrev unmodelled : Reasons
unmodelled =
    record {
      price = price.Yesterday;
      weight = weight.None;
      replacement = replacement.None;
      tentative = tentative.None;
      level1 = level.Minimum;
      level2 = level.Minimum;
      level3 = level.Minimum;
      figures = None;
    }

abbrev none : Reasons
none =
    record {
      price = price.None;
      weight = weight.None;
      replacement = replacement.None;
      tentative = tentative.None;
      level1 = level.None;
      level2 = level.None;
      level3 = level.None;
      figures = None;
    }

-- the bytes that say why
said : Verdict → Option Fault → Reasons → List ℕ
said v f r = why_text (record { verdict = v; fault = f; reasons = r })

pub answers_why : List (List ℕ)
unfolding said why_text words_text spelled figure_words reason_words fault_words price_word weight_word replacement_word
    tentative_word level_word decimal spelt is_done
answers_why =
    said verdict.Done None rising
    ∷ said verdict.Done None unmodelled
    ∷ said verdict.OutOfRange (Some (fault.Row 3)) none
    ∷ said verdict.RowCrossed (Some (fault.Row 16)) none
    ∷ said verdict.BandCrossed (Some (fault.Term 1)) none
    ∷ said verdict.DayNotAfter None none
    ∷ []

pub answers_why_are : answers_why
    ≡ (bytes "0 price close weight up replacement no tentative rose"
    ++ bytes " level1 requirement level2 requirement level3 minimum figures 20001 19998 19999 6667 20002 700\n")
    ∷ (bytes "0 price yesterday weight none replacement none tentative none"
    ++ bytes " level1 minimum level2 minimum level3 minimum\n")
    ∷ bytes "6 row 3\n"
    ∷ bytes "16 row 16\n"
    ∷ bytes "9 term 1\n"
    ∷ bytes "5 none\n"
    ∷ []
unfolding answers_why bytes
answers_why_are = refl

-- an admission that is accepted, one whose number 32 is at fault, and one that is admitted already
pub answers_to_admissions : List (List ℕ)
unfolding field_text field_words words_text spelled decimal spelt
answers_to_admissions =
    field_text verdict.Done None
    ∷ field_text verdict.AdmissionOutOfRange (Some 32)
    ∷ field_text verdict.AlreadyAdmitted None
    ∷ []

pub answers_to_admissions_are : answers_to_admissions ≡ bytes "0\n" ∷ bytes "4 field 32\n" ∷ bytes "2\n" ∷ []
unfolding answers_to_admissions bytes
answers_to_admissions_are = refl
