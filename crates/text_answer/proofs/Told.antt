-- What several calls append one after the other, on plain values: the numbers of a record, of an interest line's answer,
-- and the words of an accepted evaluation.
use mathlib.Core.Path.{◌≡◌}
use mathlib.Core.List.{List, [], ◌∷◌, ◌++◌, append-nil, append_assoc}
use Prim.Native.Nat.{ℕ}
use Rattle.paper.specs.declared.Record.{Record}
use Rattle.paper.specs.declared.InterestAnswer.{InterestAnswer}
use Rattle.paper_reasons.specs.declared.Reasons.{Reasons}
use Rattle.paper_reasons.specs.Words.{price_word, weight_word, replacement_word, tentative_word, level_word}
use Rattle.text_bytes.specs.Bytes.{line_feed}
use Rattle.text_bytes.specs.Numbers.{decimal, spaced, answer_text}
use Rattle.text_protocol.specs.Answers.{figure_numbers, rates_numbers, ranges_numbers, term_numbers_at, last_numbers}
use Rattle.text_protocol.specs.Answers.{session_numbers, external_numbers, record_numbers}
use Rattle.text_protocol.specs.Answers.{maturities_numbers, interest_numbers}
use Rattle.text_protocol.specs.Reasons.{price_name, weight_name, replacement_name, tentative_name, level_name}
use Rattle.text_protocol.specs.Reasons.{figure_words, reason_words, spelled}
use Rattle.text_out.specs.Appends.{spaced_both}
use Rattle.text_answer.proofs.ReasonWords.{spelled_both}

pub record_told : (r : Record) (o a b c d e f g : List ℕ)
    → a ≡ o ++ spaced (figure_numbers r ++ rates_numbers r.rates ++ ranges_numbers r.ranges)
    → b ≡ a ++ spaced (term_numbers_at r 0) → c ≡ b ++ spaced (term_numbers_at r 1)
    → d ≡ c ++ spaced (term_numbers_at r 2) → e ≡ d ++ spaced (last_numbers r)
    → f ≡ e ++ spaced (session_numbers r.session) → g ≡ f ++ spaced (external_numbers r.external)
    → g ≡ o ++ spaced (record_numbers r)
unfolding record_numbers
record_told r o a b c d e f g p q t u v w x = simp (x, w, v, u, t, q, p, spaced_both, append_assoc)

pub interest_told : (x : InterestAnswer) (o a b c d e : List ℕ)
    → a ≡ o ++ decimal 0 → b ≡ a ++ spaced (x.pair.lower ∷ []) → c ≡ b ++ spaced (x.pair.upper ∷ [])
    → d ≡ c ++ spaced (maturities_numbers x.count x.figures) → e ≡ d ++ (line_feed ∷ [])
    → e ≡ o ++ answer_text 0 (interest_numbers x)
unfolding answer_text interest_numbers spaced
interest_told x o a b c d e p q t u v = simp (v, u, t, q, p, append_assoc, append-nil)

pub reasons_told : (r : Reasons) (o a b c d e f g h : List ℕ)
    → a ≡ o ++ spelled (price_name ∷ price_word r.price ∷ [])
    → b ≡ a ++ spelled (weight_name ∷ weight_word r.weight ∷ [])
    → c ≡ b ++ spelled (replacement_name ∷ replacement_word r.replacement ∷ [])
    → d ≡ c ++ spelled (tentative_name ∷ tentative_word r.tentative ∷ [])
    → e ≡ d ++ spelled (level_name 49 ∷ level_word r.level1 ∷ [])
    → f ≡ e ++ spelled (level_name 50 ∷ level_word r.level2 ∷ [])
    → g ≡ f ++ spelled (level_name 51 ∷ level_word r.level3 ∷ [])
    → h ≡ g ++ spelled (figure_words r.figures)
    → h ≡ o ++ spelled (reason_words r)
unfolding reason_words
reasons_told r o a b c d e f g h p q t u v w x y = simp (y, x, w, v, u, t, q, p, append_assoc, ← spelled_both)
