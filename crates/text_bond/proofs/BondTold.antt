-- What the calls of `say_worked` append one after the other is the text of a bond's answer, on plain values.
use mathlib.Core.Path.{◌≡◌}
use mathlib.Core.List.{List, [], ◌∷◌, ◌++◌, append_assoc}
use Prim.Native.Nat.{ℕ}
use Rattle.paper_bonds.specs.declared.BondAnswer.{BondAnswer}
use Rattle.text_bytes.specs.Bytes.{line_feed}
use Rattle.text_bytes.specs.Numbers.{decimal, spaced, answer_text}
use Rattle.text_protocol.specs.Answers.{rates_numbers, bond_figures_numbers, bond_limits_at, bond_numbers}
use Rattle.text_out.specs.Appends.{spaced_both}

pub bond_told : (x : BondAnswer) (o a b c d e f g : List ℕ)
    → a ≡ o ++ decimal 0 → b ≡ a ++ spaced (bond_figures_numbers x.gross x.tentative)
    → c ≡ b ++ spaced (rates_numbers x.rates) → d ≡ c ++ spaced (bond_limits_at x.limits 0)
    → e ≡ d ++ spaced (bond_limits_at x.limits 1) → f ≡ e ++ spaced (bond_limits_at x.limits 2)
    → g ≡ f ++ (line_feed ∷ [])
    → g ≡ o ++ answer_text 0 (bond_numbers x)
unfolding answer_text bond_numbers
bond_told x o a b c d e f g p q t u v w y = simp (y, w, v, u, t, q, p, spaced_both, append_assoc)
