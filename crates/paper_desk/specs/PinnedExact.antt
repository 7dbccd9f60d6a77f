-- Demand 3's exact square in figures: "the exact square kept as N/D in square millionths" of a share (document 01). The
-- carried figures stand beside it, so that a square that followed them, or a move that was rounded, is refused here.
-- It may use every definition of document 01, and the values of PinnedValues.
use Rattle.std.specs.Prelude.{◌≡◌, refl, List, [], ◌∷◌, map, ℕ, ◌+◌, ◌*◌, ◌/◌, ◌%◌, pos}
use Rattle.paper.specs.declared.Admission.{Admission}
use Rattle.paper.specs.Roundings.{Quotient}
use Rattle.paper_desk.specs.Desk.{Ask, evaluating, quoting, moving, reading, opening}
use Rattle.paper_desk.specs.Sequences.{carries, carries_first, carries_next, external_now}
use Rattle.paper_desk.specs.Exact.{exact_move, next_square, choice_of, exact_square}
use Rattle.paper.specs.PinnedValues.{◌but◌, h_at, liq_at, minima_at, p1_at, s_at, tentative_at, admission_from, day_from}
use Rattle.paper.specs.PinnedValues.{quote_from, closed_at, z_numbers}
use Rattle.paper_desk.specs.PinnedSequence.{numbers}

-- a quotient counted in parts of which d make a whole, and what is left over: n and 0 where the quotient is n/d
unfoldable pub parts_of : (d : ℕ) → Quotient → List ℕ
parts_of d x = x.num * d / x.den ∷ x.num * d % x.den ∷ []

-- Z with h 1, the minima 1, 2 and 3, liq 0, both earlier evaluations 3,000,000, s 4 and the tentative rate 1: so
-- 100·S_1 is 100
security : Admission
unfolding z_numbers admission_from
security =
    admission_from
    (z_numbers but (h_at, pos 1) but (liq_at, pos 0) but (minima_at, pos 1) but (minima_at + 1, pos 2)
    but (minima_at + 2, pos 3) but (p1_at, pos 3000000) but (p1_at + 1, pos 3000000) but (s_at, pos 4)
    but (tentative_at, pos 1))

-- the evaluation of a day, after b non-trading days, on which the security closes at a price
closing : (day b price : ℕ) → Ask
unfolding day_from closed_at
closing day b price = evaluating (day_from (pos day ∷ pos b ∷ [])) (closed_at price)

-- one day, then a quote, an opening, a move and a read; a second day; and a third after two non-trading days. The latest is the first
one_day : List Ask
unfolding closing quote_from
one_day = reading ∷ moving 0 ∷ opening ∷ quoting (quote_from []) ∷ closing 4 0 3000010 ∷ []

two_days : List Ask
unfolding one_day
two_days = closing 5 0 3000020 ∷ one_day

three_days : List Ask
unfolding two_days
three_days = closing 6 2 3000020 ∷ two_days

-- a day on which r is 100·S_1; one on which the replacement is taken, and the day after
day_at_line : List Ask
unfolding closing
day_at_line = closing 4 0 3000300 ∷ []

replaced_day : List Ask
unfolding closing
replaced_day = closing 4 0 3000400 ∷ []

day_after : List Ask
unfolding replaced_day
day_after = closing 5 0 3000400 ∷ replaced_day

pub exact_squares : List (List ℕ)
unfolding numbers security one_day two_days three_days day_at_line replaced_day day_after parts_of exact_move next_square
    choice_of exact_square carries carries_first carries_next external_now
exact_squares =
    -- the move as it is, up and down; by P2 and by P1: in thirds of a millionth
    parts_of 3 (exact_move 3000010 3000000 3000000)
    ∷ parts_of 3 (exact_move 2999990 3000000 3000000)
    ∷ parts_of 3 (exact_move 3000020 3000010 3000000)
    ∷ parts_of 3 (exact_move 3000020 3000000 3000010)
    -- "at n 0, s²·D = N"
    ∷ parts_of 1 (exact_square security [])
    -- evaluations, of which the second starts from the exact square; a weight of 0
    ∷ parts_of 45 (exact_square security one_day)
    ∷ parts_of 450 (exact_square security two_days)
    ∷ parts_of 450 (exact_square security three_days)
    -- no replacement yet; the replacement, and an evaluation that starts from it
    ∷ parts_of 5 (exact_square security day_at_line)
    ∷ parts_of 81 (exact_square security replaced_day)
    ∷ parts_of 9 (exact_square security day_after)
    -- the carried s of each
    ∷ map (λ (es : List Ask). (carries security es).s)
    ([] ∷ one_day ∷ two_days ∷ three_days ∷ day_at_line ∷ replaced_day ∷ day_after ∷ [])
    ∷ []

pub exact_squares_are : exact_squares
    -- 10/3 and 20/3
    ≡ (10 ∷ 0 ∷ [])
    ∷ (10 ∷ 0 ∷ [])
    ∷ (20 ∷ 0 ∷ [])
    ∷ (20 ∷ 0 ∷ [])
    -- 4²
    ∷ (16 ∷ 0 ∷ [])
    -- r is 4 and not above s: 0.95·16 + 0.05·(10/3)² = 76/5 + 5/9 = 709/45, and s stays 4
    ∷ (709 ∷ 0 ∷ [])
    -- r is 7, by P2: 0.9·709/45 + 0.1·(20/3)² = 709/50 + 40/9 = 8,381/450, and 0.9·4² + 0.1·7² = 19.3 makes s 5
    ∷ (8381 ∷ 0 ∷ [])
    ∷ (8381 ∷ 0 ∷ [])
    -- r is 100, and so is 100·S_1: 0.9·16 + 0.1·100² = 5,072/5 makes s 32, although y is 34
    ∷ (5072 ∷ 0 ∷ [])
    -- r is 134: y is 45 and x 43; (100·(400/3)/300)² = (400/9)²
    ∷ (160000 ∷ 0 ∷ [])
    -- r is 134 and 100·S_1 is 200: 0.9·160,000/81 + 0.1·(400/3)² = 16,000/9 + 16,000/9
    ∷ (32000 ∷ 0 ∷ [])
    -- 0.9·45² + 0.1·134² = 3,618.1 makes the last one 61
    ∷ (4 ∷ 4 ∷ 5 ∷ 5 ∷ 32 ∷ 45 ∷ 61 ∷ [])
    ∷ []
unfolding exact_squares
exact_squares_are = refl
