-- `rate_near` meets its contract: a guess that both tests pass is the rate, and every other rate is searched for.
use mathlib.Core.Path.{◌≡◌, ap, sym, ◌∙◌}
use mathlib.Core.Bool.{Bool, true, not, ◌||◌}
use Prim.Native.Nat.{ℕ, ◌*◌, ◌≤◌}
use native.Mathlib.Nat.{mul-le-mul, le_trans, le_of_lt}
use native.Mathlib.Omega.{arith}
use lib.Dec.{leb}
use Rattle.paper.specs.Numbers.{rate_most}
use Rattle.paper.proofs.Logic.{and_left, and_right}
use Rattle.rates_level.specs.Level.{reach_most, covers_by, least_rate, Tried, enough, no_less}
use Rattle.rates_level.proofs.Reach.{least_rate_within_most, held_is_tried, tried_is_least_rate}
use Rattle.rates_level.proofs.rate_near.Goals.{After-max-v, After-least_reach, After-saturating_sub, Else-enough-least, Start, Then-enough-least}
use Rattle.rates_level.proofs.rate_near.Goals as goal

-- ---- the guess

-- the start, from where the guess is held
abbrev start : After-max-v → Start
start c = c.before.before.before.before.before.before.before

is_tried : (c : After-max-v)
    → let a = c.before.before.before.before.before.before.before.args in
    Tried a.h a.smax a.own c.max-v.result
is_tried c =
    let s = start c in
    rw (c.max-v.ensures, c.before.min.ensures)
    (held_is_tried s.args.h s.args.rh1 s.args.smax s.args.own s.args.squares _ s.requires.sought)

-- no more than the guess is tried
reach_high : (c : After-max-v) (x : ℕ) → x ≤ c.max-v.result
    → x * (start c).args.rh1 ≤ reach_most
reach_high c x l =
    let g = (start c).requires.sought in
    let high : x ≤ rate_most = omega (arith, (is_tried c).high, g.most_high) in
    mul-le-mul high g.first_high

-- the guess that was held, from where a step is taken off
abbrev held_before : After-saturating_sub → After-max-v
held_before c = c.before.before

reach_high_below : (c : After-saturating_sub)
    → c.saturating_sub.result * (start (held_before c)).args.rh1 ≤ reach_most
reach_high_below c = reach_high (held_before c) c.saturating_sub.result (omega (arith, c.saturating_sub.ensures))

-- where both tests pass, they say so of the guess
both_pass : (c : Then-enough-least)
    → let less = c.before.before in
    let held = held_before less in
    let a = (start held).args in
    let v = held.max-v.result in
    (enough a.rh1 a.smax a.own a.squares v ≡ true) × (no_less a.h a.rh1 a.own a.squares v ≡ true)
both_pass c =
    let below = c.before in
    let less = below.before in
    let reached = less.before in
    let held = held_before less in
    let a = (start held).args in
    let v = held.max-v.result in
    let is_enough : Bool → Bool = λ t. leb a.smax v || t in
    let is_least : Bool → Bool = λ t. leb v a.own.minimum.bp || not t in
    let tests = c.if-enough-least.true in (
      ap is_enough (sym reached.reaches.ensures)
          ∙ and_left (is_enough reached.reaches.result) (is_least below.reaches-2.result) tests,
      ap (λ (x : ℕ). is_least (covers_by a.rh1 a.own a.squares x)) (sym less.saturating_sub.ensures)
          ∙ ap is_least (sym below.reaches-2.ensures)
          ∙ and_right (is_enough reached.reaches.result) (is_least below.reaches-2.result) tests,
    )

-- ---- the plain search

-- the start, from where the search is asked for
abbrev search_start : Else-enough-least → Start
search_start c = start (held_before c.before.before)

-- the steps that were found, times h, are the rate, which is at most S_max
is_rate_lem : (c : After-least_reach)
    → let a = (search_start c.before).args in
    c.least_reach.result * a.h ≡ least_rate a.h a.rh1 a.smax a.own a.squares
is_rate_lem c = rw c.least_reach.ensures

rate_high : (c : After-least_reach) → c.least_reach.result * (search_start c.before).args.h ≤ rate_most
rate_high c =
    let s = search_start c.before in
    let g = s.requires.sought in
    rw (is_rate_lem c)
    (le_trans (least_rate_within_most s.args.h s.args.rh1 s.args.smax s.args.own s.args.squares
    g.most_multiple) g.most_high)

pub overflow_mul-v : goal.overflow_mul-v
overflow_mul-v c = omega (arith, reach_high (goal.at.overflow_mul-v c).After-max-v c.max-v.result (omega arith))

pub reaches-requires : goal.reaches-requires
reaches-requires c =
    let g = (start (goal.at.reaches-requires c).After-max-v).requires.sought in
    (reach_high (goal.at.reaches-requires c).After-max-v c.max-v.result (omega arith), g.tentative_high, g.liquidity_high)

pub overflow_mul-saturating_sub : goal.overflow_mul-saturating_sub
overflow_mul-saturating_sub c = omega (arith, reach_high_below (goal.at.overflow_mul-saturating_sub c).After-saturating_sub)

pub reaches-requires-2 : goal.reaches-requires-2
reaches-requires-2 c =
    let g = (start (held_before (goal.at.reaches-requires-2 c).After-saturating_sub)).requires.sought in
    (reach_high_below (goal.at.reaches-requires-2 c).After-saturating_sub, g.tentative_high, g.liquidity_high)

pub overflow_mul-h : goal.overflow_mul-h
overflow_mul-h c =
    let g = (search_start (goal.at.overflow_mul-h c).Else-enough-least).requires.sought in
    omega (arith, mul-le-mul g.step_high g.first_high)

pub overflow_mul-result : goal.overflow_mul-result
overflow_mul-result c = omega (arith, rate_high (goal.at.overflow_mul-result c).After-least_reach)

pub returns : goal.returns
returns c = (is_rate_lem (goal.at.returns c).After-least_reach, rate_high (goal.at.returns c).After-least_reach)

pub overflow_mul-steps : goal.overflow_mul-steps
overflow_mul-steps c = omega (arith, mul-le-mul (le_of_lt c.guessed_steps-steps.ensures) c.requires.sought.step_high)

pub returns-then-enough-least : goal.returns-then-enough-least
returns-then-enough-least c =
    let held = held_before (goal.at.returns-then-enough-least c).After-saturating_sub in
    let s = start held in
    let g = s.requires.sought in
    let tried = is_tried held in
    let passed = both_pass (goal.at.returns-then-enough-least c).Then-enough-least in (
      tried_is_least_rate s.args.h s.args.rh1 s.args.smax s.args.own s.args.squares
          held.max-v.result g tried passed.0 passed.1,
      le_trans tried.high g.most_high,
    )
