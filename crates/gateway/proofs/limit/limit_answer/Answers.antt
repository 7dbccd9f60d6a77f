-- `limit::limit_answer` meets its contract: 4 where the statics' test fails, else 6 where no price and rate are made or
-- the test of what is left fails, else the limit, which is at most twice the price and so fits.
use mathlib.Core.Path.{◌≡◌, refl, sym, ◌∙◌}
use mathlib.Core.Bool.{Bool, true}
use Prim.Native.Nat.{ℕ}
use native.Mathlib.Omega.{arith}
use borrow.Author.Rules.{rules}
use Rattle.paper.specs.declared.Price.{Price}
use Rattle.paper.specs.declared.Rate.{Rate}
use Rattle.paper.specs.declared.Side.{Side}
use Rattle.paper.specs.declared.Statics.{Statics}
use Rattle.paper.specs.Ranges.{is_rate, valid_statics}
use Rattle.std.specs.declared.option.Option.{Option}
use Rattle.gateway.specs.declared.limit.Grown.{Grown}
use Rattle.gateway.specs.LimitCalls.{limit_in_range, LimitInputs, limit_figure, limit_call, limit_inputs, limit_high}
use Rattle.gateway.proofs.Answers.{made_valid, answers_minus_four, answers_minus_six, answers_figure}
use Rattle.gateway.proofs.InHand.{Held, made_is_held, limit_out}
use Rattle.gateway.proofs.limit.limit_answer.Goals as goal
use Rattle.gateway.proofs.limit.limit_answer.Goals.{After-statics_of-st}

valid : (c : After-statics_of-st) → valid_statics c.statics_of-st.result ≡ true
valid c = made_valid _ c.before.before.valid_given.ensures c.before.if-valid_given.true c.statics_of-st.ensures

-- with a price and a rate in hand
module _ {p rate : ℕ} {x : Price} {y : Rate} (h : Held p rate x y) (st : Statics) (asked : Option Grown) where
  -- what the test of what is left gave
  tested : {t : Bool} (side : ℕ) → ((r : ℕ) → is_rate r ≡ true → t ≡ limit_in_range st asked x.units r side)
      → t ≡ limit_in_range st asked p rate side
  tested side f = rw h.of_price at (f rate h.rated)

  inputs : (side : ℕ) → limit_in_range st asked p rate side ≡ true → LimitInputs asked x y
  inputs side e = rw (h.of_price, h.of_rate) (limit_inputs st asked _ _ side e)

  -- what the limit is
  limited : {n : ℕ} (side : Side) → n ≡ limit_figure st asked side x.units y.bp → n ≡ limit_figure st asked side p rate
  limited side e = rw (h.of_price, h.of_rate) at e

pub returns-in_default : goal.returns-in_default
unfolding limit_call
returns-in_default c =
    let none = sym c.price_and_rate.ensures ∙ c.in_default.is in
    let out = limit_out _ _ none c.statics_of-st.result _ _ in
    let given = c.valid_given.ensures in
    rw (← c.statics_of-st.ensures)
    (answers_minus_six _ _ _ (search rules) given c.refusal.ensures c.if-valid_given.true refl out)

pub limit_in_range-requires : goal.limit_in_range-requires
limit_in_range-requires c =
    let h = made_is_held c.args.p c.args.rate _ _ (sym c.price_and_rate.ensures ∙ c.in-Some.is) in
    rw h.of_price h.price

pub limit_of-requires : goal.limit_of-requires
limit_of-requires c =
    let h = made_is_held c.args.p c.args.rate _ _ (sym c.price_and_rate.ensures ∙ c.in-Some.is) in
    let is = tested h c.statics_of-st.result c.args.asked c.args.side c.limit_in_range.ensures in
    record {
      st_value = valid (goal.at.limit_of-requires c).After-statics_of-st;
      limit_inputs = inputs h c.statics_of-st.result c.args.asked c.args.side (sym is ∙ c.if-limit_in_range.true);
    }

pub figure-requires : goal.figure-requires
figure-requires c =
    let h = made_is_held c.args.p c.args.rate _ _ (sym c.price_and_rate.ensures ∙ c.in-Some.is) in
    let st = c.statics_of-st.result in
    let is = tested h st c.args.asked c.args.side c.limit_in_range.ensures in
    omega (
      arith,
      c.limit_of.ensures,
      limit_high st c.args.asked c.from.result c.in-Some.p c.in-Some.rate
          (valid (goal.at.figure-requires c).After-statics_of-st)
          (inputs h st c.args.asked c.args.side (sym is ∙ c.if-limit_in_range.true)),
    )

pub returns-then-limit_in_range : goal.returns-then-limit_in_range
unfolding limit_call
returns-then-limit_in_range c =
    let h = made_is_held c.args.p c.args.rate _ _ (sym c.price_and_rate.ensures ∙ c.in-Some.is) in
    let st = c.statics_of-st.result in
    rw (← c.statics_of-st.ensures, ← c.from.ensures)
    (answers_figure _ _ _ (search rules) c.valid_given.ensures c.figure.ensures
    (limited h st c.args.asked c.from.result c.limit_of.ensures) c.if-valid_given.true
    (tested h st c.args.asked c.args.side c.limit_in_range.ensures) c.if-limit_in_range.true)

pub returns-then-valid_given : goal.returns-then-valid_given
unfolding limit_call
returns-then-valid_given c =
    let h = made_is_held c.args.p c.args.rate _ _ (sym c.price_and_rate.ensures ∙ c.in-Some.is) in
    let st = c.statics_of-st.result in
    rw (← c.statics_of-st.ensures)
    (answers_minus_six _ _ _ (search rules) c.valid_given.ensures c.refusal-then-valid_given.ensures
    c.if-valid_given.true (tested h st c.args.asked c.args.side c.limit_in_range.ensures) c.if-limit_in_range.false)

pub returns : goal.returns
unfolding limit_call
returns c =
    answers_minus_four _ _ _ (search rules) c.valid_given.ensures c.refusal-2.ensures c.if-valid_given.false
