-- Demand 3 on the interest side (document 02, W-201): it "reads for the interest volatility too, in bp, each evening
-- given the last one's figures; the exact one is worked out from the first volatility given and the whole rates that
-- each change is taken from".
use Rattle.std.specs.Prelude.{◌≡◌, List, [], ◌∷◌, ℕ, ◌*◌, ◌<◌, ℤ, pos, get_or}
use Rattle.paper.specs.declared.Tentative.{Tentative}
use Rattle.paper.specs.declared.Maturity.{Maturity}
use Rattle.paper.specs.declared.MaturityFigures.{MaturityFigures}
use Rattle.paper.specs.declared.Interest.{Interest}
use Rattle.paper.specs.declared.Verdict.TheVariants.{Done}
use Rattle.paper.specs.Roundings.{Quotient}
use Rattle.paper_interest.specs.Interest.{LentKey, keys_of, maturity_of, change_of, no_figures, interest_answer}
use Rattle.paper_desk.specs.Exact.{Choice, next_square, choice_of}

-- ---- evenings

-- an evening: a call of the interest side, and the place of the key maturity that we follow among those of the call
pub record Evening : Type 0 where
  pub given : Interest
  pub numbers : List ℤ
  pub place : ℕ

abbrev pub no_key : LentKey
no_key =
    record {
      t = pos 0;
      r = pos 0;
      r1 = pos 0;
      r2 = pos 0;
      index = pos 0;
      volatility = pos 0;
      tentative = pos 0;
      age = pos 0;
    }

-- what the call lends of that key maturity
unfoldable pub key_in : Evening → LentKey
key_in e = get_or (keys_of e.numbers) e.place no_key

-- the figures that go from one evening to the next
pub record Carried : Type 0 where
  pub volatility : ℕ
  pub tentative : Tentative

abbrev pub carried_from : MaturityFigures → Carried
carried_from f = record { volatility = f.volatility; tentative = f.tentative }

-- those that the call answers for that key maturity
unfoldable pub answered_in : Evening → Carried
answered_in e = carried_from (get_or (interest_answer e.given e.numbers).figures e.place no_figures)

-- what is carried after some evenings, the latest first in the list: what the last one answers; at first, what is given
unfoldable pub carried_after : Carried → List Evening → Carried
carried_after first [] = first
carried_after first (e ∷ es) = answered_in e

-- "each evening given the last one's figures": a key maturity as the call lends it, with them in their places
unfoldable pub key_given : Carried → LentKey → LentKey
key_given last k =
    record {
      t = k.t;
      r = k.r;
      r1 = k.r1;
      r2 = k.r2;
      index = k.index;
      volatility = pos last.volatility;
      tentative = pos last.tentative.bp;
      age = pos last.tentative.age;
    }

-- Evenings that follow each other, the latest first: each call was accepted, has the key maturity that we follow, and
-- was given the last one's figures
pub data Follow (first : Carried) : List Evening → Type 0 where
  start : Follow first []
  next : {e : Evening} {es : List Evening} → Follow first es
      → (interest_answer e.given e.numbers).pair.verdict ≡ Done
      → e.place < (interest_answer e.given e.numbers).count → key_in e ≡ key_given (carried_after first es) (key_in e)
      → Follow first (e ∷ es)

-- ---- the exact square

-- the choice that the volatility's rule makes: the old tentative rate stands where shares have the last rate
unfoldable pub repo_choice : Interest → Maturity → Choice
repo_choice i k = choice_of i.model i.b (change_of k) k.tentative.bp k.volatility

-- the change as a quotient: whole rates are exact
unfoldable pub exact_change : Maturity → Quotient
exact_change k = record { num = change_of k; den = 1 }

-- the exact square in square bp, "from the first volatility given", by the exact changes and the choices of the carried
-- figure
unfoldable pub exact_repo_square : Carried → List Evening → Quotient
exact_repo_square first [] = record { num = first.volatility * first.volatility; den = 1 }
exact_repo_square first (e ∷ es) =
    let k : Maturity = maturity_of (key_in e) in
    next_square e.given.model.q (exact_repo_square first es) (exact_change k) (repo_choice e.given k)
