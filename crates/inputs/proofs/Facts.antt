-- What the range tests say in plain numbers: of each test of the paper that passed, a record of the facts that a rule
-- may use; those of the statics are `paper`'s (StaticsFacts).
use mathlib.Core.Path.{◌≡◌}
use mathlib.Core.Bool.{true, ◌&&◌}
use mathlib.Core.List.{List}
use Prim.Native.Nat.{ℕ, ◌%◌, ◌≤◌, ◌<◌}
use native.Mathlib.Omega.{arith}
use lib.Dec.{leb, eqb}
use lib.IntN.{ℤ, pos, negsuc, nat_abs}
use lib.Signed.{le_z, mag}
use borrow.Author.Tests.{leb-true, eqb-true}
use Rattle.paper.specs.declared.Statics.{Statics}
use Rattle.paper.specs.declared.Term.{Term}
use Rattle.paper.specs.declared.Admission.{Admission}
use Rattle.paper.specs.declared.Day.{Day}
use Rattle.paper.specs.declared.Quote.{Quote}
use Rattle.paper.specs.Lists.{all_three}
use Rattle.paper.specs.Numbers.{price_least, price_most, rate_most, volatility_most, id_most, day_most, second_last}
use Rattle.paper.specs.Numbers.{behind_most, ahead_most, term_days_most, repo_least, repo_most, term_last, quote_most}
use Rattle.paper.specs.Ranges.{is_price, is_rate, grid_of, is_grid_price, valid_statics, statics_of, tentative_top}
use Rattle.paper.specs.Ranges.{valid_tentative, valid_admission, valid_term, term_at, valid_quote, valid_side}
use Rattle.paper.specs.Ranges.{valid_day_numbers}
use Rattle.paper.proofs.Logic.{and_left, and_right, each_of_three, order_trans}
pub use Rattle.paper.proofs.StaticsFacts.{Within, within_facts, StaticsFacts, statics_facts, given_statics_valid}
pub use Rattle.paper_desk.proofs.TentativeRange.{statics_step_positive}

-- ---- ranges and multiples

-- a multiple of a step, up to a most
pub record MultipleTo (high step x : ℕ) : Type 0 where
  pub most : x ≤ high
  pub multiple : x % step ≡ 0

pub multiple_facts : (high step x : ℕ) → (leb x high && eqb (x % step) 0) ≡ true → MultipleTo high step x
multiple_facts high step x v =
    record {
      most = leb-true _ _ (and_left (leb x high) (eqb (x % step) 0) v);
      multiple = eqb-true _ _ (and_right (leb x high) (eqb (x % step) 0) v);
    }

-- ---- prices and rates

pub price_facts : (p : ℕ) → is_price p ≡ true → Within price_least price_most p
unfolding is_price
price_facts p v = within_facts _ _ p v

pub record GridPrice (g p : ℕ) : Type 0 where
  pub price : Within price_least price_most p
  pub multiple : p % g ≡ 0

pub grid_price_facts : (g p : ℕ) → is_grid_price g p ≡ true → GridPrice g p
unfolding is_grid_price
grid_price_facts g p v =
    record {
      price = price_facts p (and_left _ (eqb (p % g) 0) v);
      multiple = eqb-true _ _ (and_right (is_price p) _ v);
    }

pub rate_within_most : (bp : ℕ) → is_rate bp ≡ true → bp ≤ rate_most
unfolding is_rate
rate_within_most bp v = leb-true _ _ v

-- ---- the tentative rate

pub tentative_facts : (h tentative : ℕ) → valid_tentative h tentative ≡ true → MultipleTo (tentative_top h) h tentative
unfolding valid_tentative
tentative_facts h tentative v = multiple_facts _ _ tentative v

-- ---- an admission

-- of the figures that an admission gives and a record keeps
pub record FiguresFacts (st : Statics) (day p1 p2 s tentative : ℕ) : Type 0 where
  pub day_most_lem : day ≤ day_most
  pub later : GridPrice (grid_of st.lot) p1
  pub earlier : GridPrice (grid_of st.lot) p2
  pub s_most : s ≤ volatility_most
  pub tentative_in : MultipleTo (tentative_top st.h) st.h tentative

pub record AdmissionFacts (a : Admission) : Type 0 where
  pub id : Within 1 id_most a.id
  pub valid : valid_statics (statics_of a.given) ≡ true
  pub statics : StaticsFacts (statics_of a.given)
  pub figures : FiguresFacts (statics_of a.given) a.day a.p1 a.p2 a.s a.tentative

pub admission_facts : (a : Admission) → valid_admission a ≡ true → AdmissionFacts a
unfolding valid_admission statics_of
admission_facts a v =
    let valid = given_statics_valid a.given (search (v, and_left, and_right) depth 40) in
    record {
      id = within_facts _ _ _ (search (v, and_left, and_right) depth 40);
      valid = valid;
      statics = statics_facts _ valid;
      figures =
          record {
            day_most_lem = leb-true _ _ (search (v, and_left, and_right) depth 40);
            later = grid_price_facts _ _ (search (v, and_left, and_right) depth 40);
            earlier = grid_price_facts _ _ (search (v, and_left, and_right) depth 40);
            s_most = leb-true _ _ (search (v, and_left, and_right) depth 40);
            tentative_in = tentative_facts (statics_of a.given).h _ (search (v, and_left, and_right) depth 40);
          };
    }

-- ---- a day

-- how far from 0 a repo rate in range lies: at most 9,999
pub record RepoFacts (x : ℤ) : Type 0 where
  pub size : nat_abs x ≤ nat_abs repo_most
  pub mag_most : mag x ≤ nat_abs repo_most

pub repo_facts : (x : ℤ) → le_z repo_least x ≡ true → le_z x repo_most ≡ true → RepoFacts x
repo_facts (pos n) l h = record { size = leb-true n 9999 h; mag_most = leb-true n 9999 h }
repo_facts (negsuc n) l h =
    record { size = omega (arith, leb-true n 9998 l); mag_most = omega (arith, leb-true n 9998 l) }

pub record TermFacts (x : Term) : Type 0 where
  pub k_most : x.k ≤ term_days_most
  pub low : RepoFacts x.low
  pub high : RepoFacts x.high
  pub ordered : le_z x.low x.high ≡ true

pub term_facts : (x : Term) → valid_term x ≡ true → TermFacts x
unfolding valid_term
term_facts x v =
    let least : le_z repo_least x.low ≡ true = search (v, and_left, and_right) depth 40 in
    let ordered : le_z x.low x.high ≡ true = search (v, and_left, and_right) depth 40 in
    let most : le_z x.high repo_most ≡ true = search (v, and_left, and_right) depth 40 in
    record {
      k_most = leb-true _ _ (search (v, and_left, and_right) depth 40);
      low = repo_facts x.low least (order_trans x.low x.high repo_most ordered most);
      high = repo_facts x.high (order_trans repo_least x.low x.high least ordered) most;
      ordered = ordered;
    }

-- of each of three terms
pub terms_facts : (terms : List Term) → all_three (λ k. valid_term (term_at terms k)) ≡ true → (k : ℕ) → k < 3
    → TermFacts (term_at terms k)
terms_facts terms v k l = term_facts _ (each_of_three (λ k. valid_term (term_at terms k)) v k l)

pub record DayFacts (d : Day) : Type 0 where
  pub day_most_lem : d.day ≤ day_most
  pub b_most : d.b ≤ behind_most
  pub m_most : d.m ≤ ahead_most
  pub terms : (k : ℕ) → k < 3 → TermFacts (term_at d.terms k)

pub day_facts : (d : Day) → valid_day_numbers d ≡ true → DayFacts d
day_facts d v =
    record {
      day_most_lem = leb-true _ _ (search (v, and_left, and_right) depth 40);
      b_most = leb-true _ _ (search (v, and_left, and_right) depth 40);
      m_most = leb-true _ _ (search (v, and_left, and_right) depth 40);
      terms = terms_facts d.terms
          (and_right (leb d.day day_most && leb d.b behind_most && leb d.m ahead_most) _ v);
    }

-- ---- a quote and a move

pub record QuoteFacts (q : Quote) : Type 0 where
  pub second_last_lem : q.second ≤ second_last
  pub term_last_lem : q.term ≤ term_last
  pub bid_most : q.bid ≤ quote_most
  pub ask_most : q.ask ≤ quote_most

pub quote_facts : (q : Quote) → valid_quote q ≡ true → QuoteFacts q
unfolding valid_quote
quote_facts q v =
    record {
      second_last_lem = leb-true _ _ (search (v, and_left, and_right) depth 40);
      term_last_lem = leb-true _ _ (search (v, and_left, and_right) depth 40);
      bid_most = leb-true _ _ (search (v, and_left, and_right) depth 40);
      ask_most = leb-true _ _ (search (v, and_left, and_right) depth 40);
    }

pub side_most : (side : ℕ) → valid_side side ≡ true → side ≤ 1
unfolding valid_side
side_most side v = leb-true _ _ v
