-- A walk over the key maturities, from each to the next: what the figures for a term are read off.
use Rattle.std.proofs.Common.{◌≡◌, refl, ◌∙◌, List, [], ◌∷◌, ℕ, suc, ◌≤◌, ◌<◌, ℤ, arith}
use Rattle.std.proofs.lemmas.Bool.{lt-leb, le-leb}
use Rattle.std.specs.Prelude.{Contains}
use Rattle.paper.specs.declared.Maturity.{Maturity}
use Rattle.paper_interest.specs.Interest.{figure_at, figure_after}
use Rattle.interest_maturities.specs.declared.Nearest.TheVariants.{One, Two}
use Rattle.interest_maturities.specs.Reads.{Reads}

first_of : (k : Maturity) (ks : List Maturity) → Contains (k ∷ ks) k
first_of k ks = (0, omega arith, refl)

behind : (k l : Maturity) (ks : List Maturity) → Contains ks l → Contains (k ∷ ks) l
behind k l ks h = (suc h.0, omega (arith, h.1), h.2)

-- the last key maturity passed is before the term, and so is each before it: every figure is the one after it
pub record Passed (all : List Maturity) (y : ℕ) (last : Maturity) (rest : List Maturity) : Type 0 where
  pub within : (k : Maturity) → Contains (last ∷ rest) k → Contains all k
  pub before : last.t < y
  pub figure : (f : Maturity → ℤ) → figure_at f all y ≡ figure_after f last rest y

module _ (all : List Maturity) (y : ℕ) where
  module _ (first : Maturity) (others : List Maturity) (is : all ≡ first ∷ others) where
    pub passed_first : first.t < y → Passed all y first others
    unfolding figure_at
    passed_first h =
        record {
          within = λ k m. rw is m;
          before = h;
          figure = λ f. rw (is, lt-leb y _ h);
        }

    pub read_first : y ≤ first.t → Reads all y (One first)
    unfolding figure_at
    read_first h =
        record {
          among = rw is (first_of first others);
          around = tt;
          reads = λ f. rw (is, le-leb y _ h);
        }

  module _ (last : Maturity) (rest : List Maturity) (p : Passed all y last rest) where
    module _ (next : Maturity) (others : List Maturity) (is : rest ≡ next ∷ others) where
      next_within : Contains all next
      next_within = p.within next (rw is (behind last next (next ∷ others) (first_of next others)))

      pub passed_next : next.t < y → Passed all y next others
      unfolding figure_after
      passed_next h =
          record {
            within = λ k m. p.within k (rw is (behind last k (next ∷ others) m));
            before = h;
            figure = λ f. p.figure f ∙ rw (is, lt-leb y _ h);
          }

      pub read_between : y ≤ next.t → Reads all y (Two last next)
      unfolding figure_after
      read_between h =
          record {
            among = (p.within last (first_of last rest), next_within);
            around = (p.before, h);
            reads = λ f. p.figure f ∙ rw (is, le-leb y _ h);
          }

    pub read_last : rest ≡ [] → Reads all y (One last)
    unfolding figure_after
    read_last is =
        record {
          among = p.within last (first_of last rest);
          around = tt;
          reads = λ f. p.figure f ∙ rw is;
        }
