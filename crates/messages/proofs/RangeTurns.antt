-- The walk over the fields of a message, on plain values: what is left decides for all.
use mathlib.Core.Path.{◌≡◌, refl, sym, ◌∙◌}
use mathlib.Core.Bool.{Bool, true, false, not, ◌&&◌}
use mathlib.Core.List.{List}
use Prim.Native.Nat.{ℕ, suc, ◌+◌, ◌≤◌, ◌<◌}
use native.Mathlib.Omega.{arith}
use lib.IntN.{ℤ, pos}
use lib.ListN.{length, drop, get_or, drop_of_length-le}
use lib.Seq.{drop-cons}
use borrow.Author.Tests.{not-true, not-false}
use Rattle.paper.specs.Ranges.{within_z}
use Rattle.paper_messages.specs.declared.Field.{Field}
use Rattle.paper_messages.specs.Fields.{no_field}
use Rattle.paper_messages.specs.Messages.{in_ranges}

-- the field and the value of a place, and what is behind it
abbrev in_range_at : List Field → List ℤ → ℕ → Bool
in_range_at fields values i = within_z (get_or fields i no_field).low (get_or fields i no_field).high (get_or values i (pos 0))

pub record Judging (fields : List Field) (values : List ℤ) (i : ℕ) : Type 0 where
  pub as_many : length fields ≡ length values
  pub inside : i ≤ length fields
  pub decides : in_ranges (drop i fields) (drop i values) ≡ in_ranges fields values

pub judging_none : (fields : List Field) (values : List ℤ) → length fields ≡ length values → Judging fields values 0
judging_none fields values e = record { as_many = e; inside = omega arith; decides = refl }

module _ (fields : List Field) (values : List ℤ) (i : ℕ) (j : Judging fields values i) where
  module _ (h : i < length fields) where
    here : in_ranges (drop i fields) (drop i values)
        ≡ (in_range_at fields values i && in_ranges (drop (suc i) fields) (drop (suc i) values))
    unfolding in_ranges
    here =
        let k : i < length values = omega (arith, j.as_many) in
        rw (drop-cons fields i no_field h, drop-cons values i (pos 0) k)

    module _ (says : Bool) (is : says ≡ in_range_at fields values i) where
      pub judging_out : not says ≡ true → false ≡ in_ranges fields values
      judging_out n = sym (rw (sym is ∙ not-true says n) at here) ∙ j.decides

      pub judging_more : not says ≡ false → Judging fields values (i + 1)
      judging_more n =
          let e : i + 1 ≡ suc i = omega arith in
          record {
            as_many = j.as_many;
            inside = omega arith;
            decides = rw e (sym (rw (sym is ∙ not-false says n) at here) ∙ j.decides);
          }

  pub judging_all : length fields ≤ i → true ≡ in_ranges fields values
  unfolding in_ranges
  judging_all h = rw (drop_of_length-le fields h) at j.decides
