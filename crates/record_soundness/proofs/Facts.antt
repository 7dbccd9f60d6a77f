-- What a sound record is in plain numbers: the facts that a rule may use.
use mathlib.Core.Path.{◌≡◌}
use mathlib.Core.Bool.{true}
use mathlib.Core.List.{List}
use Prim.Native.Nat.{ℕ, ◌≤◌, ◌<◌}
use lib.Dec.{leb}
use lib.ListN.{get_or}
use borrow.Author.Tests.{leb-true}
use Rattle.std.specs.declared.option.Option.TheVariants.{Some}
use Rattle.paper.specs.declared.NearSeconds.{NearSeconds}
use Rattle.paper.specs.declared.Rate.{Rate}
use Rattle.paper.specs.declared.External.{External}
use Rattle.paper.specs.declared.Limits.{Limits}
use Rattle.paper.specs.declared.Record.{Record}
use Rattle.paper.specs.Lists.{all_three}
use Rattle.paper.specs.Numbers.{price_most, rate_most, id_most, age_most, limit_most, moves_most, second_last, slots_most}
use Rattle.paper.specs.Ranges.{grid_of, is_rate, valid_statics, last_day, term_at, is_limit, valid_limits, no_limits, valid_near}
use Rattle.paper.specs.Ranges.{valid_near_seconds, not_near, valid_session, valid_external, sound, valid_slots, rate_at}
use Rattle.paper.proofs.Logic.{and_left, and_right, each_of_three}
use Rattle.inputs.proofs.Facts.{Within, within_facts, MultipleTo, multiple_facts, grid_price_facts, rate_within_most}
use Rattle.inputs.proofs.Facts.{StaticsFacts, statics_facts, tentative_facts, FiguresFacts, TermFacts, terms_facts}

-- ---- limits

pub limit_facts : (g x : ℕ) → is_limit g x ≡ true → MultipleTo limit_most g x
unfolding is_limit
limit_facts g x v = multiple_facts _ _ x v

pub record LimitsFacts (g : ℕ) (x : Limits) : Type 0 where
  pub lower : MultipleTo limit_most g x.lower
  pub upper : MultipleTo limit_most g x.upper

pub limits_facts : (g : ℕ) (x : Limits) → valid_limits g x ≡ true → LimitsFacts g x
unfolding valid_limits
limits_facts g x v =
    record {
      lower = limit_facts _ _ (and_left _ (is_limit g x.upper) v);
      upper = limit_facts _ _ (and_right (is_limit g x.lower) _ v);
    }

-- of each of three ranges, or bands
pub three_limits_facts : (g : ℕ) (limits : List Limits) → all_three (λ i. valid_limits g (get_or limits i no_limits)) ≡ true
    → (i : ℕ) → i < 3 → LimitsFacts g (get_or limits i no_limits)
three_limits_facts g limits v i l = limits_facts g _ (each_of_three (λ i. valid_limits g (get_or limits i no_limits)) v i l)

-- ---- near seconds

pub record NearFacts (n : NearSeconds) : Type 0 where
  pub top : valid_near n.top ≡ true
  pub bottom : valid_near n.bottom ≡ true

pub near_facts : (n : NearSeconds) → valid_near_seconds n ≡ true → NearFacts n
unfolding valid_near_seconds
near_facts n v =
    record { top = and_left _ (valid_near n.bottom) v; bottom = and_right (valid_near n.top) _ v }

pub since_last : (second : ℕ) → valid_near (Some second) ≡ true → second ≤ second_last
unfolding valid_near
since_last second v = leb-true _ _ v

pub three_near_facts : (near : List NearSeconds) → all_three (λ k. valid_near_seconds (get_or near k not_near)) ≡ true
    → (k : ℕ) → k < 3 → NearFacts (get_or near k not_near)
three_near_facts near v k l = near_facts _ (each_of_three (λ k. valid_near_seconds (get_or near k not_near)) v k l)

-- ---- the outside prices

pub record ExternalFacts (x : External) : Type 0 where
  pub bid : x.bid ≤ price_most
  pub ask : x.ask ≤ price_most

pub external_facts : (x : External) → valid_external x ≡ true → ExternalFacts x
unfolding valid_external
external_facts x v =
    record {
      bid = leb-true _ _ (and_left _ (leb x.ask price_most) v);
      ask = leb-true _ _ (and_right (leb x.bid price_most) _ v);
    }

-- ---- a record

pub rates_facts : (rates : List Rate) → all_three (λ i. is_rate (rate_at rates i)) ≡ true → (i : ℕ) → i < 3
    → rate_at rates i ≤ rate_most
rates_facts rates v i l = rate_within_most _ (each_of_three (λ i. is_rate (rate_at rates i)) v i l)

pub record SoundRecord (r : Record) : Type 0 where
  pub id : Within 1 id_most r.id
  pub valid : valid_statics r.statics ≡ true
  pub statics : StaticsFacts r.statics
  pub figures : FiguresFacts r.statics (last_day r.standing) r.p1.units r.p2.units r.s
      r.tentative.bp
  pub age_most_lem : r.tentative.age ≤ age_most
  pub rates : (i : ℕ) → i < 3 → rate_at r.rates i ≤ rate_most
  pub ranges : (i : ℕ) → i < 3 → LimitsFacts (grid_of r.statics.lot) (get_or r.ranges i no_limits)
  pub terms : (k : ℕ) → k < 3 → TermFacts (term_at r.terms k)
  pub bands : (k : ℕ) → k < 3 → LimitsFacts (grid_of r.statics.lot) (get_or r.bands k no_limits)
  pub moves_upper : r.moves.upper ≤ moves_most
  pub moves_lower : r.moves.lower ≤ moves_most
  pub near : (k : ℕ) → k < 3 → NearFacts (get_or r.near k not_near)
  pub second_last_lem : r.second ≤ second_last
  pub session : valid_session r.session ≡ true
  pub external : ExternalFacts r.external

pub sound_facts : (r : Record) → sound r ≡ true → SoundRecord r
unfolding sound
sound_facts r v =
    record {
      id = within_facts _ _ _ (search (v, and_left, and_right) depth 40);
      valid = search (v, and_left, and_right) depth 40;
      statics = statics_facts r.statics (search (v, and_left, and_right) depth 40);
      figures =
          record {
            day_most_lem = leb-true _ _ (search (v, and_left, and_right) depth 40);
            later = grid_price_facts _ _ (search (v, and_left, and_right) depth 40);
            earlier = grid_price_facts _ _ (search (v, and_left, and_right) depth 40);
            s_most = leb-true _ _ (search (v, and_left, and_right) depth 40);
            tentative_in = tentative_facts r.statics.h _ (search (v, and_left, and_right) depth 40);
          };
      age_most_lem = leb-true _ _ (search (v, and_left, and_right) depth 40);
      rates = rates_facts r.rates (search (v, and_left, and_right) depth 40);
      ranges = three_limits_facts _ r.ranges (search (v, and_left, and_right) depth 40);
      terms = terms_facts r.terms (search (v, and_left, and_right) depth 40);
      bands = three_limits_facts _ r.bands (search (v, and_left, and_right) depth 40);
      moves_upper = leb-true _ _ (search (v, and_left, and_right) depth 40);
      moves_lower = leb-true _ _ (search (v, and_left, and_right) depth 40);
      near = three_near_facts r.near (search (v, and_left, and_right) depth 40);
      second_last_lem = leb-true _ _ (search (v, and_left, and_right) depth 40);
      session = search (v, and_left, and_right) depth 40;
      external = external_facts r.external (search (v, and_left, and_right) depth 40);
    }

-- ---- the table

pub slots_facts : (count : ℕ) → valid_slots count ≡ true → Within 1 slots_most count
unfolding valid_slots
slots_facts count v = within_facts _ _ count v
