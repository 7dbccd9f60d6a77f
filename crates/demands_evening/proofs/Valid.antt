-- A message of a sound record, and of an admission that is in range, is valid, so that an accepted call is always
-- broadcast whole.
use mathlib.Core.Path.{◌≡◌, refl, sym, ap, ◌∙◌}
use mathlib.Core.Bool.{Bool, true, false, ◌&&◌, and-false}
use mathlib.Core.List.{List, [], ◌∷◌, map}
use Prim.Native.Nat.{ℕ, zero, suc, ◌+◌, ◌≤◌, ◌<◌}
use native.Mathlib.Nat.{add_comm}
use native.Mathlib.Numerals.{add-one}
use native.Mathlib.Omega.{arith}
use lib.Dec.{ltb, eqb}
use lib.IntN.{ℤ, pos, negsuc, nat_abs}
use lib.ListN.{length, drop, get_or, drop_of_length-le}
use lib.Seq.{drop-cons, get_or-drop}
use borrow.Author.Tests.{le-leb, lt-ltb, ltb-true, eqb-true}
use Rattle.paper.specs.declared.Statics.{Statics}
use Rattle.paper.specs.declared.Admission.{Admission}
use Rattle.paper.specs.declared.Limits.{Limits}
use Rattle.paper.specs.declared.Record.{Record}
use Rattle.paper.specs.declared.Side.{Side}
use Rattle.paper.specs.declared.Side.TheVariants.{Upper, Lower}
use Rattle.paper.specs.Lists.{pick, every}
use Rattle.paper.specs.Numbers.{repo_least, repo_most, limit_most, moves_most, id_most, day_most, age_most, price_most}
use Rattle.paper.specs.Numbers.{rate_most, volatility_most, term_days_most, past_every}
use Rattle.paper.specs.Ranges.{within, within_z, unsigned, unsigned_at, side_number, last_day, term_at, no_rate, sound}
use Rattle.paper.specs.Ranges.{Static, statics_table, statics_count, given_of, statics_of, numbers_of, in_table, valid_statics}
use Rattle.paper.specs.Ranges.{valid_given, valid_admission}
use Rattle.paper.proofs.Logic.{and_both, and_left, and_right, ◌&◌}
use Rattle.paper_desk.proofs.Units.{unsigned_within}
use Rattle.paper_desk.proofs.TentativeRange.{tentative_top_high}
use Rattle.paper_desk.specs.Limits.{count_of}
use Rattle.paper_desk.specs.Sides.{limit_on}
use Rattle.paper.proofs.StaticsFacts.{within_facts, given_statics_valid, ranges_hold, numbers_valid, unsigned_from}
use Rattle.paper.proofs.StaticsFacts.{given_in_table}
use Rattle.record_soundness.proofs.Facts.{LimitsFacts, SoundRecord, sound_facts}
use Rattle.paper_messages.specs.Fields.{fields_of}
use Rattle.paper_messages.specs.Fields.{statics_message_kind, four_bytes, yes_no, static_field}
use Rattle.paper_messages.specs.Fields.{places, tentative_last, filled, places_of}
use Rattle.paper_messages.specs.Messages.{is_known_kind, in_ranges, as_admission, valid}
use Rattle.paper_messages.specs.Records.{past_signed, value_of, message, statics_numbers, statics_message}
use Rattle.paper_messages.specs.Records.{rates_message, bands_message, move_message, range_shown, band_shown}
use Rattle.paper_messages.specs.Records.{price_number, weight_number, replacement_number, tentative_number, level_number}
use Rattle.paper_messages.specs.Records.{reasons_message, session_message}
use Rattle.paper_reasons.specs.declared.PriceReason.{PriceReason}
use Rattle.paper_reasons.specs.declared.PriceReason.TheVariants as price
use Rattle.paper_reasons.specs.declared.WeightReason.{WeightReason}
use Rattle.paper_reasons.specs.declared.WeightReason.TheVariants as weight
use Rattle.paper_reasons.specs.declared.ReplacementReason.{ReplacementReason}
use Rattle.paper_reasons.specs.declared.ReplacementReason.TheVariants as replacement
use Rattle.paper_reasons.specs.declared.TentativeReason.{TentativeReason}
use Rattle.paper_reasons.specs.declared.TentativeReason.TheVariants as tentative
use Rattle.paper_reasons.specs.declared.LevelReason.{LevelReason}
use Rattle.paper_reasons.specs.declared.LevelReason.TheVariants as level
use Rattle.paper_reasons.specs.declared.Reasons.{Reasons}

-- ---- values in range

value_in : (low high n : ℕ) → high < past_signed → low ≤ n → n ≤ high → within_z (pos low) (pos high) (value_of n) ≡ true
unfolding value_of
value_in low high n h l m = rw (lt-ltb n past_signed (omega arith)) (and_both _ _ (le-leb low n l) (le-leb n high m))

repo_in : (x : ℤ) → nat_abs x ≤ nat_abs repo_most → within_z repo_least repo_most x ≡ true
repo_in (pos n) h = le-leb n 9999 h
repo_in (negsuc n) h = and_both _ _ (le-leb n 9998 (omega arith)) refl

-- a reason is in the range of its list
price_in : (x : PriceReason) → within_z (pos 0) (pos 4) (value_of (price_number x)) ≡ true
unfolding value_of
price_in price.None = refl
price_in price.Close = refl
price_in price.Bid = refl
price_in price.Ask = refl
price_in price.Yesterday = refl

weight_in : (x : WeightReason) → within_z (pos 0) (pos 3) (value_of (weight_number x)) ≡ true
unfolding value_of
weight_in weight.None = refl
weight_in weight.Zero = refl
weight_in weight.Up = refl
weight_in weight.Down = refl

replacement_in : (x : ReplacementReason) → within_z (pos 0) (pos 2) (value_of (replacement_number x)) ≡ true
unfolding value_of
replacement_in replacement.None = refl
replacement_in replacement.Yes = refl
replacement_in replacement.No = refl

did_in : (x : TentativeReason) → within_z (pos 0) (pos 4) (value_of (tentative_number x)) ≡ true
unfolding value_of
did_in tentative.None = refl
did_in tentative.Rose = refl
did_in tentative.Fell = refl
did_in tentative.Waited = refl
did_in tentative.Level = refl

level_in : (x : LevelReason) → within_z (pos 0) (pos 3) (value_of (level_number x)) ≡ true
unfolding value_of
level_in level.None = refl
level_in level.Requirement = refl
level_in level.Minimum = refl
level_in level.Maximum = refl

-- ---- a sound record

-- a limit of either side
limit_in : {g : ℕ} {x : Limits} → LimitsFacts g x → (side : Side)
    → within_z (pos 0) (pos limit_most) (value_of (limit_on side x)) ≡ true
limit_in f Upper = value_in 0 limit_most _ (omega arith) (omega arith) f.upper.most
limit_in f Lower = value_in 0 limit_most _ (omega arith) (omega arith) f.lower.most

module _ (r : Record) (sound_record : sound r ≡ true) where
  known : SoundRecord r
  known = sound_facts r sound_record

  range_in : (side : Side) (i : ℕ) → i < 3 → within_z (pos 0) (pos limit_most) (value_of (range_shown r side i)) ≡ true
  range_in side i l = limit_in (known.ranges i l) side

  band_in : (side : Side) (k : ℕ) → k < 3 → within_z (pos 0) (pos limit_most) (value_of (band_shown r side k)) ≡ true
  band_in side k l = limit_in (known.bands k l) side

  rate_in : (i : ℕ) → i < 3 → within_z (pos 0) (pos rate_most) (value_of (get_or r.rates i no_rate).bp) ≡ true
  rate_in i l = value_in 0 rate_most _ (omega arith) (omega arith) (known.rates i l)

  id_in : within_z (pos 1) (pos id_most) (value_of r.id) ≡ true
  id_in = value_in 1 id_most _ (omega arith) known.id.least known.id.most

  day_in : within_z (pos 0) (pos day_most) (value_of (last_day r.standing)) ≡ true
  day_in = value_in 0 day_most _ (omega arith) (omega arith) known.figures.day_most_lem

  tentative_in : within_z (pos 0) (pos tentative_last) (value_of r.tentative.bp) ≡ true
  tentative_in =
      let step = known.statics.h in
      let top = tentative_top_high r.statics.h step.least in
      let most = known.figures.tentative_in.most in
      value_in 0 tentative_last _ (omega arith) (omega arith) (omega (arith, top, step.most, most))

  pub rates_valid : valid (rates_message r) ≡ true
  unfolding valid rates_message message filled places_of fields_of is_known_kind in_ranges
  rates_valid =
      id_in
      & (day_in
      & (value_in 1 price_most _ (omega arith) known.figures.later.price.least known.figures.later.price.most
      & (value_in 0 volatility_most _ (omega arith) (omega arith) known.figures.s_most
      & (tentative_in
      & (value_in 0 age_most _ (omega arith) (omega arith) known.age_most_lem
      & (rate_in 0 (omega arith)
      & (rate_in 1 (omega arith)
      & (rate_in 2 (omega arith)
      & (range_in Upper 0 (omega arith)
      & (range_in Upper 1 (omega arith)
      & (range_in Upper 2 (omega arith)
      & (range_in Lower 0 (omega arith)
      & (range_in Lower 1 (omega arith)
      & (range_in Lower 2 (omega arith)
      & refl))))))))))))))
      & refl

  -- K RRCL RRCH LOWER UPPER of a term, before what follows it
  term_in : (k : ℕ) → k < 3 → (rest : Bool) → rest ≡ true
      → (within_z (pos 0) (pos term_days_most) (value_of (term_at r.terms k).k)
      && (within_z repo_least repo_most (term_at r.terms k).low
      && (within_z repo_least repo_most (term_at r.terms k).high
      && (within_z (pos 0) (pos limit_most) (value_of (band_shown r Lower k))
      && (within_z (pos 0) (pos limit_most) (value_of (band_shown r Upper k)) && rest)))))
      ≡ true
  term_in k l rest e =
      let term = known.terms k l in
      value_in 0 term_days_most _ (omega arith) (omega arith) term.k_most
      & (repo_in (term_at r.terms k).low term.low.size
      & (repo_in (term_at r.terms k).high term.high.size & (band_in Lower k l & (band_in Upper k l & e))))

  pub bands_valid : valid (bands_message r) ≡ true
  unfolding valid bands_message message filled places_of fields_of is_known_kind in_ranges
  bands_valid =
      id_in
      & (day_in
      & term_in 0 (omega arith) _ (term_in 1 (omega arith) _ (term_in 2 (omega arith) true refl)))
      & refl

  -- the moves of either side
  count_in : (side : Side) → within_z (pos 0) (pos moves_most) (value_of (count_of side r.moves)) ≡ true
  count_in Upper = value_in 0 moves_most _ (omega arith) (omega arith) known.moves_upper
  count_in Lower = value_in 0 moves_most _ (omega arith) (omega arith) known.moves_lower

  side_in : (side : Side) → within_z (pos 0) (pos 1) (value_of (side_number side)) ≡ true
  side_in Upper = value_in 0 1 0 (omega arith) (omega arith) (omega arith)
  side_in Lower = value_in 0 1 1 (omega arith) (omega arith) (omega arith)

  pub move_valid : (side : Side) → valid (move_message r side) ≡ true
  unfolding valid move_message message filled places_of fields_of is_known_kind in_ranges
  move_valid side =
      id_in
      & (side_in side
      & (count_in side
      & (range_in side 0 (omega arith)
      & (range_in side 1 (omega arith)
      & (range_in side 2 (omega arith)
      & (band_in side 0 (omega arith) & (band_in side 1 (omega arith) & (band_in side 2 (omega arith) & refl))))))))
      & refl

  -- whatever the reasons are
  pub reasons_valid : (y : Reasons) → valid (reasons_message r y) ≡ true
  unfolding valid reasons_message message filled places_of fields_of is_known_kind in_ranges
  reasons_valid y =
      id_in
      & (day_in
      & (price_in y.price
      & (weight_in y.weight
      & (replacement_in y.replacement
      & (did_in y.tentative
      & (level_in y.level1 & (level_in y.level2 & (level_in y.level3 & refl))))))))
      & refl

  pub session_valid : valid (session_message r) ≡ true
  unfolding valid session_message message filled places_of fields_of is_known_kind in_ranges
  session_valid = (id_in & (day_in & refl)) & refl

-- ---- an admission

-- so many values from a place on
build : (n i : ℕ) → List ℤ → List ℤ
build zero i values = []
build (suc n) i values = get_or values i (pos 0) ∷ build n (suc i) values

as_built : (n i : ℕ) (values : List ℤ) → i + n ≡ length values → drop i values ≡ build n i values
unfolding build
as_built zero i values e = let h : length values ≤ i = omega arith in drop_of_length-le values h
as_built (suc n) i values e =
    let h : i < length values = omega arith in
    rw (drop-cons values i (pos 0) h)
    (ap (λ (l : List ℤ). get_or values i (pos 0) ∷ l) (as_built n (suc i) values (omega arith)))

-- the numbers behind the first
behind_first : (values : List ℤ) (i n : ℕ) → unsigned_from (drop 1 values) i n ≡ unsigned_from values (suc i) n
behind_first values i zero = refl
behind_first values i (suc n) =
    rw (get_or-drop 1 values i (pos 0), add_comm 1 i, add-one i, behind_first values (suc i) n)

-- what lets a row of the table be a field: a value past its range is no number, and yes or no is 1 or 0
is_field : Static → Bool
is_field row =
    ltb row.most past_every && pick row.is_flag (eqb row.least 0 && eqb row.most 1) true

-- a number in the range of its row is in that of its field
field_in : (row : Static) (z : ℤ) → is_field row ≡ true → within row.least row.most (unsigned z) ≡ true
    → within_z (static_field row).low (static_field row).high z ≡ true
unfolding is_field
field_in row z f w = go row.is_flag refl
  where
    go : (b : Bool) → row.is_flag ≡ b
        → (let field = pick b yes_no (four_bytes (pos row.least) (pos row.most)) in
        within_z field.low field.high z ≡ true)
    go true e =
        let ends : (eqb row.least 0 && eqb row.most 1) ≡ true =
        rw e at (and_right (ltb row.most past_every) _ f) in
        let least : row.least ≡ 0 = eqb-true _ 0 (and_left _ (eqb row.most 1) ends) in
        let most : row.most ≡ 1 = eqb-true _ 1 (and_right (eqb row.least 0) _ ends) in
        sym (unsigned_within 0 1 z (omega arith)) ∙ (rw (least, most) at w)
    go false e =
        sym (unsigned_within row.least row.most z (ltb-true _ _ (and_left (ltb row.most past_every) _ f))) ∙ w

rows_in : (rows : List Static) (values : List ℤ) (i : ℕ) → every is_field rows ≡ true
    → in_table rows (unsigned_from values i (length rows)) ≡ true
    → in_ranges (map static_field rows) (build (length rows) i values) ≡ true
unfolding every in_ranges build
rows_in [] values i f t = refl
rows_in (row ∷ rows) values i f t =
    field_in row (get_or values i (pos 0)) (and_left (is_field row) _ f)
    (and_left _ (in_table rows (unsigned_from values (suc i) (length rows))) t)
    & rows_in rows values (suc i) (and_right (is_field row) _ f)
    (and_right (within row.least row.most (unsigned_at values i)) _ t)

-- what an admission accepts is in every field's own range
admitted_in : (values : List ℤ) → as_admission values ≡ true
    → in_ranges (places_of statics_message_kind) (build places 0 values) ≡ true
unfolding as_admission places_of fields_of filled in_ranges build every is_field
admitted_in values v =
    let id : within 1 id_most (unsigned_at values 0) ≡ true =
    and_left (within 1 id_most (unsigned_at values 0)) (valid_given (given_of (drop 1 values))) v in
    let given : valid_given (given_of (drop 1 values)) ≡ true =
    and_right (within 1 id_most (unsigned_at values 0)) (valid_given (given_of (drop 1 values))) v in
    (sym (unsigned_within 1 id_most (get_or values 0 (pos 0)) (omega arith)) ∙ id)
    & rows_in statics_table values 1 refl
    (sym (ap (in_table statics_table) (behind_first values 0 statics_count)) ∙ given_in_table (drop 1 values) given)

-- kind 1 is judged exactly as an admission judges id and statics
pub judged_as_admission : (values : List ℤ) → length values ≡ places
    → valid (record { kind = statics_message_kind; fields = values }) ≡ as_admission values
unfolding valid is_known_kind
judged_as_admission values e = go (as_admission values) refl
  where
    all : values ≡ build places 0 values
    all = as_built places 0 values (sym e)

    go : (b : Bool) → as_admission values ≡ b → (in_ranges (places_of statics_message_kind) values && b) ≡ b
    go true v = rw (ap (in_ranges (places_of statics_message_kind)) all ∙ admitted_in values v)
    go false v = and-false (in_ranges (places_of statics_message_kind) values)

-- a number reads back from its value
number_back : (n : ℕ) → n < past_signed → unsigned (value_of n) ≡ n
unfolding value_of unsigned
number_back n h = rw (lt-ltb n past_signed h)

-- numbers in the ranges of a table whose ranges are signed numbers are their own values
values_are_numbers : (rows : List Static) (numbers : List ℕ)
    → every (λ (row : Static). ltb row.most past_signed) rows ≡ true
    → length numbers ≤ length rows → in_table rows numbers ≡ true → map value_of numbers ≡ map pos numbers
unfolding every value_of
values_are_numbers rows [] f l t = refl
values_are_numbers [] (x ∷ numbers) f l t = let z : ⊥ = omega arith in absurd z
values_are_numbers (row ∷ rows) (x ∷ numbers) f l t =
    let most = (within_facts _ _ x (and_left (within row.least row.most x) (in_table rows numbers) t)).most in
    let high : row.most < past_signed = ltb-true _ _ (and_left (ltb row.most past_signed) _ f) in
    rw (
      lt-ltb x past_signed (omega arith),
      values_are_numbers rows numbers (and_right (ltb row.most past_signed) _ f) (omega arith)
          (and_right (within row.least row.most x) _ t),
    )

module _ (id : ℕ) (st : Statics) (id-valid : within 1 id_most id ≡ true) (st-valid : valid_statics st ≡ true) where
  values : List ℤ
  values = map value_of (statics_numbers id st)

  given_valid : valid_given (given_of (map value_of (numbers_of st))) ≡ true
  unfolding every
  given_valid =
      rw (values_are_numbers statics_table (numbers_of st) refl (omega arith) (ranges_hold st st-valid))
      (numbers_valid st st-valid)

  pub statics_valid : valid (statics_message id st) ≡ true
  unfolding statics_message message filled as_admission values
  statics_valid =
      let small : id < past_signed = omega (arith, (within_facts 1 id_most id id-valid).most) in
      let first : within 1 id_most (unsigned (value_of id)) ≡ true = rw (number_back id small) id-valid in
      judged_as_admission values refl ∙ (first & given_valid)

-- the message of an admission that is in range
pub admission_valid : (a : Admission) → valid_admission a ≡ true
    → valid (statics_message a.id (statics_of a.given)) ≡ true
unfolding valid_admission
admission_valid a v =
    let id-valid : within 1 id_most a.id ≡ true = search (v, and_left, and_right) depth 40 in
    let given : valid_given a.given ≡ true = search (v, and_left, and_right) depth 40 in
    statics_valid a.id (statics_of a.given) id-valid (given_statics_valid a.given given)
