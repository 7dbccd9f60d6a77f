-- What belongs to one side: its limit, its near second, its repo rate; and the other side. Which calls answer a
-- record, and which are receipts of outside prices. The laws of proofs/PinnedLaws speak of them.
-- It may use the kinds of src/lib.rt, delta and the calls of Desk.
use Rattle.std.specs.Prelude.{◌≡◌, Bool, true, false, ℕ, ℤ, pos}
use Rattle.std.specs.declared.option.Option.TheVariants.{None, Some}
use Rattle.std.specs.Int.Signed.{le_z}
use Rattle.paper.specs.declared.Side.{Side}
use Rattle.paper.specs.declared.Side.TheVariants.{Upper, Lower}
use Rattle.paper.specs.declared.Limits.{Limits}
use Rattle.std.specs.declared.option.Option.{Option}
use Rattle.paper.specs.declared.NearSeconds.{NearSeconds}
use Rattle.paper.specs.declared.Term.{Term}
use Rattle.paper.specs.declared.Record.{Record}
use Rattle.paper.specs.Ranges.{rate_at}
use Rattle.paper_desk.specs.Limits.{delta_of}
use Rattle.paper_desk.specs.Desk.{Call, admit, about, Reply, the_record, the_alerts, rule_of}
use Rattle.paper_desk.specs.External.{Receipt}

abbrev pub other : Side → Side
other Upper = Lower
other Lower = Upper

abbrev pub limit_on : Side → Limits → ℕ
limit_on Upper x = x.upper
limit_on Lower x = x.lower

-- the top is the upper side's, the bottom the lower's
abbrev pub near_second_on : Side → NearSeconds → Option ℕ
near_second_on Upper n = n.top
near_second_on Lower n = n.bottom

-- RRcH above, RRcL below
abbrev pub repo_on : Side → Term → ℤ
repo_on Upper x = x.high
repo_on Lower x = x.low

-- a repo rate on the side's own side of 0: "RRcL ≤ 0 ≤ RRcH"
abbrev pub PastZero : Side → (repo : ℤ) → Type 0
PastZero Upper repo = le_z (pos 0) repo ≡ true
PastZero Lower repo = le_z repo (pos 0) ≡ true

-- the delta of a move: by the record's own P and S_1
abbrev pub delta_for : Record → ℕ
delta_for r = delta_of r.statics (rate_at r.rates 0) r.p1.units

-- "Accepted evaluations, moves and reads return the record as it then stands, a quote its two alerts, an admission the
-- number 0 alone."
abbrev pub shows_record : Reply → Bool
shows_record the_record = true
shows_record (the_alerts q) = false

abbrev pub shows : Call → Bool
shows (admit a) = false
shows (about id x) = shows_record (rule_of x).reply

-- W-211: both prices sent together, or a notice
abbrev pub is_received : Option Receipt → Bool
is_received None = false
is_received (Some x) = true

abbrev pub is_receipt : Call → Bool
is_receipt (admit a) = false
is_receipt (about id x) = is_received (rule_of x).receives
