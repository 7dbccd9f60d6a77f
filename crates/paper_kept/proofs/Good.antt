-- What each accepted call makes of a good record is good: sound, and within its moves.
use mathlib.Core.Path.{◌≡◌}
use mathlib.Core.Bool.{true, false}
use mathlib.Core.List.{List}
use Prim.Native.Nat.{ℕ, ◌≤◌, ◌<◌}
use native.Mathlib.Omega.{arith}
use lib.Dec.{eqb}
use lib.IntN.{ℤ}
use borrow.Author.Tests.{leb-true, eqb-false}
use Rattle.paper.specs.declared.Record.{Record}
use Rattle.paper.specs.declared.Admission.{Admission}
use Rattle.paper.specs.declared.Day.{Day}
use Rattle.paper.specs.declared.Quote.{Quote}
use Rattle.paper.specs.declared.Side.{Side}
use Rattle.paper.specs.declared.Side.TheVariants.{Upper, Lower}
use Rattle.paper.specs.declared.Moves.{Moves}
use Rattle.paper.specs.declared.NearSeconds.{NearSeconds}
use Rattle.paper.specs.declared.Session.{Session}
use Rattle.paper.specs.declared.External.{External}
use Rattle.paper.specs.Numbers.{moves_most}
use Rattle.paper.specs.Ranges.{valid_admission, side_of, sound}
use Rattle.paper_desk.specs.Limits.{count_of}
use Rattle.paper.specs.Verdicts.{NoneApplies, none, also}
use Rattle.paper_desk.specs.Desk.{admitted, evaluated, watching, quoted, moved, evening_opened, received}
use Rattle.paper_desk.specs.Desk.{evaluating_checks, quoting_checks, moving_checks}
use Rattle.paper_desk.specs.External.{Receipt}
use Rattle.paper_desk.specs.Kept.{within_moves, good}
use Rattle.paper.proofs.Logic.{and_left, and_right, and_both, not_false}
use Rattle.paper_kept.proofs.Sound.{Parts, sound_has_parts, parts_are_sound, Evaluates, evaluated_sound}
use Rattle.paper_kept.proofs.Sound.{evaluated_within, quoted_sound, watching_within, opened_sound, received_sound}
use Rattle.paper_kept.proofs.Sound.{moved_sound, moved_within, admits, admitted_within}

-- ---- a good record

pub good_sound : (r : Record) → good r ≡ true → sound r ≡ true
unfolding good
good_sound r v = and_left (sound r) (within_moves r) v

pub good_within : (r : Record) → good r ≡ true → within_moves r ≡ true
unfolding good
good_within r v = and_right (sound r) (within_moves r) v

good_from : (r : Record) → Parts r → within_moves r ≡ true → good r ≡ true
unfolding good
good_from r k w = and_both (sound r) (within_moves r) (parts_are_sound r k) w

-- ---- what each accepted call writes

pub admitted_good : (a : Admission) → valid_admission a ≡ true → good (admitted a) ≡ true
admitted_good a v = good_from (admitted a) (admits a v) (admitted_within a)

pub evaluated_good : (r : Record) (d : Day) (rows : List ℤ) → good r ≡ true → NoneApplies (evaluating_checks r d rows)
    → good (evaluated r d rows) ≡ true
evaluated_good r d rows v (also o (also x (also l (also f (also m c))))) =
    let k : Parts r = sound_has_parts r (good_sound r v) in
    let e : Evaluates r d rows = record { valid = not_false _ o; fits = not_false _ f; small = m } in
    good_from (evaluated r d rows) (evaluated_sound r d rows k e) (evaluated_within r d rows k e)

-- all but the near seconds, the last second, the session and the outside prices are as they were
pub watching_good : (r : Record) (near : List NearSeconds) (second : ℕ) (session : Session) (external : External)
    → good r ≡ true → Parts (watching r near second session external)
    → good (watching r near second session external) ≡ true
watching_good r near second session external v k =
    good_from (watching r near second session external) k
    (watching_within r near second session external (good_within r v))

pub quoted_good : (r : Record) (q : Quote) → good r ≡ true → NoneApplies (quoting_checks r q) → good (quoted r q) ≡ true
unfolding quoted
quoted_good r q v (also o rest) =
    watching_good r _ _ _ _ v (quoted_sound r q (sound_has_parts r (good_sound r v)) (not_false _ o))

pub opened_good : (r : Record) → good r ≡ true → good (evening_opened r) ≡ true
unfolding evening_opened
opened_good r v = watching_good r _ _ _ _ v (opened_sound r (sound_has_parts r (good_sound r v)))

pub received_good : (r : Record) (x : Receipt) → good r ≡ true → good (received r x) ≡ true
unfolding received
received_good r x v = watching_good r _ _ _ _ v (received_sound r x (sound_has_parts r (good_sound r v)))

-- 12 does not apply, so there is room for one more move
room_for_one : (side : Side) (c : Moves) → c.upper ≤ moves_most → c.lower ≤ moves_most
    → eqb (count_of side c) moves_most ≡ false → count_of side c < moves_most
room_for_one Upper c u l n = omega (arith, eqb-false c.upper moves_most n)
room_for_one Lower c u l n = omega (arith, eqb-false c.lower moves_most n)

pub moved_good : (r : Record) (side : ℕ) → good r ≡ true → NoneApplies (moving_checks r side)
    → good (moved r (side_of side)) ≡ true
moved_good r side v (also o (also l (also m (also e (also c none))))) =
    let k : Parts r = sound_has_parts r (good_sound r v) in
    let w : within_moves r ≡ true = good_within r v in
    let room : count_of (side_of side) r.moves < moves_most =
    room_for_one (side_of side) r.moves (leb-true _ _ k.upper) (leb-true _ _ k.lower) c in
    good_from (moved r (side_of side)) (moved_sound r (side_of side) k w room (not_false _ e))
    (moved_within r (side_of side) k w room)
