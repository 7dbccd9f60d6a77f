-- Soundness by itself is not kept by calls, which is why `good` (Kept of paper_desk) bounds the upper range limits by
-- the moves too: a sound record that no calls made is not sound after a move.
-- It may use the calls of the desk, and the statics Z of PinnedValues.
use Rattle.std.specs.Prelude.{◌≡◌, refl, true, false, [], ◌∷◌}
use Rattle.paper.specs.declared.Record.{Record}
use Rattle.paper.specs.declared.Standing.TheVariants.{Live}
use Rattle.paper.specs.declared.Session.TheVariants.{Main}
use Rattle.paper.specs.declared.Verdict.TheVariants.{Done, NoSuchId}
use Rattle.paper.specs.Lists.{three, every}
use Rattle.paper.specs.Numbers.{limit_most}
use Rattle.paper.specs.Ranges.{is_price, is_grid_price, is_rate, grid_of, statics_of, valid_statics, no_external, tentative_top}
use Rattle.paper.specs.Ranges.{valid_tentative, valid_term, no_term, is_limit, valid_limits, no_limits, valid_near}
use Rattle.paper.specs.Ranges.{valid_near_seconds, not_near, is_live, last_day, valid_slots, valid_side, side_of, valid_session}
use Rattle.paper.specs.Ranges.{valid_external, sound}
use Rattle.paper.specs.Roundings.{up, half_up, to_grid}
use Rattle.paper_desk.specs.Limits.{limit_of, delta_of, one_more, range_moved_by}
use Rattle.paper.specs.Verdicts.{is_done, first_of}
use Rattle.paper_desk.specs.Evening.{move_allowed, session_moved}
use Rattle.paper_desk.specs.Desk.{move, read, no_moves, saying, showing, moved, place, stands, found, known, checks_of}
use Rattle.paper_desk.specs.Desk.{judged, accepted_of, step}
use Rattle.paper.specs.PinnedValues.{given_with}
use Rattle.paper_desk.specs.Kept.{every_slot}

-- statics Z, live, with no move yet, and its upper range limits at the greatest that a sound record may have
unfoldable pub far_out : Record
far_out =
    record {
      id = 7;
      statics = statics_of (given_with 10);
      standing = Live 4;
      p1 = record { units = 1000000 };
      p2 = record { units = 1000000 };
      s = 20000;
      tentative = record { bp = 600; age = 0 };
      rates = three (λ i. record { bp = 800 });
      ranges = three (λ i. record { lower = 0; upper = limit_most });
      terms = three (λ k. no_term);
      bands = three (λ k. no_limits);
      moves = no_moves;
      near = three (λ k. not_near);
      second = 0;
      session = Main;
      external = no_external;
    }

-- it is sound, its upper move is accepted, and what the move writes is not sound: the very next call on 7 is refused 1
pub sound_not_kept : (every_slot sound (far_out ∷ []) ≡ true) × ((step (move 7 0) (far_out ∷ [])).answer.verdict ≡ Done)
    × (every_slot sound (step (move 7 0) (far_out ∷ [])).table ≡ false)
    × ((step (read 7) (step (move 7 0) (far_out ∷ [])).table).answer.verdict ≡ NoSuchId)
unfolding far_out every_slot every sound given_with statics_of valid_statics last_day is_grid_price is_price grid_of
    tentative_top valid_tentative is_rate valid_limits is_limit valid_term valid_near_seconds valid_near valid_session
    valid_external step judged first_of is_done checks_of known stands place found valid_slots
    valid_side is_live side_of move_allowed accepted_of moved session_moved one_more range_moved_by delta_of limit_of to_grid
    half_up up saying showing
sound_not_kept = (refl, refl, refl, refl)
