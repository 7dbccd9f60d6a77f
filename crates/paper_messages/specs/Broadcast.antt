-- W-212: what a call is broadcast as, as bytes: "Kinds: 1 statics, 2 rates and ranges, 3 bands, 4 move.", and of
-- docs/BROADCAST.md 5 reasons and 8 session.
use Rattle.std.specs.Prelude.{List, [], ◌∷◌, ◌++◌, ℕ, ◌+◌, ◌-◌, ◌*◌, ℤ}
use Rattle.std.specs.declared.option.Option.{Option}
use Rattle.std.specs.declared.option.Option.TheVariants.{None, Some}
use Rattle.paper.specs.declared.Answer.{Answer}
use Rattle.paper.specs.declared.Day.{Day}
use Rattle.paper.specs.declared.Side.{Side}
use Rattle.paper.specs.declared.Record.{Record}
use Rattle.paper.specs.Lists.{pick}
use Rattle.paper.specs.Ranges.{flags_count, statics_of}
use Rattle.paper.specs.Verdicts.{is_done}
use Rattle.paper_desk.specs.Desk.{Ask, evaluating, quoting, moving, reading, opening, receiving}
use Rattle.paper_desk.specs.Desk.{Call, admit, about, rule_of}
use Rattle.paper_reasons.specs.declared.Reasons.{Reasons}
use Rattle.paper_reasons.specs.Why.{no_reasons, why_on}
use Rattle.paper_messages.specs.declared.Message.{Message}
use Rattle.paper_messages.specs.Fields.{places}
use Rattle.paper_messages.specs.Messages.{length_width, kind_width, encode, valid}
use Rattle.paper_messages.specs.Records.{statics_message, rates_message, bands_message, move_message}
use Rattle.paper_messages.specs.Records.{reasons_message, session_message}

-- why an evaluation is what it is, on the table before it; a call that evaluates nothing has no reasons
abbrev pub of_day : (id : ℕ) → Option (Day × List ℤ) → List Record → Reasons
of_day id None t = no_reasons
of_day id (Some (d, rows)) t = (why_on t id d rows).reasons

unfoldable pub reasons_before : Call → List Record → Reasons
reasons_before (admit g) t = no_reasons
reasons_before (about id x) t = of_day id (rule_of x).evaluates t

abbrev pub of_evaluation : Option (Day × List ℤ) → Answer → Reasons → List Message
of_evaluation None a y = []
of_evaluation (Some dayAndRows) a y = rates_message a.rec ∷ bands_message a.rec ∷ reasons_message a.rec y ∷ []

abbrev pub of_move : Option Side → Answer → List Message
of_move None a = []
of_move (Some side) a = move_message a.rec side ∷ []

abbrev pub of_opening : Ask → Answer → List Message
of_opening (evaluating d rows) a = []
of_opening (quoting q) a = []
of_opening (moving side) a = []
of_opening reading a = []
of_opening opening a = session_message a.rec ∷ []
of_opening (receiving x) a = []

-- the messages of an accepted call, and an evaluation's with its reasons: kind 1 of an admission, 2, 3 and 5 of an
-- evaluation, 4 of a move, 8 of an opening, none of the others
unfoldable pub messages_of : Call → Answer → Reasons → List Message
messages_of (admit g) a y = statics_message g.id (statics_of g.given) ∷ []
messages_of (about id x) a y = of_evaluation (rule_of x).evaluates a y ++ (of_move (rule_of x).moves a ++ of_opening x a)

-- the bytes of a message. The writer refuses one with a field out of its range (23), and then nothing is sent
unfoldable pub sent : Message → List ℕ
sent m = pick (valid m) (encode m) []

-- no message of a known kind is longer than that of the statics: its length, its kind, an id and other numbers of four
-- bytes, and flags of one
abbrev pub message_most : ℕ
message_most = length_width + (kind_width + (4 * (places - flags_count) + flags_count))

unfoldable pub all_sent : List Message → List ℕ
all_sent [] = []
all_sent (m ∷ ms) = sent m ++ all_sent ms

-- THE MESSAGES OF A CALL: none where it is refused
unfoldable pub messages_to : Call → Answer → Reasons → List Message
messages_to c a y = pick (is_done a.verdict) (messages_of c a y) []

-- THE BYTES OF A CALL'S BROADCAST
unfoldable pub broadcast_of : Call → Answer → Reasons → List ℕ
broadcast_of c a y = all_sent (messages_to c a y)
