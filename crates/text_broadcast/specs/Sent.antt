-- What a call is broadcast as, by its role (`role_of`, Calls.antt): the text goes by the role, and not by the call.
use Rattle.std.specs.Prelude.{List, [], ◌∷◌, ℕ}
use Rattle.paper.specs.declared.Answer.{Answer}
use Rattle.paper.specs.declared.Verdict.{Verdict}
use Rattle.paper.specs.Lists.{pick}
use Rattle.paper.specs.Ranges.{statics_of}
use Rattle.paper.specs.Verdicts.{is_done}
use Rattle.paper_messages.specs.declared.Message.{Message}
use Rattle.paper_messages.specs.Broadcast.{all_sent}
use Rattle.paper_messages.specs.Records.{statics_message, rates_message, bands_message, move_message}
use Rattle.paper_messages.specs.Records.{reasons_message, session_message}
use Rattle.paper_reasons.specs.declared.Reasons.{Reasons}
use Rattle.text_protocol.specs.declared.Role.{Role}
use Rattle.text_protocol.specs.declared.Role.TheVariants as role

-- the messages of an accepted call of a role, an evaluation's with its reasons
unfoldable pub messages_shown : Role → Answer → Reasons → List Message
messages_shown (role.Admission g) a y = statics_message g.id (statics_of g.given) ∷ []
messages_shown (role.Evaluation id d) a y = rates_message a.rec ∷ bands_message a.rec ∷ reasons_message a.rec y ∷ []
messages_shown role.Quote a y = []
messages_shown (role.Move side) a y = move_message a.rec side ∷ []
messages_shown role.Opening a y = session_message a.rec ∷ []
messages_shown role.Other a y = []

-- none where the call is refused
unfoldable pub shown_to : Role → Answer → Reasons → List Message
shown_to x a y = pick (is_done a.verdict) (messages_shown x a y) []

-- their bytes
unfoldable pub broadcast_shown : Role → Answer → Reasons → List ℕ
broadcast_shown x a y = all_sent (shown_to x a y)

-- how many they are
abbrev pub count_of : Role → ℕ
count_of (role.Admission g) = 1
count_of (role.Evaluation id d) = 3
count_of role.Quote = 0
count_of (role.Move side) = 1
count_of role.Opening = 1
count_of role.Other = 0

unfoldable pub count_shown : Role → Verdict → ℕ
count_shown x v = pick (is_done v) (count_of x) 0
