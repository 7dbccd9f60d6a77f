-- What a line asks for, and what it is told as, by what the code has at hand.
use Rattle.std.specs.Prelude.{◌≡◌, Bool, true, false, List, [], ℕ, ltb, ℤ}
use Rattle.paper.specs.declared.Answer.{Answer}
use Rattle.paper.specs.declared.Verdict.{Verdict}
use Rattle.paper.specs.Lists.{pick}
use Rattle.paper_reasons.specs.declared.Reasons.{Reasons as WhyReasons}
use Rattle.paper_reasons.specs.Why.{no_reasons}
use Rattle.paper_interest.specs.Interest.{interest_answer}
use Rattle.paper_bonds.specs.Bonds.{bond_answer}
use Rattle.text_protocol.specs.declared.Ask.{Ask}
use Rattle.text_protocol.specs.declared.Ask.TheVariants as ask
use Rattle.std.specs.declared.option.Option.{Option}
use Rattle.std.specs.declared.option.Option.TheVariants.{None, Some}
use Rattle.paper_reasons.specs.declared.Why.{Why}
use Rattle.text_protocol.specs.declared.Kept.{Kept}
use Rattle.text_protocol.specs.declared.Performed.{Performed}
use Rattle.text_protocol.specs.declared.Role.{Role}
use Rattle.text_protocol.specs.declared.Role.TheVariants as role
use Rattle.text_evening.specs.declared.Telling.{Telling}
use Rattle.text_evening.specs.declared.Telling.TheVariants.{Answers, Reasons, Messages}
use Rattle.text_protocol.specs.Calls.{Deed, nothing, no_call, call, interest, bond, role_of, deed_asked}
use Rattle.text_protocol.specs.Answers.{bad_text, interest_text, bond_text}
use Rattle.text_protocol.specs.Roles.{shown_text}
use Rattle.paper_reasons.specs.AdmissionFaults.{field_at_fault}
use Rattle.text_protocol.specs.Reasons.{why_text, field_text}
use Rattle.text_broadcast.specs.Sent.{broadcast_shown, count_shown}
use Rattle.text_evening.specs.Evening.{kept_by, worded}
use Rattle.text_deed.specs.declared.Beside.{Beside}
use Rattle.text_deed.specs.declared.LineDeed.{LineDeed}

-- ---- what a line asks for

-- what is answered beside the table is the deed's answer
unfoldable pub BesideIs : Deed → Beside → Type 0
BesideIs nothing b = Unit {0}
BesideIs no_call b = Unit {0}
BesideIs (call c) b = Unit {0}
BesideIs (interest i keys) b = b.interest ≡ interest_answer i keys
BesideIs (bond x flows) b = b.bond ≡ bond_answer x flows

-- WHAT THE CODE MAKES OF A LINE of the numbers zs IS THE DEED d, where k is kept before it
pub record AsksFor (k : Kept) (d : Deed) (zs : List ℤ) (r : LineDeed) : Type 0 where
  pub asks : deed_asked r.ask zs ≡ d
  pub kept : r.kept ≡ kept_by d k
  pub beside : BesideIs d r.beside

-- ---- what a line is told as

-- whether why is asked: where lines are told with reasons, and where messages have them
unfoldable pub asks_why : Telling → Bool
asks_why Answers = false
asks_why Reasons = true
asks_why (Messages from) = true

-- whether what is no message is told
unfoldable pub in_words : Telling → Bool
in_words Answers = true
in_words Reasons = true
in_words (Messages from) = false

-- where no reason is named: the answer, and of an admission the number of its line that is at fault
unfoldable pub fault_shown : Role → Answer → List ℕ
fault_shown (role.Admission g) a = field_text a.verdict (field_at_fault g)
fault_shown (role.Evaluation id d) a = shown_text (role.Evaluation id d) a
fault_shown role.Quote a = shown_text role.Quote a
fault_shown (role.Move side) a = shown_text (role.Move side) a
fault_shown role.Opening a = shown_text role.Opening a
fault_shown role.Other a = shown_text role.Other a

-- why a call of a role is answered as it is, or its answer where no reason is named
unfoldable pub reason_for : Option Why → Role → Performed → List ℕ
reason_for None x p = fault_shown x p.answer
reason_for (Some y) x p = why_text y

abbrev pub reason_said : Role → Performed → List ℕ
reason_said x p = reason_for p.why x p

-- the reasons that were said; none where no reason was asked for
unfoldable pub reasons_in : Option Why → WhyReasons
reasons_in None = no_reasons
reasons_in (Some y) = y.reasons

-- what the n-th line, a call of a role, is told as, by what the desk said
unfoldable pub call_said : Telling → (n : ℕ) → Role → Performed → List ℕ
call_said Answers n x p = shown_text x p.answer
call_said Reasons n x p = reason_said x p
call_said (Messages from) n x p = pick (ltb n from) [] (broadcast_shown x p.answer (reasons_in p.why))

-- WHAT A LINE IS TOLD AS, by what the desk said and what was answered beside the table
unfoldable pub line_text : Telling → Ask → (number : ℕ) → Beside → Performed → List ℕ
line_text telling ask.Nothing n b p = []
line_text telling ask.NoCall n b p = worded telling (bad_text n)
line_text telling (ask.Call c) n b p = call_said telling n (role_of c) p
line_text telling (ask.Interest i) n b p = worded telling (interest_text b.interest)
line_text telling (ask.Bond x) n b p = worded telling (bond_text b.bond)

-- how many messages are told of what is asked for, by the number that it was answered with
unfoldable pub ask_count : Ask → Verdict → ℕ
ask_count ask.Nothing v = 0
ask_count ask.NoCall v = 0
ask_count (ask.Call c) v = count_shown (role_of c) v
ask_count (ask.Interest i) v = 0
ask_count (ask.Bond x) v = 0

-- HOW MANY MESSAGES THE n-TH LINE IS TOLD AS
unfoldable pub line_count : Telling → Ask → (number : ℕ) → Verdict → ℕ
line_count Answers a n v = 0
line_count Reasons a n v = 0
line_count (Messages from) a n v = pick (ltb n from) 0 (ask_count a v)
