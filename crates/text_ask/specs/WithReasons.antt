-- What the desk says to what a line asks for: what its call answers, and why, where that is asked for.
use Rattle.std.specs.Prelude.{◌≡◌, Bool, true, List, ℕ, ℤ}
use Rattle.paper.specs.declared.Record.{Record}
use Rattle.paper.specs.declared.Answer.{Answer}
use Rattle.paper.specs.declared.Verdict.TheVariants as verdict
use Rattle.paper.specs.Terms.{day_of}
use Rattle.paper_desk.specs.Desk.{ask_of, admit, saying}
use Rattle.paper_reasons.specs.declared.Why.{Why}
use Rattle.paper_reasons.specs.Why.{why_on}
use Rattle.desk.specs.Promises.{Promised}
use Rattle.desk.specs.Guesses.{DoneAt}
use Rattle.text_protocol.specs.declared.AskedCall.{AskedCall}
use Rattle.text_protocol.specs.declared.AskedCall.TheVariants as call
use Rattle.text_protocol.specs.declared.Role.{Role}
use Rattle.text_protocol.specs.declared.Role.TheVariants as role
use Rattle.text_protocol.specs.declared.Ask.{Ask}
use Rattle.text_protocol.specs.declared.Ask.TheVariants as ask
use Rattle.std.specs.declared.option.Option.{Option}
use Rattle.std.specs.declared.option.Option.TheVariants.{None, Some}
use Rattle.text_protocol.specs.declared.Performed.{Performed}
use Rattle.text_protocol.specs.Calls.{call_asked, role_of}

-- what stands for an answer where the desk was asked nothing
abbrev pub unasked : Performed
unasked = record { answer = saying verdict.Done; why = None }

-- why: only an evaluation has reasons. They are those of the table before it
unfoldable pub explanation : Role → (rows : List ℤ) → List Record → Option Why
explanation (role.Admission g) rows t = None
explanation (role.Evaluation id d) rows t = Some (why_on t id (day_of d) rows)
explanation role.Quote rows t = None
explanation (role.Move side) rows t = None
explanation role.Opening rows t = None
explanation role.Other rows t = None

-- the id of the security that is asked about; 0 where none is
abbrev pub id_asked : Ask → ℕ
id_asked ask.Nothing = 0
id_asked ask.NoCall = 0
id_asked (ask.Call (call.Admit a)) = 0
id_asked (ask.Call (call.About id x)) = id
id_asked (ask.Interest i) = 0
id_asked (ask.Bond b) = 0

-- what the desk says to a call, with the row figures, from the table t to the table t', where Done says what it answers
-- and stores
pub record Performs (Done : Answer → List Record → Type 0) (asked : Bool) (c : AskedCall) (rows : List ℤ)
    (t : List Record) (r : Performed) (t' : List Record) : Type 0 where
  pub promised : Done r.answer t'
  pub why : asked ≡ true → r.why ≡ explanation (role_of c) rows t

-- WHAT THE DESK SAYS to what a line asks for: it performs the call, and leaves the table where none is asked for
unfoldable pub Asks : (asked : Bool) → Ask → (rows : List ℤ) → List Record → Performed → List Record → Type 0
Asks asked ask.Nothing rows t r t' = t' ≡ t
Asks asked ask.NoCall rows t r t' = t' ≡ t
Asks asked (ask.Call c) rows t r t' = Performs (Promised (call_asked c rows) t) asked c rows t r t'
Asks asked (ask.Interest i) rows t r t' = t' ≡ t
Asks asked (ask.Bond b) rows t r t' = t' ≡ t

-- ---- at a place

-- what a call answers and stores, where the security that it asks about is the one at a place
unfoldable pub DoneOf : (at : ℕ) → AskedCall → (rows : List ℤ) → List Record → Answer → List Record → Type 0
DoneOf at (call.Admit a) rows t r t' = Promised (admit a) t r t'
DoneOf at (call.About id x) rows t r t' = DoneAt at (ask_of x rows) t r t'

-- what the desk says to what a line asks for, where the security that it asks about is the one at a place
unfoldable pub AsksAt : (at : ℕ) (asked : Bool) → Ask → (rows : List ℤ) → List Record → Performed → List Record
    → Type 0
AsksAt at asked ask.Nothing rows t r t' = t' ≡ t
AsksAt at asked ask.NoCall rows t r t' = t' ≡ t
AsksAt at asked (ask.Call c) rows t r t' = Performs (DoneOf at c rows t) asked c rows t r t'
AsksAt at asked (ask.Interest i) rows t r t' = t' ≡ t
AsksAt at asked (ask.Bond b) rows t r t' = t' ≡ t
