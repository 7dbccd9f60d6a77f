-- What is answered to a call, by its role (`role_of`, Calls.antt): the text goes by the role, and not by the call.
use Rattle.std.specs.Prelude.{Bool, true, false, List, [], ◌∷◌, ℕ, ℤ}
use Rattle.std.specs.declared.option.Option.{Option}
use Rattle.std.specs.declared.option.Option.TheVariants.{None, Some}
use Rattle.paper.specs.declared.Admission.{Admission}
use Rattle.paper.specs.declared.Answer.{Answer}
use Rattle.paper.specs.declared.Day.{Day}
use Rattle.paper.specs.declared.Side.{Side}
use Rattle.paper.specs.Lists.{pick}
use Rattle.paper.specs.Terms.{day_of}
use Rattle.paper.specs.Verdicts.{number_of, is_done}
use Rattle.text_bytes.specs.Numbers.{answer_text}
use Rattle.text_protocol.specs.declared.Role.{Role}
use Rattle.text_protocol.specs.declared.Role.TheVariants as role
use Rattle.text_protocol.specs.Answers.{flag, record_numbers}

-- the figures that an accepted call of a role shows
unfoldable pub figures_shown : Role → Answer → List ℤ
figures_shown (role.Admission a) r = []
figures_shown (role.Evaluation id d) r = record_numbers r.rec
figures_shown role.Quote r = flag r.top ∷ flag r.bottom ∷ []
figures_shown (role.Move side) r = record_numbers r.rec
figures_shown role.Opening r = record_numbers r.rec
figures_shown role.Other r = record_numbers r.rec

-- what is answered to a call of a role: a refusal's number stands alone
unfoldable pub shown_text : Role → Answer → List ℕ
shown_text x r = answer_text (number_of r.verdict) (pick (is_done r.verdict) (figures_shown x r) [])

-- ---- what a call of a role does, as the rule of its ask says it

-- an admission
unfoldable pub admitted_as : Role → Option Admission
admitted_as (role.Admission a) = Some a
admitted_as (role.Evaluation id d) = None
admitted_as role.Quote = None
admitted_as (role.Move side) = None
admitted_as role.Opening = None
admitted_as role.Other = None

-- an evaluation: its id, its day and its rows
unfoldable pub evaluated_as : Role → (rows : List ℤ) → Option (ℕ × (Day × List ℤ))
evaluated_as (role.Admission a) rows = None
evaluated_as (role.Evaluation id d) rows = Some (id, (day_of d, rows))
evaluated_as role.Quote rows = None
evaluated_as (role.Move side) rows = None
evaluated_as role.Opening rows = None
evaluated_as role.Other rows = None

-- a move: its side
unfoldable pub moved_as : Role → Option Side
moved_as (role.Admission a) = None
moved_as (role.Evaluation id d) = None
moved_as role.Quote = None
moved_as (role.Move side) = Some side
moved_as role.Opening = None
moved_as role.Other = None

-- an opening of the evening
unfoldable pub is_opening : Role → Bool
is_opening (role.Admission a) = false
is_opening (role.Evaluation id d) = false
is_opening role.Quote = false
is_opening (role.Move side) = false
is_opening role.Opening = true
is_opening role.Other = false
