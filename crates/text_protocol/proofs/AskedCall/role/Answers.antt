-- `text_protocol::AskedCall::role` meets its contract: an admission's and each role that an ask has of its own by the
-- variant that its arm knows, every other since its arm knows that it is none of these.
use Rattle.std.proofs.Common.{◌≡◌, ℕ, refl}
use Rattle.paper.specs.declared.AskedAbout.{AskedAbout}
use Rattle.paper.specs.declared.AskedAbout.TheVariants as about
use Rattle.paper.specs.declared.AskedDay.{AskedDay}
use Rattle.paper.specs.declared.Quote.{Quote}
use Rattle.text_protocol.specs.declared.Role.TheVariants as role
use Rattle.text_protocol.specs.Calls.{role_about, role_of}
use Rattle.text_protocol.proofs.AskedCall.role.Goals as goal

-- the last arm is for all that have no role of their own
last_of : (id : ℕ) (x : AskedAbout) → ((d : AskedDay) → x ≡ about.Evaluate d → ⊥) → ((q : Quote) → x ≡ about.Quote q → ⊥)
    → ((side : ℕ) → x ≡ about.Move side → ⊥) → (x ≡ about.Open → ⊥) → role.Other ≡ role_about id x
unfolding role_about
last_of id (about.Evaluate d) evaluate quote move opened = absurd (evaluate d refl)
last_of id (about.Quote q) evaluate quote move opened = absurd (quote q refl)
last_of id (about.Move side) evaluate quote move opened = absurd (move side refl)
last_of id about.Open evaluate quote move opened = absurd (opened refl)
last_of id about.Read evaluate quote move opened = refl
last_of id (about.Receive sent) evaluate quote move opened = refl
last_of id (about.Notify n) evaluate quote move opened = refl

pub returns-in-Admit : goal.returns-in-Admit
unfolding role_of
returns-in-Admit c = rw c.in-Admit.is

pub returns-in-Evaluate : goal.returns-in-Evaluate
unfolding role_of role_about
returns-in-Evaluate c = rw (c.in-About.is, c.in-Evaluate.is)

pub returns-in-Quote : goal.returns-in-Quote
unfolding role_of role_about
returns-in-Quote c = rw (c.in-About.is, c.in-Quote.is)

pub returns-in-Move : goal.returns-in-Move
unfolding role_of role_about
returns-in-Move c = rw (c.in-About.is, c.in-Move.is, c.from.ensures)

pub returns-in-Open : goal.returns-in-Open
unfolding role_of role_about
returns-in-Open c = rw (c.in-About.is, c.in-Open.is)

pub returns-in_default : goal.returns-in_default
unfolding role_of
returns-in_default c =
    rw c.in-About.is
    (last_of c.in-About.id c.in-About.x c.in_default.not-Evaluate c.in_default.not-Quote c.in_default.not-Move
    c.in_default.not-Open)
