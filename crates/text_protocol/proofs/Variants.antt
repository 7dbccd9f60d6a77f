-- What the code asks for, said variant by variant: the call and the deed that each variant is; and the role of an ask goes
-- by the ask's rule. What is told of a call goes by its rule too, so that an ask more has its line in `role_by_rule`.
use mathlib.Core.Path.{◌≡◌, refl}
use mathlib.Core.Bool.{not}
use mathlib.Core.List.{List, [], ◌∷◌}
use Rattle.std.specs.declared.option.Option.{Option}
use Rattle.std.specs.declared.option.Option.TheVariants.{None, Some}
use Prim.Native.Nat.{ℕ}
use lib.Dec.{T}
use lib.IntN.{ℤ}
use mir.Val.{has_key}
use types.Run.{OneOf, miss}
use denote.Enum.Declared.{tag_of}
use Rattle.paper.specs.declared.Admission.{Admission}
use Rattle.paper.specs.declared.Answer.{Answer}
use Rattle.paper.specs.declared.AskedAbout.{AskedAbout}
use Rattle.paper.specs.declared.AskedAbout.TheVariants as about
use Rattle.paper.specs.declared.Day.{Day}
use Rattle.paper.specs.declared.Interest.{Interest}
use Rattle.paper.specs.contracts.AskedAbout as X
use Rattle.paper_bonds.specs.declared.Bond.{Bond}
use Rattle.paper_desk.specs.Desk.{ask_of, rule_of, admit, about as asks}
use Rattle.text_protocol.specs.declared.AskedCall.{AskedCall}
use Rattle.text_protocol.specs.declared.AskedCall.TheVariants as asked
use Rattle.text_protocol.specs.declared.Ask.TheVariants as ask
use Rattle.text_protocol.specs.declared.Role.TheVariants as role
use Rattle.text_protocol.specs.Answers.{reply_numbers, figures_answered, call_text}
use Rattle.text_protocol.specs.Calls.{nothing, no_call, call, interest, bond, figures_behind, call_asked, role_about}
use Rattle.text_protocol.specs.Calls.{role_of, deed_asked}
use Rattle.text_protocol.specs.Names.{evaluate_names, interest_names, bond_names}
use Rattle.text_protocol.specs.Roles.{figures_shown, shown_text, admitted_as, evaluated_as, moved_as}

-- ---- the calls and the deeds

-- an admission, or an ask about an id with the rows
pub variants_are_calls : (a : Admission) (id : ℕ) (x : AskedAbout) (rows : List ℤ)
    → (call_asked (asked.Admit a) rows ≡ admit a)
    × (call_asked (asked.About id x) rows ≡ asks id (ask_of x rows))
unfolding call_asked
variants_are_calls a id x rows = (refl, refl)

-- each variant is its deed, with the figures behind the numbers that have names
pub variants_are_deeds : (c : AskedCall) (i : Interest) (b : Bond) (zs : List ℤ)
    → (deed_asked ask.Nothing zs ≡ nothing)
    × (deed_asked ask.NoCall zs ≡ no_call)
    × (deed_asked (ask.Call c) zs ≡ call (call_asked c (figures_behind evaluate_names zs)))
    × (deed_asked (ask.Interest i) zs ≡ interest i (figures_behind interest_names zs))
    × (deed_asked (ask.Bond b) zs ≡ bond b (figures_behind bond_names zs))
unfolding deed_asked
variants_are_deeds c i b zs = (refl, refl, refl, refl, refl)

-- ---- the roles

-- what is evaluated of the security with an id
abbrev pub of_id : (id : ℕ) → Option (Day × List ℤ) → Option (ℕ × (Day × List ℤ))
of_id id None = None
of_id id (Some dayAndRows) = Some (id, dayAndRows)

-- the asks that have no role of their own, by their places in `AskedAbout`: a read, a receipt and a notice
abbrev pub other_roles : List ℕ
other_roles = 3 ∷ 5 ∷ 6 ∷ []

-- the role of an ask shows, admits, evaluates and moves what the ask's rule does; and of the asks that have no role of
-- their own it is `Other`
pub record ByRule (id : ℕ) (x : AskedAbout) (rows : List ℤ) : Type 0 where
  pub shows : (a : Answer) → figures_shown (role_about id x) a ≡ reply_numbers (rule_of (ask_of x rows)).reply a
  pub admits : admitted_as (role_about id x) ≡ None
  pub evaluates : evaluated_as (role_about id x) rows ≡ of_id id (rule_of (ask_of x rows)).evaluates
  pub moves : moved_as (role_about id x) ≡ (rule_of (ask_of x rows)).moves
  pub other : OneOf other_roles (tag_of X.the_type x) → role.Other ≡ role_about id x

-- an ask with a role of its own is none of the others
not_other : (n : ℕ) → T (not (has_key other_roles n)) → OneOf other_roles n → ⊥
not_other n own h = miss other_roles n own h

-- THE ROLE OF AN ASK GOES BY ITS RULE
pub role_by_rule : (id : ℕ) (x : AskedAbout) (rows : List ℤ) → ByRule id x rows
unfolding role_about ask_of figures_shown admitted_as evaluated_as moved_as
role_by_rule id (about.Evaluate d) rows =
    record { shows = λ a. refl; admits = refl; evaluates = refl; moves = refl; other = λ h. absurd (not_other 0 tt h) }
role_by_rule id (about.Quote q) rows =
    record { shows = λ a. refl; admits = refl; evaluates = refl; moves = refl; other = λ h. absurd (not_other 1 tt h) }
role_by_rule id (about.Move side) rows =
    record { shows = λ a. refl; admits = refl; evaluates = refl; moves = refl; other = λ h. absurd (not_other 2 tt h) }
role_by_rule id about.Read rows =
    record { shows = λ a. refl; admits = refl; evaluates = refl; moves = refl; other = λ h. refl }
role_by_rule id about.Open rows =
    record { shows = λ a. refl; admits = refl; evaluates = refl; moves = refl; other = λ h. absurd (not_other 4 tt h) }
role_by_rule id (about.Receive sent) rows =
    record { shows = λ a. refl; admits = refl; evaluates = refl; moves = refl; other = λ h. refl }
role_by_rule id (about.Notify n) rows =
    record { shows = λ a. refl; admits = refl; evaluates = refl; moves = refl; other = λ h. refl }

-- ---- what follows for every ask

-- the last arm of a match on an ask: it is for all that have no role of their own
pub last_arm : (id : ℕ) (x : AskedAbout) → OneOf other_roles (tag_of X.the_type x) → role.Other ≡ role_about id x
last_arm id x h = (role_by_rule id x []).other h

-- A CALL IS ANSWERED BY ITS ROLE
shown_figures : (c : AskedCall) (rows : List ℤ) (a : Answer)
    → figures_shown (role_of c) a ≡ figures_answered (call_asked c rows) a
unfolding call_asked role_of figures_shown figures_answered
shown_figures (asked.Admit g) rows a = refl
shown_figures (asked.About id x) rows a = (role_by_rule id x rows).shows a

pub shown_by_role : (c : AskedCall) (rows : List ℤ) (a : Answer)
    → shown_text (role_of c) a ≡ call_text (call_asked c rows) a
unfolding shown_text call_text
shown_by_role c rows a = rw (shown_figures c rows a)
