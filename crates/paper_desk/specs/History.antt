-- What happened to one security in a sequence of calls on a fresh table.
use Rattle.std.specs.Prelude.{◌≡◌, Bool, true, false, ◌&&◌, List, [], ◌∷◌, ℕ, suc, eqb, ℤ, length}
use Rattle.std.specs.declared.option.Option.{Option}
use Rattle.std.specs.declared.option.Option.TheVariants.{None, Some}
use Rattle.paper.specs.declared.Record.{Record}
use Rattle.paper.specs.declared.Admission.{Admission}
use Rattle.paper.specs.declared.Day.{Day}
use Rattle.paper.specs.Lists.{pick}
use Rattle.paper.specs.Ranges.{valid_slots}
use Rattle.paper.specs.Verdicts.{is_done}
use Rattle.paper_desk.specs.Desk.{Ask, Call, admit, about, id_of, rule_of, step, fresh}

-- "1 to 512 slots" and "A fresh table has every slot empty."
pub record FreshTable (t : List Record) : Type 0 where
  pub slots : valid_slots (length t) ≡ true
  pub empty : fresh t ≡ true

-- ---- the history of a security, from the calls and their numbers alone

-- not admitted, or admitted so, with what was asked about it and accepted since, the latest first
pub data History : Type 0 where
  unknown : History
  since : Admission → List Ask → History

unfoldable pub longer : History → Ask → History
longer unknown x = unknown
longer (since a xs) x = since a (x ∷ xs)

-- whether a call is about the id, and the table accepts it
unfoldable pub counts : (id : ℕ) → Call → List Record → Bool
counts id c t = is_done (step c t).answer.verdict && eqb (id_of c) id

-- the history of one id after one more call on a table: its accepted calls are noted
unfoldable pub noted : (id : ℕ) → Call → List Record → History → History
noted id (admit a) t h = pick (counts id (admit a) t) (since a []) h
noted id (about i x) t h = pick (counts id (about i x) t) (longer h x) h

-- the history of one id after a sequence of calls more
unfoldable pub history : (id : ℕ) → List Call → List Record → History → History
history id [] t h = h
history id (c ∷ cs) t h = history id cs (step c t).table (noted id c t h)

-- the history of one id in a sequence of calls on a table, from the first of them on
abbrev pub history_of : (id : ℕ) → List Call → List Record → History
history_of id cs t = history id cs t unknown

unfoldable pub was_admitted : History → Bool
was_admitted unknown = false
was_admitted (since a xs) = true

abbrev pub is_admission : Call → Bool
is_admission (admit a) = true
is_admission (about id x) = false

-- ---- the evaluations among what was asked

abbrev pub is_one : Option (Day × List ℤ) → Bool
is_one None = false
is_one (Some dayAndRows) = true

abbrev pub is_evaluation : Ask → Bool
is_evaluation x = is_one (rule_of x).evaluates

-- the number of accepted evaluations
unfoldable pub evaluations : List Ask → ℕ
evaluations [] = 0
evaluations (x ∷ xs) = pick (is_evaluation x) (suc (evaluations xs)) (evaluations xs)
