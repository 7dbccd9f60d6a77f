-- Document 01, "Numbers a member may see".
use Rattle.std.specs.Prelude.{◌≡◌, Bool, true, false, not, List, [], ◌∷◌, ℕ, eqb}
use Rattle.paper.specs.declared.Verdict.{Verdict}
use Rattle.paper.specs.declared.Verdict.TheVariants.{Done, NoSuchId, AlreadyAdmitted, NoEmptySlot}
use Rattle.paper.specs.declared.Verdict.TheVariants.{AdmissionOutOfRange, DayNotAfter, OutOfRange}
use Rattle.paper.specs.declared.Verdict.TheVariants.{PriceOutOfRange, MoveTooLarge, BandCrossed, NotLive}
use Rattle.paper.specs.declared.Verdict.TheVariants.{NotMonitored, MovesUsedUp, SecondEarlier, NotAscending}
use Rattle.paper.specs.declared.Verdict.TheVariants.{BadLine, RowCrossed, NoFaceValue, NoEveningMove}
use Rattle.paper.specs.declared.Verdict.TheVariants.{OpenedTwice, BadFloat, CutShort, WrongLength}
use Rattle.paper.specs.declared.Verdict.TheVariants.{FieldOutOfRange, NoRoom}
use Rattle.paper.specs.Lists.{pick, every}

-- the table's numbers, in its order
abbrev pub number_of : Verdict → ℕ
number_of Done = 0
number_of NoSuchId = 1
number_of AlreadyAdmitted = 2
number_of NoEmptySlot = 3
number_of AdmissionOutOfRange = 4
number_of DayNotAfter = 5
number_of OutOfRange = 6
number_of PriceOutOfRange = 7
number_of MoveTooLarge = 8
number_of BandCrossed = 9
number_of NotLive = 10
number_of NotMonitored = 11
number_of MovesUsedUp = 12
number_of SecondEarlier = 13
number_of NotAscending = 14
number_of BadLine = 15
number_of RowCrossed = 16
number_of NoFaceValue = 17
number_of NoEveningMove = 18
number_of OpenedTwice = 19
number_of BadFloat = 20
number_of CutShort = 21
number_of WrongLength = 22
number_of FieldOutOfRange = 23
number_of NoRoom = 24

unfoldable pub is_done : Verdict → Bool
is_done v = eqb (number_of v) 0

-- one holds where the other does, and nowhere else
abbrev pub Exactly : (a b : Type 0) → Type 0
Exactly a b = (a → b) × (b → a)

-- what is named, and when it applies: a number that a member may see, or a reason (W-207)
pub record Naming (A : Type 0) : Type 0 where
  pub verdict : A
  pub applies : Bool

-- a number, and when it applies
abbrev pub Check : Type 0
Check = Naming Verdict

-- whether every check names a refusal
unfoldable pub all_refusals : List Check → Bool
all_refusals cs = every (λ (c : Check). not (is_done c.verdict)) cs

-- "First that applies": what the first one names, and where none applies, what stands otherwise
abbrev pub first_named : {A : Type 0} → (otherwise : A) → List (Naming A) → A
first_named otherwise [] = otherwise
first_named otherwise (c ∷ cs) = pick c.applies c.verdict (first_named otherwise cs)

-- of the checks of a call; 0 where none applies
unfoldable pub first_of : List Check → Verdict
first_of cs = first_named Done cs

-- v is what the first that applies names: it applies, and no earlier one does
pub data FirstAt {A : Type 0} (v : A) : List (Naming A) → Type 0 where
  here : {c : Naming A} {cs : List (Naming A)} → c.verdict ≡ v → c.applies ≡ true → FirstAt v (c ∷ cs)
  later : {c : Naming A} {cs : List (Naming A)} → c.applies ≡ false → FirstAt v cs → FirstAt v (c ∷ cs)

-- none applies
pub data NoneApplies {A : Type 0} : List (Naming A) → Type 0 where
  none : NoneApplies []
  also : {c : Naming A} {cs : List (Naming A)} → c.applies ≡ false → NoneApplies cs → NoneApplies (c ∷ cs)
