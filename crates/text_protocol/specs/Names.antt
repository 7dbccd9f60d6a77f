-- docs/EVENING.md, "The calls": the word of each call, and the names of the numbers that follow it, in their order. A
-- call more is a line more of `forms`.
use Rattle.std.specs.Prelude.{◌≡◌, refl, Bool, true, false, List, [], ◌∷◌, ◌++◌, ℕ, zero, suc, ◌+◌, leb, eqb, ℤ, pos, length, get_or}
use Rattle.paper.specs.Lists.{pick}
use Rattle.paper.specs.Ranges.{statics_count}
use Rattle.text_bytes.specs.Bytes.{same}

-- a static's name is its place in the table of statics (`statics_table` of `paper`)
pub data Name : Type 0 where
  STATIC : (place : ℕ) → Name
  ID : Name
  DAY : Name
  P1 : Name
  P2 : Name
  S : Name
  TENTATIVE : Name
  B : Name
  M : Name
  K0 : Name
  RRCL0 : Name
  RRCH0 : Name
  K1 : Name
  RRCL1 : Name
  RRCH1 : Name
  K2 : Name
  RRCL2 : Name
  RRCH2 : Name
  SECOND : Name
  TERM : Name
  BID : Name
  ASK : Name
  SIDE : Name
  YM : Name
  YN : Name
  MM : Name
  SEC : Name
  XIR : Name
  MONEY : Name
  SECRATE : Name
  NET : Name
  FACE : Name
  ACCRUED : Name
  REPO : Name
  AGE : Name
  BIDBITS : Name
  ASKBITS : Name
  BITS : Name

-- a number for each name, by which names are told apart
unfoldable pub code : Name → ℕ
code ID = 0
code DAY = 1
code P1 = 2
code P2 = 3
code S = 4
code TENTATIVE = 5
code B = 6
code M = 7
code K0 = 8
code RRCL0 = 9
code RRCH0 = 10
code K1 = 11
code RRCL1 = 12
code RRCH1 = 13
code K2 = 14
code RRCL2 = 15
code RRCH2 = 16
code SECOND = 17
code TERM = 18
code BID = 19
code ASK = 20
code SIDE = 21
code YM = 22
code YN = 23
code MM = 24
code SEC = 25
code XIR = 26
code MONEY = 27
code SECRATE = 28
code NET = 29
code FACE = 30
code ACCRUED = 31
code REPO = 32
code AGE = 33
code BIDBITS = 34
code ASKBITS = 35
code BITS = 36
code (STATIC place) = 37 + place

-- the statics that other calls than an admission name too
abbrev pub H : Name
H = STATIC 1

abbrev pub Q : Name
Q = STATIC 2

abbrev pub A-UP : Name
A-UP = STATIC 3

abbrev pub A-DOWN : Name
A-DOWN = STATIC 4

abbrev pub WAIT : Name
WAIT = STATIC 5

abbrev pub RH1 : Name
RH1 = STATIC 6

abbrev pub RH2 : Name
RH2 = STATIC 7

abbrev pub RH3 : Name
RH3 = STATIC 8

abbrev pub LIQ : Name
LIQ = STATIC 9

abbrev pub MIN1 : Name
MIN1 = STATIC 10

abbrev pub MIN2 : Name
MIN2 = STATIC 11

abbrev pub MIN3 : Name
MIN3 = STATIC 12

abbrev pub SMAX : Name
SMAX = STATIC 13

abbrev pub XPR : Name
XPR = STATIC 14

abbrev pub PCHMAX : Name
PCHMAX = STATIC 16

abbrev pub PCLMAX : Name
PCLMAX = STATIC 17

abbrev pub MONITORING : Name
MONITORING = STATIC 20

abbrev pub ISEWMA : Name
ISEWMA = STATIC 21

-- ---- the calls

-- the word, the names of the numbers behind it, and whether more numbers may follow: an evaluation's rows, an
-- evening's key maturities, a bond's cash flows
pub record Form : Type 0 where
  pub word : List ℕ
  pub names : List Name
  pub more : Bool

-- what an admission gives beside the statics
unfoldable pub admission_names : List Name
admission_names = ID ∷ DAY ∷ P1 ∷ P2 ∷ S ∷ TENTATIVE ∷ []

-- so many statics from a place of the table on
abbrev pub statics_from : (place count : ℕ) → List Name
statics_from place zero = []
statics_from place (suc count) = STATIC place ∷ statics_from (suc place) count

unfoldable pub admit_names : List Name
unfolding admission_names
admit_names = admission_names ++ statics_from 0 statics_count

-- a pair of terms stands for two numbers: in place of each RRCL RRCH a pair YM/YN may stand
unfoldable pub evaluate_names : List Name
evaluate_names = ID ∷ DAY ∷ B ∷ M ∷ K0 ∷ RRCL0 ∷ RRCH0 ∷ K1 ∷ RRCL1 ∷ RRCH1 ∷ K2 ∷ RRCL2 ∷ RRCH2 ∷ []

unfoldable pub quote_names : List Name
quote_names = ID ∷ SECOND ∷ TERM ∷ BID ∷ ASK ∷ []

unfoldable pub move_names : List Name
move_names = ID ∷ SIDE ∷ []

-- a call about an id alone: a read, the opening of the evening (W-210), the withdrawal of the outside prices (W-211)
unfoldable pub id_names : List Name
id_names = ID ∷ []

-- what the outside source sends (W-211): a bid and an ask together, a notice of one side. BITS are the 64 bits of a
-- float, as a signed number
unfoldable pub outside_names : List Name
outside_names = ID ∷ BIDBITS ∷ ASKBITS ∷ []

unfoldable pub notice_names : List Name
notice_names = ID ∷ SIDE ∷ BITS ∷ []

unfoldable pub interest_names : List Name
interest_names = B ∷ YM ∷ YN ∷ A-UP ∷ A-DOWN ∷ Q ∷ H ∷ WAIT ∷ LIQ ∷ MM ∷ SEC ∷ XIR ∷ MONEY ∷ SECRATE ∷ []

-- in place of each RRCL RRCH a pair YM/YN may stand, as in an evaluation
unfoldable pub bond_names : List Name
bond_names =
    M ∷ NET ∷ FACE ∷ ACCRUED ∷ REPO ∷ S ∷ TENTATIVE ∷ AGE ∷ K0 ∷ RRCL0 ∷ RRCH0 ∷ K1 ∷ RRCL1 ∷ RRCH1 ∷ K2 ∷ RRCL2 ∷ RRCH2
    ∷ H ∷ Q ∷ WAIT ∷ RH1 ∷ RH2 ∷ RH3 ∷ LIQ ∷ MIN1 ∷ MIN2 ∷ MIN3 ∷ SMAX ∷ XPR ∷ PCHMAX ∷ PCLMAX ∷ MONITORING ∷ ISEWMA
    ∷ []

-- how many numbers stand before an admission's statics, an evaluation's row figures, an interest line's key maturities
-- and a bond's cash flows: as many as there are names
abbrev pub admission_count : ℕ
admission_count = 6

abbrev pub evaluate_count : ℕ
evaluate_count = 13

abbrev pub interest_count : ℕ
interest_count = 14

abbrev pub bond_count : ℕ
bond_count = 33

pub counts_are_of_the_names : (length admission_names ≡ admission_count)
    × (length evaluate_names ≡ evaluate_count)
    × (length interest_names ≡ interest_count)
    × (length bond_names ≡ bond_count)
unfolding admission_names evaluate_names interest_names bond_names
counts_are_of_the_names = (refl, refl, refl, refl)

-- the words, as bytes
abbrev pub admit_word : List ℕ
admit_word = 97 ∷ 100 ∷ 109 ∷ 105 ∷ 116 ∷ []  -- "admit"

abbrev pub evaluate_word : List ℕ
evaluate_word = 101 ∷ 118 ∷ 97 ∷ 108 ∷ 117 ∷ 97 ∷ 116 ∷ 101 ∷ []  -- "evaluate"

abbrev pub quote_word : List ℕ
quote_word = 113 ∷ 117 ∷ 111 ∷ 116 ∷ 101 ∷ []  -- "quote"

abbrev pub move_word : List ℕ
move_word = 109 ∷ 111 ∷ 118 ∷ 101 ∷ []  -- "move"

abbrev pub read_word : List ℕ
read_word = 114 ∷ 101 ∷ 97 ∷ 100 ∷ []  -- "read"

abbrev pub open_word : List ℕ
open_word = 111 ∷ 112 ∷ 101 ∷ 110 ∷ []  -- "open"

abbrev pub outside_word : List ℕ
outside_word = 111 ∷ 117 ∷ 116 ∷ 115 ∷ 105 ∷ 100 ∷ 101 ∷ []  -- "outside"

abbrev pub notice_word : List ℕ
notice_word = 110 ∷ 111 ∷ 116 ∷ 105 ∷ 99 ∷ 101 ∷ []  -- "notice"

abbrev pub withdraw_word : List ℕ
withdraw_word = 119 ∷ 105 ∷ 116 ∷ 104 ∷ 100 ∷ 114 ∷ 97 ∷ 119 ∷ []  -- "withdraw"

abbrev pub interest_word : List ℕ
interest_word = 105 ∷ 110 ∷ 116 ∷ 101 ∷ 114 ∷ 101 ∷ 115 ∷ 116 ∷ []  -- "interest"

abbrev pub bond_word : List ℕ
bond_word = 98 ∷ 111 ∷ 110 ∷ 100 ∷ []  -- "bond"

-- THE CALLS: the kind of a call is its place in this list, counted from 1. Who opens it opens the names too
unfoldable pub forms : List Form
unfolding admit_names evaluate_names quote_names move_names id_names outside_names notice_names interest_names bond_names
forms =
    record { word = admit_word; names = admit_names; more = false }
    ∷ record { word = evaluate_word; names = evaluate_names; more = true }
    ∷ record { word = quote_word; names = quote_names; more = false }
    ∷ record { word = move_word; names = move_names; more = false }
    ∷ record { word = read_word; names = id_names; more = false }
    ∷ record { word = open_word; names = id_names; more = false }
    ∷ record { word = outside_word; names = outside_names; more = false }
    ∷ record { word = notice_word; names = notice_names; more = false }
    ∷ record { word = withdraw_word; names = id_names; more = false }
    ∷ record { word = interest_word; names = interest_names; more = true }
    ∷ record { word = bond_word; names = bond_names; more = true }
    ∷ []

abbrev pub admit_kind : ℕ
admit_kind = 1

abbrev pub evaluate_kind : ℕ
evaluate_kind = 2

abbrev pub quote_kind : ℕ
quote_kind = 3

abbrev pub move_kind : ℕ
move_kind = 4

abbrev pub read_kind : ℕ
read_kind = 5

abbrev pub open_kind : ℕ
open_kind = 6

abbrev pub outside_kind : ℕ
outside_kind = 7

abbrev pub notice_kind : ℕ
notice_kind = 8

abbrev pub withdraw_kind : ℕ
withdraw_kind = 9

abbrev pub interest_kind : ℕ
interest_kind = 10

abbrev pub bond_kind : ℕ
bond_kind = 11

-- ---- a word's call, and a name's number

unfoldable pub kind_from : (kind : ℕ) → List Form → (word : List ℕ) → ℕ
kind_from k [] w = 0
kind_from k (f ∷ fs) w = pick (same w f.word) k (kind_from (suc k) fs w)

-- the kind of the call whose word this is, 0 where it is no call's word
unfoldable pub kind_of : (word : List ℕ) → ℕ
kind_of w = kind_from 1 forms w

unfoldable pub count_fits : Form → ℕ → Bool
count_fits f n = pick f.more (leb (length f.names) n) (eqb n (length f.names))

unfoldable pub takes_in : List Form → (place count : ℕ) → Bool
takes_in [] k n = false
takes_in (f ∷ fs) zero n = count_fits f n
takes_in (f ∷ fs) (suc k) n = takes_in fs k n

-- whether a call of the kind has so many numbers
unfoldable pub takes : (kind count : ℕ) → Bool
takes zero n = false
takes (suc k) n = takes_in forms k n

-- how many names stand before a name
unfoldable pub place_of : List Name → Name → ℕ
place_of [] x = 0
place_of (y ∷ ys) x = pick (eqb (code y) (code x)) 0 (suc (place_of ys x))

-- the number of a name: the one that stands at its place
unfoldable pub the : List Name → List ℤ → Name → ℤ
the names zs x = get_or zs (place_of names x) (pos 0)
