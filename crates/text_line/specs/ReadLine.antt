-- What the code's answer and the lent numbers say of a line.
use Rattle.std.specs.Prelude.{◌≡◌, List, ℕ, ◌+◌, ◌*◌, ◌≤◌, eqb, ℤ, Option, None, Some}
use Rattle.paper.specs.Lists.{pick}
use Rattle.text_protocol.specs.declared.Pairs.{Pairs}
use Rattle.text_protocol.specs.declared.CallKind.{CallKind}
use Rattle.text_protocol.specs.declared.CallKind.TheVariants as kind
use Rattle.text_protocol.specs.Names.{RRCL0, RRCL1, RRCL2, admit_word, evaluate_word, quote_word, move_word, read_word}
use Rattle.text_protocol.specs.Names.{open_word, outside_word, notice_word, withdraw_word, interest_word, bond_word}
use Rattle.text_protocol.specs.Kinds.{kind_number}
use Rattle.text_protocol.specs.Line.{Said, Nothing, NoCall, Call, Reading, read, spoilt, place_in}
use Rattle.text_line.specs.declared.Line.{Line}
use Rattle.text_line.specs.declared.Line.TheVariants as line

-- a call's word
abbrev pub word_of : CallKind → List ℕ
word_of kind.Admit = admit_word
word_of kind.Evaluate = evaluate_word
word_of kind.Quote = quote_word
word_of kind.Move = move_word
word_of kind.Read = read_word
word_of kind.Open = open_word
word_of kind.Outside = outside_word
word_of kind.Notice = notice_word
word_of kind.Withdraw = withdraw_word
word_of kind.Interest = interest_word
word_of kind.Bond = bond_word

-- behind the kinds of the calls, that of a line that says nothing, and that of one that is no call
abbrev pub blank_kind : ℕ
blank_kind = 100

abbrev pub bad_kind : ℕ
bad_kind = 101

-- what a line of a kind says, with its numbers and pairs
abbrev pub said_as : (kind : ℕ) → (numbers : List ℤ) → Pairs → Said
said_as k zs p = pick (eqb k blank_kind) Nothing (pick (eqb k bad_kind) NoCall (Call k zs p))

-- what a line says, with its numbers
abbrev pub said : Line → (numbers : List ℤ) → Said
said line.Blank zs = Nothing
said line.Bad zs = NoCall
said (line.Call kind p) zs = Call (kind_number kind) zs p

-- the numbers K RRCL RRCH of a term
abbrev pub term_numbers : ℕ
term_numbers = 3

-- the place of the first RRCL of a bond, the farthest
abbrev pub bond_low : ℕ
bond_low = 9

-- where the RRCL of each term stands in a call with terms: the first at a place, each other behind a term's numbers
pub record LowsAt (k at : ℕ) : Type 0 where
  pub first : at ≡ place_in k RRCL0
  pub second : at + term_numbers ≡ place_in k RRCL1
  pub third : at + 2 * term_numbers ≡ place_in k RRCL2
  pub small : at ≤ bond_low

-- what is read with a word more
abbrev pub reading_of : Option Pairs → List ℤ → Reading
reading_of None zs = spoilt
reading_of (Some p) zs = read zs p
