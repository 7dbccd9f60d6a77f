-- docs/JOURNAL.md, "Pruning": which lines of a journal no longer matter. It is decided from the text of the lines and
-- the rules, never from a table. The lines of a journal are accepted, each in its turn: a line that evaluates a security
-- is an accepted evaluation of it.
use Rattle.std.specs.Prelude.{Bool, true, false, not, ◌&&◌, ◌||◌, List, [], ◌∷◌, ℕ, zero, suc, eqb, ℤ}
use Rattle.paper.specs.declared.Notice.TheVariants.{Bid, Ask as AskNotice, Withdrawal}
use Rattle.paper.specs.Lists.{pick}
use Rattle.paper_desk.specs.Desk.{Ask, evaluating, quoting, moving, reading, opening, receiving, admit, about}
use Rattle.paper_desk.specs.External.{Receipt, together, notice}
use Rattle.text_bytes.specs.Bytes.{same}
use Rattle.text_protocol.specs.Kept.{none_kept}
use Rattle.text_protocol.specs.Names.{Name, RRCL0, RRCH0, RRCL1, RRCH1, RRCL2, RRCH2, evaluate_names}
use Rattle.text_protocol.specs.Line.{Said, Nothing, NoCall, Call as saysCall, meaning}
use Rattle.text_protocol.specs.Calls.{Deed, nothing, no_call, call, interest, bond, deed_of, unsigned_of}
use Rattle.journal_protocol.specs.Lines.{closed_line}

-- ---- what a line is to pruning

pub data Part : Type 0 where
  evaluates : (id : ℕ) → Part
  -- a quote, a move or an opening of the evening: what it writes, an evaluation writes anew
  watches : (id : ℕ) → Part
  receives : (id : ℕ) → Receipt → Part
  -- an interest line of a pair of terms
  works : (ym yn : ℕ) → Part
  other : Part

unfoldable pub ask_part : (id : ℕ) → Ask → Part
ask_part id (evaluating d rows) = evaluates id
ask_part id (quoting q) = watches id
ask_part id (moving side) = watches id
ask_part id reading = other
ask_part id opening = watches id
ask_part id (receiving x) = receives id x

unfoldable pub deed_part : Deed → Part
deed_part nothing = other
deed_part no_call = other
deed_part (call (admit a)) = other
deed_part (call (about id x)) = ask_part id x
deed_part (interest i keys) = works i.ym i.yn
deed_part (bond b flows) = other

-- what is kept of interest lines changes the days of evaluations alone, and no part
unfoldable pub part_of : (line : List ℕ) → Part
part_of l = deed_part (deed_of none_kept (meaning l))

-- ---- quotes, moves and openings: before the last evaluation of their security

unfoldable pub is_evaluation : (id : ℕ) → Part → Bool
is_evaluation id (evaluates i) = eqb i id
is_evaluation id (watches i) = false
is_evaluation id (receives i x) = false
is_evaluation id (works ym yn) = false
is_evaluation id other = false

-- whether lines evaluate a security
unfoldable pub evaluated_in : (id : ℕ) → (lines : List (List ℕ)) → Bool
evaluated_in id [] = false
evaluated_in id (l ∷ ls) = is_evaluation id (part_of l) || evaluated_in id ls

-- ---- outside prices: replaced before the next evaluation of their security

-- the sides that a receipt writes
unfoldable pub writes_bid : Receipt → Bool
writes_bid (together sent) = true
writes_bid (notice (Bid bid)) = true
writes_bid (notice (AskNotice ask)) = false
writes_bid (notice Withdrawal) = true

unfoldable pub writes_ask : Receipt → Bool
writes_ask (together sent) = true
writes_ask (notice (Bid bid)) = false
writes_ask (notice (AskNotice ask)) = true
writes_ask (notice Withdrawal) = true

unfoldable pub replaced_by : (writes : Receipt → Bool) → (id : ℕ) → Part → (later : Bool) → Bool
replaced_by writes id (evaluates i) later = not (eqb i id) && later
replaced_by writes id (watches i) later = later
replaced_by writes id (receives i x) later = (eqb i id && writes x) || later
replaced_by writes id (works ym yn) later = later
replaced_by writes id other later = later

-- whether lines write a side of the pair of a security before they evaluate it
unfoldable pub replaced_in : (writes : Receipt → Bool) → (id : ℕ) → (lines : List (List ℕ)) → Bool
replaced_in writes id [] = false
replaced_in writes id (l ∷ ls) = replaced_by writes id (part_of l) (replaced_in writes id ls)

-- a side that is written at all has to be replaced
abbrev pub side_replaced : (writes : Receipt → Bool) → (id : ℕ) → Receipt → (behind : List (List ℕ)) → Bool
side_replaced writes id x ls = not (writes x) || replaced_in writes id ls

-- ---- interest lines: taken by no evaluation, and not among the last three

-- whether the line of an evaluation names a pair of terms in one of its three terms
abbrev pub names_pair : (zs : List ℤ) → (pair : Bool) → (low high : Name) → (ym yn : ℕ) → Bool
names_pair zs pair low high ym yn =
    pair && (eqb (unsigned_of evaluate_names zs low) ym && eqb (unsigned_of evaluate_names zs high) yn)

unfoldable pub takes : Said → (ym yn : ℕ) → Bool
takes Nothing ym yn = false
takes NoCall ym yn = false
takes (saysCall kind zs p) ym yn =
    names_pair zs p.first RRCL0 RRCH0 ym yn
    || (names_pair zs p.second RRCL1 RRCH1 ym yn || names_pair zs p.third RRCL2 RRCH2 ym yn)

-- what is kept for n further interest lines, when one comes: for one fewer, or no longer
unfoldable pub outlives : (n : ℕ) → (later : ℕ → Bool) → Bool
outlives zero later = false
outlives (suc n) later = later n

-- an evaluation takes the newest answer of a pair among those of the three latest interest lines
unfoldable pub taken_by : (ym yn : ℕ) → Said → Part → (n : ℕ) → (later : ℕ → Bool) → Bool
taken_by ym yn said (evaluates i) n later = takes said ym yn || later n
taken_by ym yn said (watches i) n later = later n
taken_by ym yn said (receives i x) n later = later n
taken_by ym yn said (works m k) n later = not (eqb m ym && eqb k yn) && outlives n later
taken_by ym yn said other n later = later n

-- whether an evaluation among lines takes the answer of a pair that is kept for n further interest lines
unfoldable pub taken_in : (ym yn : ℕ) → (n : ℕ) → (lines : List (List ℕ)) → Bool
taken_in ym yn n [] = false
taken_in ym yn n (l ∷ ls) = taken_by ym yn (meaning l) (part_of l) n (λ m. taken_in ym yn m ls)

unfoldable pub kept_by : Part → (n : ℕ) → (later : ℕ → Bool) → Bool
kept_by (evaluates i) n later = later n
kept_by (watches i) n later = later n
kept_by (receives i x) n later = later n
kept_by (works ym yn) n later = outlives n later
kept_by other n later = later n

-- whether an answer that is kept for n further interest lines is still kept behind lines
unfoldable pub kept_through : (n : ℕ) → (lines : List (List ℕ)) → Bool
kept_through n [] = true
kept_through n (l ∷ ls) = kept_by (part_of l) n (λ m. kept_through m ls)

-- the newest of three answers is kept for two further interest lines
abbrev pub newest : ℕ
newest = 2

-- ---- which line may be left out

-- a line of a part, in front of lines
unfoldable pub part_matters : Part → (behind : List (List ℕ)) → Bool
part_matters (evaluates id) ls = true
part_matters (watches id) ls = not (evaluated_in id ls)
part_matters (receives id x) ls = not (side_replaced writes_bid id x ls && side_replaced writes_ask id x ls)
part_matters (works ym yn) ls = taken_in ym yn newest ls || kept_through newest ls
part_matters other ls = true

-- the close of an evening says nothing: it matters where it is the last line, and so tells that the journal was closed
abbrev pub is_last : (behind : List (List ℕ)) → Bool
is_last [] = true
is_last (l ∷ ls) = false

-- WHETHER A LINE MATTERS, in front of lines
unfoldable pub matters : (line : List ℕ) → (behind : List (List ℕ)) → Bool
matters l ls = pick (same l closed_line) (is_last ls) (part_matters (part_of l) ls)

-- THE LINES THAT MATTER, in their order: all others may be pruned
unfoldable pub pruned : (lines : List (List ℕ)) → List (List ℕ)
pruned [] = []
pruned (l ∷ ls) = pick (matters l ls) (l ∷ pruned ls) (pruned ls)
