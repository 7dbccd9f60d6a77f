-- docs/EVENING.md, "Lines and words": the evening's text is bytes; a line feed ends a line, and blanks part the
-- words of a line.
use Rattle.std.specs.Prelude.{Bool, true, false, ◌||◌, not, List, [], ◌∷◌, ℕ, suc, eqb}
use Prim.Native.Char.{code}
use Prim.Native.String.{String}
use Prim.Native.String.{[] as noText, ◌∷◌ as letter}
use Rattle.paper.specs.Lists.{pick}

-- ---- the bytes that have a meaning of their own

-- the bytes of each buffer: of what is read, and of the answers that wait
abbrev pub room : ℕ
room = 65536

abbrev pub tab : ℕ
tab = 9

abbrev pub line_feed : ℕ
line_feed = 10

abbrev pub carriage_return : ℕ
carriage_return = 13

abbrev pub space : ℕ
space = 32

abbrev pub minus_sign : ℕ
minus_sign = 45

abbrev pub slash : ℕ
slash = 47

abbrev pub digit_zero : ℕ
digit_zero = 48

abbrev pub digit_nine : ℕ
digit_nine = 57

-- a blank is a space, a tab or a carriage return
unfoldable pub is_blank : ℕ → Bool
is_blank b = eqb b space || (eqb b tab || eqb b carriage_return)

unfoldable pub is_line_feed : ℕ → Bool
is_line_feed b = eqb b line_feed

-- any other byte than c
unfoldable pub is_not : (c b : ℕ) → Bool
is_not c b = not (eqb b c)

-- how many bytes in front pass a test
unfoldable pub run : (passes : ℕ → Bool) → (text : List ℕ) → ℕ
run passes [] = 0
run passes (b ∷ t) = pick (passes b) (suc (run passes t)) 0

-- ---- the pieces of a text between the bytes that part it

-- a byte more in front of the first piece
unfoldable pub grow : (b : ℕ) → List (List ℕ) → List (List ℕ)
grow b [] = []
grow b (p ∷ ps) = (b ∷ p) ∷ ps

-- the pieces, empty ones too: there is one more than there are bytes that part
unfoldable pub pieces : (parts : ℕ → Bool) → (text : List ℕ) → List (List ℕ)
pieces parts [] = [] ∷ []
pieces parts (b ∷ t) = pick (parts b) ([] ∷ pieces parts t) (grow b (pieces parts t))

-- those that are not empty
unfoldable pub full : List (List ℕ) → List (List ℕ)
full [] = []
full ([] ∷ ps) = full ps
full ((b ∷ p) ∷ ps) = (b ∷ p) ∷ full ps

-- THE WORDS OF A LINE: the pieces between its blanks that are not empty
unfoldable pub words : List ℕ → List (List ℕ)
words l = full (pieces is_blank l)

-- what is behind the last line feed is a line too, unless it is empty
unfoldable pub ended : List (List ℕ) → List (List ℕ)
ended [] = []
ended ([] ∷ []) = []
ended ((b ∷ p) ∷ []) = (b ∷ p) ∷ []
ended (p ∷ q ∷ ps) = p ∷ ended (q ∷ ps)

-- THE LINES OF A TEXT
unfoldable pub lines : List ℕ → List (List ℕ)
lines t = ended (pieces is_line_feed t)

-- whether two words are the same, byte by byte
unfoldable pub same : List ℕ → List ℕ → Bool
same [] [] = true
same [] (c ∷ u) = false
same (b ∷ t) [] = false
same (b ∷ t) (c ∷ u) = pick (eqb b c) (same t u) false

-- the bytes of a text whose characters are one byte each
unfoldable pub bytes : String → List ℕ
bytes noText = []
bytes (letter c s) = code c ∷ bytes s
