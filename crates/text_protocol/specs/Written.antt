-- docs/EVENING.md, "Which line is which call", as a relation: which bytes are a call, said by how they are put
-- together and not by how they are read. `says_reads` and `reads_says` (proofs/Reading.antt) prove that it and
-- `meaning` agree.
use Rattle.std.specs.Prelude.{◌≡◌, true, List, [], ◌∷◌, ◌++◌, ℕ, suc, ◌≤◌, ℤ, length}
use Rattle.text_protocol.specs.declared.Pairs.{Pairs}
use Rattle.text_bytes.specs.Bytes.{is_blank, slash}
use Rattle.text_bytes.specs.Spells.{Blanks, Spells}
use Rattle.text_protocol.specs.Names.{Form, forms, takes}
use Rattle.text_protocol.specs.Line.{no_pairs, pair_fits, with_pair, more, heading_sign, longest}

-- w is the word of the call that has the place k in a table of calls, where the first has the place n
pub data WordFrom : (n : ℕ) → List Form → (w : List ℕ) → (k : ℕ) → Type 0 where
  here : {n : ℕ} {f : Form} {fs : List Form} → WordFrom n (f ∷ fs) f.word n
  behind : {n : ℕ} {f : Form} {fs : List Form} {w : List ℕ} {k : ℕ} → WordFrom (suc n) fs w k → WordFrom n (f ∷ fs) w k

-- THE WORD OF A CALL of kind k
abbrev pub CallWord : List ℕ → ℕ → Type 0
CallWord w k = WordFrom 1 forms w k

-- Behind the word of a call of kind k, where the numbers ys are read with the pairs q: each number or pair stands
-- behind a blank or more, blanks may end the line, and then zs are read with the pairs p
pub data Numbers (k : ℕ) : List ℤ → Pairs → List ℕ → List ℤ → Pairs → Type 0 where
  done : {ys : List ℤ} {q : Pairs} {t : List ℕ} → Blanks t → Numbers k ys q t ys q
  one : {ys : List ℤ} {q : Pairs} {b : ℕ} {t w rest : List ℕ} {z : ℤ} {zs : List ℤ} {p : Pairs} → is_blank b ≡ true
      → Blanks t → Spells w z → Numbers k (more ys z) q rest zs p
      → Numbers k ys q (b ∷ (t ++ (w ++ rest))) zs p
  two : {ys : List ℤ} {q : Pairs} {b : ℕ} {t v w rest : List ℕ} {m n : ℤ} {zs : List ℤ} {p : Pairs} → is_blank b ≡ true
      → Blanks t → Spells v m → Spells w n → pair_fits k (length ys) ≡ true
      → Numbers k (more (more ys m) n) (with_pair k (length ys) q) rest zs p
      → Numbers k ys q (b ∷ (t ++ ((v ++ slash ∷ w) ++ rest))) zs p

-- A LINE THAT IS A CALL of kind k with the numbers zs, and with pairs in the terms p
pub data Says : List ℕ → ℕ → List ℤ → Pairs → Type 0 where
  says : {t w rest : List ℕ} {k : ℕ} {zs : List ℤ} {p : Pairs} → Blanks t → CallWord w k
      → Numbers k [] no_pairs rest zs p
      → takes k (length zs) ≡ true → length (t ++ (w ++ rest)) ≤ longest → Says (t ++ (w ++ rest)) k zs p

-- A LINE THAT SAYS NOTHING: blanks, or a heading, which has a `#` behind blanks or none, and then whatever it likes
pub data Silent : List ℕ → Type 0 where
  blanks : {t : List ℕ} → Blanks t → length t ≤ longest → Silent t
  heading : {t : List ℕ} (rest : List ℕ) → Blanks t → length (t ++ heading_sign ∷ rest) ≤ longest
      → Silent (t ++ heading_sign ∷ rest)
