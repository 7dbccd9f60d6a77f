-- What is silent means nothing, and what means nothing is silent: blanks, or a heading.
use mathlib.Core.Path.{◌≡◌, refl, ap, ◌∙◌}
use mathlib.Core.Bool.{Bool, true, false}
use mathlib.Core.List.{List, [], ◌∷◌, ◌++◌}
use Prim.Native.Nat.{ℕ, ◌≤◌, ◌<◌}
use lib.Dec.{leb, eqb}
use lib.IntN.{ℤ}
use lib.ListN.{length}
use borrow.Author.Tests.{leb-true, lt-leb, eqb-true}
use Rattle.paper.specs.Lists.{pick}
use Rattle.text_protocol.specs.declared.Pairs.{Pairs}
use Rattle.text_bytes.specs.Bytes.{is_blank, grow, pieces, full, words}
use Rattle.text_protocol.specs.Names.{kind_of, takes}
use Rattle.text_protocol.specs.Line.{Nothing, NoCall, Call, Reading, read, spoilt, no_pairs, item_of, taking}
use Rattle.text_protocol.specs.Line.{on_with, finished, fill, heading_sign, is_heading, called, longest, meaning}
use Rattle.text_protocol.specs.Written.{Says, Silent, blanks, heading}
use Rattle.text_bytes.proofs.Words.{Split, last, word, SplitOf, split, split_words, words_none, words_blanks}
use Rattle.text_bytes.proofs.Spelling.{impossible}
use Rattle.text_protocol.proofs.Reading.{short_line_is_called, says_reads}

-- ---- what is silent means nothing

-- the first word of what begins with a `#` does too, however far it goes
heading_called : (rest : List ℕ) → called (words (heading_sign ∷ rest)) ≡ Nothing
unfolding words pieces is_blank full grow called is_heading
heading_called rest = go (pieces is_blank rest)
  where
    go : (ps : List (List ℕ)) → called (full (grow heading_sign ps)) ≡ Nothing
    go [] = refl
    go (p ∷ ps) = refl

pub silent_means_nothing : {l : List ℕ} → Silent l → meaning l ≡ Nothing
unfolding called
silent_means_nothing {l} (blanks b h) = short_line_is_called l h ∙ ap called (words_none b)
silent_means_nothing {l} (heading rest b h) =
    short_line_is_called l h ∙ ap called (words_blanks (heading_sign ∷ rest) b) ∙ heading_called rest

-- so no line is both silent and a call
pub silent_says_no_call : {l : List ℕ} {k : ℕ} {zs : List ℤ} {p : Pairs} → Silent l → Says l k zs p → ⊥
silent_says_no_call {l} {k} {zs} {p} s c =
    let n : meaning l ≡ Nothing = silent_means_nothing s in
    let y : meaning l ≡ Call k zs p = says_reads c in
    impossible cc

-- a line that is too long is no call, a heading too
pub long_line_is_no_call : (l : List ℕ) → longest < length l → meaning l ≡ NoCall
unfolding meaning
long_line_is_no_call l h = rw (lt-leb (length l) longest h)

-- ---- what means nothing is silent

-- behind a call's word a line is a call or none
fill_says : {A : Type 0} (k : ℕ) (zs : List ℤ) (p : Pairs) (ws : List (List ℕ)) → fill k zs p ws ≡ Nothing → A
unfolding fill finished on_with
fill_says k zs p [] e = go (takes k (length zs)) e
  where
    go : {A : Type 0} (x : Bool) → pick x (Call k zs p) NoCall ≡ Nothing → A
    go true e = impossible cc
    go false e = impossible cc
fill_says {A} k zs p (w ∷ ws) e = go (taking k zs p (item_of w)) e (λ zs p f. fill_says k zs p ws f)
  where
    go : (r : Reading) → on_with r (λ zs p. fill k zs p ws) ≡ Nothing
        → ((zs : List ℤ) (p : Pairs) → fill k zs p ws ≡ Nothing → A) → A
    go (read zs p) e f = f zs p e
    go spoilt e f = impossible cc

called_silent : {l : List ℕ} {ws : List (List ℕ)} → Split l ws → length l ≤ longest → called ws ≡ Nothing → Silent l
unfolding called is_heading
called_silent (last b) o e = blanks b o
called_silent {l} (word {t} {w} {rest} {ws} bs s h en r) o e = go w o (is_heading w) (eqb (kind_of w) 0) refl e
  where
    go : (w : List ℕ) → length (t ++ (w ++ rest)) ≤ longest → (x y : Bool) → is_heading w ≡ x
        → pick x Nothing (pick y NoCall (fill (kind_of w) [] no_pairs ws)) ≡ Nothing → Silent (t ++ (w ++ rest))
    go [] o true y i f = impossible cc
    go (b ∷ v) o true y i f =
        let is : b ≡ heading_sign = eqb-true b heading_sign i in
        rw is (heading (v ++ rest) bs (rw is at o))
    go w o false true i f = impossible cc
    go w o false false i f = fill_says (kind_of w) [] no_pairs ws f

pub nothing_is_silent : (l : List ℕ) → meaning l ≡ Nothing → Silent l
unfolding meaning
nothing_is_silent l e = go (leb (length l) longest) refl e
  where
    go : (x : Bool) → leb (length l) longest ≡ x → pick x (called (words l)) NoCall ≡ Nothing → Silent l
    go false h f = impossible cc
    go true h f =
        let s : SplitOf l = split l in
        called_silent s.is (leb-true (length l) longest h) (rw (split_words s.is) at f)
