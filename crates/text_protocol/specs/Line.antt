-- docs/EVENING.md, "Which line is which call": what a line of the evening's text says.
use Rattle.std.specs.Prelude.{Bool, false, ◌&&◌, ◌||◌, List, [], ◌∷◌, ◌++◌, ℕ, suc, ◌+◌, ◌-◌, leb, ltb, eqb, ℤ, length, take, drop}
use Rattle.paper.specs.Lists.{pick}
use Rattle.paper.specs.Numbers.{all_numbers_most}
use Rattle.std.specs.declared.option.Option.{Option}
use Rattle.std.specs.declared.option.Option.TheVariants.{None, Some}
use Rattle.text_protocol.specs.declared.Item.{Item}
use Rattle.text_protocol.specs.declared.Item.TheVariants as item
use Rattle.text_protocol.specs.declared.Pairs.{Pairs}
use Rattle.text_bytes.specs.Bytes.{room, words}
use Rattle.text_bytes.specs.Numbers.{number_of, slash_at}
use Rattle.text_protocol.specs.Names.{Name, evaluate_kind, bond_kind, evaluate_names, evaluate_count, bond_names}
use Rattle.text_protocol.specs.Names.{place_of, RRCL0, RRCL1, RRCL2, kind_of, takes}

unfoldable pub one_of : Option ℤ → Item
one_of (Some z) = item.One z
one_of None = item.Neither

unfoldable pub two_of : Option ℤ → Option ℤ → Item
two_of (Some m) (Some n) = item.Two m n
two_of (Some m) None = item.Neither
two_of None n = item.Neither

-- two numbers with a slash and no blank between them, or one number
unfoldable pub item_of : List ℕ → Item
item_of w =
    pick (ltb (slash_at w) (length w))
    (two_of (number_of (take (slash_at w) w)) (number_of (drop (suc (slash_at w)) w)))
    (one_of (number_of w))

-- what a line says: nothing, no call, or a call of a kind, with its numbers and the terms in which a pair stands for
-- two of them
pub data Said : Type 0 where
  Nothing : Said
  NoCall : Said
  Call : (kind : ℕ) → (numbers : List ℤ) → Pairs → Said

abbrev pub no_pairs : Pairs
no_pairs = record { first = false; second = false; third = false }

-- the calls with three terms, an evaluation and a bond
unfoldable pub has_terms : (kind : ℕ) → Bool
has_terms k = eqb k evaluate_kind || eqb k bond_kind

-- where a term's RRCL stands in a call with terms
unfoldable pub place_in : (kind : ℕ) → (low : Name) → ℕ
place_in k low = pick (eqb k bond_kind) (place_of bond_names low) (place_of evaluate_names low)

-- a pair stands in a call with terms alone, in place of a term's RRCL RRCH
unfoldable pub pair_fits : (kind place : ℕ) → Bool
pair_fits k n =
    has_terms k && (eqb n (place_in k RRCL0) || (eqb n (place_in k RRCL1) || eqb n (place_in k RRCL2)))

-- a pair more, at a place
unfoldable pub with_pair : (kind place : ℕ) → Pairs → Pairs
with_pair k n p =
    record {
      first = p.first || eqb n (place_in k RRCL0);
      second = p.second || eqb n (place_in k RRCL1);
      third = p.third || eqb n (place_in k RRCL2);
    }

-- A line keeps the numbers of an evaluation and its row figures, one more of them than a day may have: with so many it
-- is out of range, whatever follows. What follows has to be numbers, and is dropped
abbrev pub kept_most : ℕ
kept_most = evaluate_count + all_numbers_most + 1

-- a number more
unfoldable pub more : List ℤ → ℤ → List ℤ
more zs z = take kept_most (zs ++ z ∷ [])

-- what is read of a call: its numbers so far and their pairs; or something that is in no call
pub data Reading : Type 0 where
  read : List ℤ → Pairs → Reading
  spoilt : Reading

-- what is read with a word more
unfoldable pub taking : (kind : ℕ) → List ℤ → Pairs → Item → Reading
taking k zs p (item.One z) = read (more zs z) p
taking k zs p (item.Two m n) =
    pick (pair_fits k (length zs)) (read (more (more zs m) n) (with_pair k (length zs) p)) spoilt
taking k zs p item.Neither = spoilt

unfoldable pub on_with : Reading → (List ℤ → Pairs → Said) → Said
on_with (read zs p) f = f zs p
on_with spoilt f = NoCall

-- a call has as many numbers as it takes
unfoldable pub finished : (kind : ℕ) → List ℤ → Pairs → Said
finished k zs p = pick (takes k (length zs)) (Call k zs p) NoCall

-- the words behind the call's, where zs and p are read
unfoldable pub fill : (kind : ℕ) → List ℤ → Pairs → List (List ℕ) → Said
fill k zs p [] = finished k zs p
fill k zs p (w ∷ ws) = on_with (taking k zs p (item_of w)) (λ zs p. fill k zs p ws)

-- a heading begins with this byte, "#"
abbrev pub heading_sign : ℕ
heading_sign = 35

-- the first word of a heading
unfoldable pub is_heading : (word : List ℕ) → Bool
is_heading [] = false
is_heading (b ∷ w) = eqb b heading_sign

-- a line without a word says nothing, and neither does a heading
unfoldable pub called : List (List ℕ) → Said
called [] = Nothing
called (w ∷ ws) =
    pick (is_heading w) Nothing (pick (eqb (kind_of w) 0) NoCall (fill (kind_of w) [] no_pairs ws))

-- a line of more bytes is no call: a buffer has no room for a line feed behind them
abbrev pub longest : ℕ
longest = room - 1

-- THE MEANING OF A LINE
unfoldable pub meaning : List ℕ → Said
meaning l = pick (leb (length l) longest) (called (words l)) NoCall
