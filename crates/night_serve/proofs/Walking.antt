-- One turn of the loop that goes from line to line, as laws over lists and numbers: what is left of the text leads to
-- the same.
use mathlib.Core.Path.{◌≡◌, refl, sym, ap, ◌∙◌}
use mathlib.Core.Bool.{true, false}
use mathlib.Core.List.{List, [], ◌∷◌, ◌++◌}
use Prim.Native.Nat.{ℕ, zero, suc, ◌+◌, ◌≤◌, ◌<◌}
use native.Mathlib.Omega.{arith}
use lib.Dec.{eqb}
use lib.IntN.{ℤ, pos}
use Rattle.std.specs.Prelude.{Option, Some, None}
use lib.ListN.{length, length-append}
use borrow.Author.Tests.{le-leb, lt-leb, ne_eqb, eqb-true}
use Rattle.paper.specs.Lists.{pick}
use Rattle.text_bytes.specs.Bytes.{line_feed, is_line_feed, pieces}
use Rattle.text_bytes.specs.Split.{Free}
use Rattle.text_bytes.proofs.Spelling.{impossible}
use Rattle.text_bytes.proofs.Pieces.{pieces_none, pieces_more, Parted, all, more, parted, pieces_some}
use Rattle.exchange_protocol.specs.Scan.{Front, front, none, line, WrittenLine}
use Rattle.exchange_protocol.proofs.Lines.{ended_reads, line_back}
use Rattle.night_protocol.specs.Night.{bad, night_most, securities_most, firsts, firsts_behind, ids_of}
use Rattle.night_protocol.specs.Night.{rows_in, has_room, or_bad}
use Rattle.night_protocol.specs.Night.{gather, night_of}
use Rattle.night_serve.specs.declared.reading.Securities.{Securities}
use Rattle.night_serve.specs.Tables.{ids_room, figures_room, Held, HeldBy, EntersAs, Enters, HeldNight}

feed_only : (b : ℕ) → is_line_feed b ≡ true → b ≡ line_feed
unfolding is_line_feed
feed_only b e = eqb-true b line_feed e

feed_is : is_line_feed line_feed ≡ true
unfolding is_line_feed
feed_is = refl

-- a line that is none in front of a text is none by itself
none_alone : (p v : List ℕ) → Free is_line_feed p → line (p ++ line_feed ∷ v) ≡ none → line (p ++ line_feed ∷ []) ≡ none
none_alone p v f e = go (line (p ++ line_feed ∷ [])) refl
  where
    go : (x : Front (List ℤ)) → line (p ++ line_feed ∷ []) ≡ x → x ≡ none
    go none i = refl
    go (front zs rest) i =
        let r : WrittenLine (p ++ line_feed ∷ []) zs rest = line_back (p ++ line_feed ∷ []) zs rest i in
        let a : p ∷ pieces is_line_feed [] ≡ r.p ∷ pieces is_line_feed rest =
        sym (pieces_more is_line_feed [] f feed_is) ∙ ap (pieces is_line_feed) r.is
        ∙ pieces_more is_line_feed rest r.unbroken feed_is in
        let j : r.p ≡ p = cc in
        let y : line (p ++ line_feed ∷ v) ≡ front (pos r.id ∷ r.row) v = ended_reads v (rw j at r.ended) in
        impossible cc

-- ---- what a line makes of the rest

module _ (n : ℕ) (lines : List (List ℤ)) (p q : List ℕ) (ps : List (List ℕ)) where
  gather_none : line (p ++ line_feed ∷ []) ≡ none → gather n lines (p ∷ q ∷ ps) ≡ bad n
  unfolding gather or_bad
  gather_none e = rw e

  gather_line : (zs : List ℤ) (rest : List ℕ) → line (p ++ line_feed ∷ []) ≡ front zs rest
      → gather n lines (p ∷ q ∷ ps) ≡ pick (has_room lines zs) (gather (suc n) (lines ++ zs ∷ []) (q ∷ ps)) (bad n)
  unfolding gather or_bad
  gather_line zs rest e = rw e

gather_unended : (n : ℕ) (lines : List (List ℤ)) (p : List ℕ) → 0 < length p → gather n lines (p ∷ []) ≡ bad n
unfolding gather
gather_unended n lines p h = rw (ne_eqb (length p) 0 (λ e. omega arith))

-- ---- how the loop stands

pub record Walks (t : List ℕ) (s : Securities) (rest : List ℕ) (number : ℕ) : Type 0
  where
    pub lines : List (List ℤ)
    pub fits : length t ≤ night_most
    pub few_lines : number + length rest ≤ length t + 1
    pub held : HeldBy lines s
    pub left : gather number lines (pieces is_line_feed rest) ≡ night_of t

pub too_long : (t : List ℕ) → night_most < length t → night_of t ≡ bad 0
unfolding night_of
too_long t h = rw (lt-leb (length t) night_most h)

held_none : (ids counts : List ℕ) (figures : List ℤ) → length ids ≡ ids_room → length counts ≡ securities_most
    → length figures ≡ figures_room → Held [] ids counts figures 0
unfolding firsts firsts_behind ids_of rows_in
held_none ids counts figures il cl fl =
    record {
      ids_long = il;
      counts_long = cl;
      figures_long = fl;
      few = omega arith;
      are = refl;
      once = λ i j h k e. omega arith;
      others = λ z n. refl;
      count = λ i h. absurd (no i h);
      few_rows = λ i h. absurd (no i h);
      rows = λ i h. absurd (no i h);
    }
  where
    no : (i : ℕ) → i < 0 → ⊥
    no i h = omega arith

pub walks_none : (t ids counts : List ℕ) (figures : List ℤ) → length ids ≡ ids_room → length counts ≡ securities_most
    → length figures ≡ figures_room → length t ≤ night_most
    → Walks t (record { count = 0; ids = ids; counts = counts; figures = figures }) t 1
unfolding night_of
walks_none t ids counts figures il cl fl h =
    record {
      lines = [];
      fits = h;
      few_lines = omega arith;
      held = held_none ids counts figures il cl fl;
      left = rw (le-leb (length t) night_most h);
    }

pub some_left : (n : ℕ) → false ≡ eqb n 0 → 0 < n
some_left zero e = impossible cc
some_left (suc n) e = omega arith

module _ (t : List ℕ) (s : Securities) (rest : List ℕ) (number : ℕ) (w : Walks t s rest number) where
  pub number_fits : number ≤ night_most + 1
  number_fits = omega (arith, w.few_lines, w.fits)

  pub walks_all : length rest ≡ 0 → HeldNight t s
  unfolding gather pieces
  walks_all h =
      record {
        lines = w.lines;
        is = sym w.left ∙ rw (empty_is rest h);
        held = w.held;
      }
    where
      empty_is : (u : List ℕ) → length u ≡ 0 → u ≡ []
      empty_is [] e = refl
      empty_is (b ∷ u) e = absurd (omega arith)

  pub walks_bad : 0 < length rest → none ≡ line rest → night_of t ≡ bad number
  walks_bad h none_here = sym w.left ∙ go rest refl (parted is_line_feed rest)
    where
      go : (v : List ℕ) → rest ≡ v → Parted is_line_feed v → gather number w.lines (pieces is_line_feed rest) ≡ bad number
      go v e (all f) =
          let o : 0 < length v = rw (← e) h in
          rw (e, pieces_none is_line_feed f) (gather_unended number w.lines v o)
      go _ e (more {p} {b} v f g) =
          let i : b ≡ line_feed = feed_only b g in
          let j : rest ≡ p ++ line_feed ∷ v = e ∙ ap (λ (x : ℕ). p ++ x ∷ v) i in
          let k : pieces is_line_feed rest ≡ p ∷ pieces is_line_feed v =
          ap (pieces is_line_feed) j ∙ pieces_more is_line_feed v f feed_is in
          let m : line (p ++ line_feed ∷ []) ≡ none = none_alone p v f (ap line (sym j) ∙ sym none_here) in
          rw k (behind p v m (pieces is_line_feed v) refl)
        where
          behind : (p v : List ℕ) → line (p ++ line_feed ∷ []) ≡ none → (ps : List (List ℕ)) → pieces is_line_feed v ≡ ps
              → gather number w.lines (p ∷ pieces is_line_feed v) ≡ bad number
          behind p v m [] i = pieces_some is_line_feed v i
          behind p v m (q ∷ ps) i = rw i (gather_none number w.lines p q ps m)

  module _ (ys : List ℤ) (after : List ℕ) (l : front ys after ≡ line rest) where
    found : WrittenLine rest ys after
    found = line_back rest ys after (sym l)

    pub further : length after < length rest
    further = omega (arith, ap length found.is ∙ length-append found.p (line_feed ∷ after))

    stepped : pick (has_room w.lines ys) (gather (suc number) (w.lines ++ ys ∷ []) (pieces is_line_feed after))
        (bad number) ≡ night_of t
    stepped =
        sym (ap (gather number w.lines) (ap (pieces is_line_feed) found.is
        ∙ pieces_more is_line_feed after found.unbroken feed_is)
        ∙ behind (pieces is_line_feed after) refl)
        ∙ w.left
      where
        alone : line (found.p ++ line_feed ∷ []) ≡ front ys []
        alone = ended_reads [] found.ended ∙ ap (λ (x : List ℤ). front x []) (sym found.numbers)

        behind : (ps : List (List ℕ)) → pieces is_line_feed after ≡ ps
            → gather number w.lines (found.p ∷ pieces is_line_feed after)
            ≡ pick (has_room w.lines ys) (gather (suc number) (w.lines ++ ys ∷ []) (pieces is_line_feed after)) (bad number)
        behind [] i = pieces_some is_line_feed after i
        behind (q ∷ ps) i = rw i (gather_line number w.lines found.p q ps ys [] alone)

    module _ (s' : Securities) where
      pub walks_full : Enters s ys s' None → night_of t ≡ bad number
      unfolding EntersAs
      walks_full x = let f : has_room w.lines ys ≡ false = x.is w.lines w.held in sym (rw f at stepped)

      pub walks_on : (at : ℕ) → Enters s ys s' (Some at) → Walks t s' after (number + 1)
      unfolding EntersAs
      walks_on at x =
          let f : (has_room w.lines ys ≡ true) × HeldBy (w.lines ++ ys ∷ []) s' = x.is w.lines w.held in
          let j : number + 1 ≡ suc number = omega arith in
          record {
            lines = w.lines ++ ys ∷ [];
            fits = w.fits;
            few_lines = omega (arith, w.few_lines, further);
            held = f.1;
            left = rw j (rw f.0 at stepped);
          }

      -- how many securities there are then
      pub walks_few : (at : ℕ) → Enters s ys s' (Some at) → s'.count ≤ securities_most
      unfolding EntersAs
      walks_few at x = (x.is w.lines w.held).1.few
