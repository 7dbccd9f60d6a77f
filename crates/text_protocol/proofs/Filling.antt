-- What a word more does to the numbers that are read of a line.
use mathlib.Core.Path.{◌≡◌, refl}
use mathlib.Core.Bool.{true, false}
use mathlib.Core.List.{List, [], ◌∷◌}
use Prim.Native.Nat.{ℕ}
use lib.IntN.{ℤ}
use lib.ListN.{length}
use Rattle.text_protocol.specs.declared.Item.TheVariants as item
use Rattle.text_protocol.specs.declared.Pairs.{Pairs}
use Rattle.text_protocol.specs.Line.{NoCall, item_of, pair_fits, with_pair, more, taking, finished, on_with, fill}

pub fill_none : (k : ℕ) (zs : List ℤ) (p : Pairs) → fill k zs p [] ≡ finished k zs p
unfolding fill
fill_none k zs p = refl

module _ (k : ℕ) (zs : List ℤ) (p : Pairs) (w : List ℕ) (ws : List (List ℕ)) where
  pub fill_one : {z : ℤ} → item_of w ≡ item.One z → fill k zs p (w ∷ ws) ≡ fill k (more zs z) p ws
  unfolding fill taking on_with
  fill_one e = rw e

  pub fill_neither : item_of w ≡ item.Neither → fill k zs p (w ∷ ws) ≡ NoCall
  unfolding fill taking on_with
  fill_neither e = rw e

  module _ {m n : ℤ} (e : item_of w ≡ item.Two m n) where
    pub fill_two : pair_fits k (length zs) ≡ true
        → fill k zs p (w ∷ ws) ≡ fill k (more (more zs m) n) (with_pair k (length zs) p) ws
    unfolding fill taking on_with
    fill_two h = rw (e, h)

    pub fill_no_pair : pair_fits k (length zs) ≡ false → fill k zs p (w ∷ ws) ≡ NoCall
    unfolding fill taking on_with
    fill_no_pair h = rw (e, h)
