-- The rows of the kinds: an unknown kind has none, and no kind has more fields than places, or a longer word than the
-- letters hold.
use mathlib.Core.Path.{◌≡◌, refl}
use mathlib.Core.Bool.{Bool, true}
use mathlib.Core.List.{List, [], ◌∷◌}
use Prim.Native.Nat.{ℕ, zero, suc, ◌≤◌, ◌<◌}
use native.Mathlib.Omega.{arith}
use lib.Dec.{leb}
use lib.ListN.{length, get_or}
use borrow.Author.Tests.{leb-true}
use Rattle.paper.specs.Lists.{every}
use Rattle.paper.proofs.Logic.{and_left, and_right}
use Rattle.paper_messages.specs.Fields.{MessageKind, kinds_table, kinds_count, no_kind, kind_row, places}
use Rattle.messages.specs.KindRows.{word_most}

past_rows : (rows : List MessageKind) (i : ℕ) → length rows ≤ i → get_or rows i no_kind ≡ no_kind
past_rows [] i h = refl
past_rows (k ∷ rows) zero h = absurd (omega arith)
past_rows (k ∷ rows) (suc i) h = past_rows rows i (omega arith)

pub unknown_has_no_row : (kind : ℕ) → (0 < kind → kinds_count < kind) → kind_row kind ≡ no_kind
unknown_has_no_row zero h = refl
unknown_has_no_row (suc n) h = let far = h (omega arith) in past_rows kinds_table n (omega arith)

-- what holds of each row holds of the row of every kind
of_every_row : (p : MessageKind → Bool) → every p (no_kind ∷ kinds_table) ≡ true → (kind : ℕ) → p (kind_row kind) ≡ true
unfolding every
of_every_row p all kind = of (no_kind ∷ kinds_table) all kind
  where
    of : (rows : List MessageKind) → every p rows ≡ true → (kind : ℕ) → p (get_or rows kind no_kind) ≡ true
    of [] h kind = and_left (p no_kind) _ all
    of (k ∷ rows) h zero = and_left (p k) _ h
    of (k ∷ rows) h (suc kind) = of rows (and_right (p k) _ h) kind

pub count_within_places : (kind : ℕ) → length (kind_row kind).fields ≤ places
unfolding every
count_within_places kind = leb-true _ _ (of_every_row (λ k. leb (length k.fields) places) refl kind)

pub word_within_most : (kind : ℕ) → length (kind_row kind).word ≤ word_most
unfolding every
word_within_most kind = leb-true _ _ (of_every_row (λ k. leb (length k.word) word_most) refl kind)
