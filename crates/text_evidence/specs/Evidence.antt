-- What is known of the two calls of std: how much was offered and came, how much was handed over and taken. Which bytes
-- came, and where those that were taken went, is std's part.
use Rattle.std.specs.Prelude.{◌≡◌, refl, Bool, true, false, not, ◌&&◌, List, ℕ, zero, suc, ◌+◌, ◌-◌, ◌≤◌, ◌<◌, min, eqb, ltb, length, take}
use Rattle.std.proofs.Common.{arith, eqb-true, lt-ltb}
use Rattle.std.proofs.lemmas.Bool.{eqb-false}
use Rattle.text_evidence.specs.declared.Delivered.{Delivered}
use Rattle.text_evidence.specs.declared.Written.{Written}

-- the greatest number of 64 bits, and a count that stops there
abbrev pub count_most : ℕ
count_most = 18446744073709551615

unfoldable pub counted : ℕ → ℕ
counted n = min n count_most

-- n more were counted, as far as 64 bits count
abbrev pub Counted : (before n after : ℕ) → Type 0
Counted a n b = counted b ≡ counted (a + n)

pub counted_none : (a : ℕ) → Counted a 0 a
unfolding counted
counted_none a = omega arith

-- counting in two steps is counting at once
pub counted_on : (a x b y c : ℕ) → Counted a x b → Counted b y c → Counted a (x + y) c
unfolding counted
counted_on a x b y c p q = omega (arith, p, q)

-- ---- the input

-- before the first call of `read`
abbrev pub unread : Delivered
unread = record { all = 0; room = 0; came = 0; failed = 0 }

-- room was offered, and nothing came
abbrev pub has_ended : Delivered → Bool
has_ended d = ltb 0 d.room && eqb d.came 0

-- then nothing came; and where it has not ended, something did
pub ended_is_none : (d : Delivered) → has_ended d ≡ true → d.came ≡ 0
ended_is_none d e = second (ltb 0 d.room) e
  where
    second : (x : Bool) → (x && eqb d.came 0) ≡ true → d.came ≡ 0
    second true h = eqb-true d.came 0 h
    second false h = let z : ◌≡◌ {A = ℕ} 0 1 = cc in omega arith

pub not_ended_is_some : (d : Delivered) → 0 < d.room → has_ended d ≡ false → 0 < d.came
not_ended_is_some d h e = positive d.came (eqb-false d.came 0 (rw (lt-ltb 0 d.room h) at e))
  where
    positive : (n : ℕ) → (n ≡ 0 → ⊥) → 0 < n
    positive zero k = absurd (k refl)
    positive (suc n) k = omega arith

-- a read failed: nothing came, and std said so
abbrev pub has_failed : Delivered → Bool
has_failed d = has_ended d && not (eqb d.failed 0)

-- the input has ended, and no read failed
abbrev pub is_well : Delivered → Bool
is_well d = has_ended d && eqb d.failed 0

-- ONE CALL OF `read` behind the first `have` bytes of a buffer: they stay, and the room behind them was offered
pub record Fills (b : List ℕ) (have : ℕ) (before : Delivered) (b' : List ℕ) (r : Delivered) : Type 0 where
  pub long : length b' ≡ length b
  pub kept : take have b' ≡ take have b
  pub room : r.room ≡ length b - have
  pub most : r.came ≤ r.room
  pub count : Counted before.all r.came r.all

-- ---- the output

-- before the first call of `write`
abbrev pub unwritten : Written
unwritten = record { all = 0; handed = 0; taken = 0 }

-- all that was handed over last was taken
abbrev pub took_all : Written → Bool
took_all w = eqb w.taken w.handed

-- n BYTES ARE HANDED OVER, after `before`
pub record Hands (n : ℕ) (before r : Written) : Type 0 where
  pub handed : r.handed ≡ n
  pub most : r.taken ≤ n
  pub count : Counted before.all n r.all
