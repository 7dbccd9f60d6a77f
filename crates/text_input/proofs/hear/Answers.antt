-- `text_input::hear` meets its contract: the next line.
use Rattle.text_input.proofs.Lines.{next_whole, next_last, next_long, long_says, long_is_long, next_readied, at_front, not_full}
use Rattle.text_input.proofs.Lines.{stands_there}
use native.Mathlib.Omega.{arith}
use mathlib.Core.Logic.{inl, inr}
use Rattle.text_input.proofs.hear.Goals as goal

pub returns-then-i : goal.returns-then-i
returns-then-i c =
    let f = c.from_place-input.ensures in
    let p = c.ready-i.ensures in
    record {
      line = _;
      next = next_readied p (next_whole _ _ p.stands _ f.0 f.1 f.2 f.3 f.4 c.if-i.true);
      says = c.read_line-line.ensures;
      there = stands_there p.stands (inl c.if-i.true);
    }

pub returns-then-i-gt-LONGEST : goal.returns-then-i-gt-LONGEST
returns-then-i-gt-LONGEST c =
    let p = c.ready-i.ensures in
    let h = c.if-i.false in
    let q = c.behind_long-input.ensures in
    let front = (at_front _ _ p.front h).0 in
    let over = c.if-i-gt-LONGEST.true in
    record {
      line = _;
      next = next_readied p (next_long _ _ p.stands h front over _ _ q);
      says = long_says _ _ p.stands h front over _ _ q;
      there = record { low = omega arith; high = omega arith; short = omega arith; is = inr (long_is_long _ _ p.stands h front over _ _ q) };
    }

pub returns : goal.returns
returns c =
    let p = c.ready-i.ensures in
    let ended = not_full _ (at_front _ _ p.front c.if-i.false).1 c.if-i-gt-LONGEST.false in
    record {
      line = _;
      next = next_readied p (next_last _ _ p.stands c.if-i.false _ ended c.ended.ensures);
      says = c.read_line-line-2.ensures;
      there = stands_there p.stands (inr c.if-i-gt-LONGEST.false);
    }
