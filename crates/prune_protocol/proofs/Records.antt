-- One record: what an evaluation writes anew whatever it was, and what a line that is left out changes of it.
use mathlib.Core.Path.{◌≡◌, refl, sym, ap, subst, ◌∙◌}
use mathlib.Core.Bool.{Bool, true, false, not, ◌||◌}
use mathlib.Core.List.{List, ◌∷◌}
use Prim.Native.Nat.{ℕ}
use lib.Dec.{eqb}
use lib.IntN.{ℤ}
use borrow.Author.Tests.{eq-eqb}
use Rattle.paper.specs.declared.Record.{Record}
use Rattle.paper.specs.declared.Day.{Day}
use Rattle.paper.specs.declared.Quote.{Quote}
use Rattle.paper.specs.declared.Limits.{Limits}
use Rattle.paper.specs.declared.Moves.{Moves}
use Rattle.paper.specs.declared.NearSeconds.{NearSeconds}
use Rattle.paper.specs.declared.Session.{Session}
use Rattle.paper.specs.declared.External.{External}
use Rattle.paper.specs.declared.Notice.TheVariants.{Bid, Ask as AskNotice, Withdrawal}
use Rattle.paper.proofs.Logic.{not_true_and_false, not_false, and_left, and_right}
use Rattle.paper_desk.specs.Desk.{Ask, evaluating, quoting, moving, reading, opening, receiving, rule_of, evaluated}
use Rattle.paper_desk.specs.Desk.{used_by, price_on, move_on, figures_on, quoted, near_on, moved, evening_opened, received}
use Rattle.paper_desk.specs.External.{Receipt, together, notice, kept_after}
use Rattle.journal_protocol.specs.Lines.{reads_only}
use Rattle.prune_protocol.specs.Pruning.{Part, evaluates, watches, receives, works, other, ask_part, part_of}
use Rattle.prune_protocol.specs.Pruning.{is_evaluation, evaluated_in, writes_bid, writes_ask, replaced_by, replaced_in}
use Rattle.prune_protocol.specs.Pruning.{side_replaced, part_matters}

-- ---- what may differ

-- what quotes, moves and openings write, and an evaluation writes anew
pub record Watched : Type 0 where
  pub ranges : List Limits
  pub bands : List Limits
  pub moves : Moves
  pub near : List NearSeconds
  pub second : ℕ
  pub session : Session

abbrev pub watched_of : Record → Watched
watched_of r =
    record {
      ranges = r.ranges;
      bands = r.bands;
      moves = r.moves;
      near = r.near;
      second = r.second;
      session = r.session;
    }

-- a record with all this and the outside prices another
abbrev pub dressed : Record → Watched → External → Record
dressed r w x =
    record {
      id = r.id;
      statics = r.statics;
      standing = r.standing;
      p1 = r.p1;
      p2 = r.p2;
      s = r.s;
      tentative = r.tentative;
      rates = r.rates;
      ranges = w.ranges;
      terms = r.terms;
      bands = w.bands;
      moves = w.moves;
      near = w.near;
      second = w.second;
      session = w.session;
      external = x;
    }

-- TWO RECORDS THAT ARE ALIKE but for what is written anew: by a later evaluation, and of the outside prices by a later
-- bid and a later ask
pub record Alike (later bid ask : Bool) (r s : Record) : Type 0 where
  pub watched : Watched
  pub outside : External
  pub is : s ≡ dressed r watched outside
  pub same_watched : later ≡ false → watched ≡ watched_of r
  pub same_bid : bid ≡ false → outside.bid ≡ r.external.bid
  pub same_ask : ask ≡ false → outside.ask ≡ r.external.ask

pub alike_self : (later bid ask : Bool) (r : Record) → Alike later bid ask r r
alike_self later bid ask r =
    record {
      watched = watched_of r;
      outside = r.external;
      is = refl;
      same_watched = λ _. refl;
      same_bid = λ _. refl;
      same_ask = λ _. refl;
    }

same_outside : (x y : External) → x.bid ≡ y.bid → x.ask ≡ y.ask → x ≡ y
same_outside x y b a =
    ap (λ (n : ℕ). record { bid = n; ask = x.ask }) b ∙ ap (λ (n : ℕ). record { bid = y.bid; ask = n }) a

-- where nothing is written anew they are the same
pub alike_same : (r s : Record) → Alike false false false r s → s ≡ r
alike_same r s k =
    k.is
    ∙ ap (λ (w : Watched). dressed r w k.outside) (k.same_watched refl)
    ∙ ap (λ (x : External). dressed r (watched_of r) x)
    (same_outside k.outside r.external (k.same_bid refl) (k.same_ask refl))

-- ---- a line about the security of a record, in front of lines

-- what is written anew from the line on
abbrev AlikeFrom : Part → (later bid ask : Bool) → (r s : Record) → Type 0
AlikeFrom p later bid ask r s =
    Alike (is_evaluation r.id p || later) (replaced_by writes_bid r.id p bid) (replaced_by writes_ask r.id p ask) r s

own : (r : Record) → eqb r.id r.id ≡ true
own r = eq-eqb r.id r.id refl

-- ---- quotes, moves and openings

-- an ask on a record that is the same but for the outside prices: it is judged alike, and makes the same of it
pub record KeptAsk (x : Ask) (later bid ask : Bool) (r s : Record) : Type 0 where
  pub checks : (rule_of x).checks s ≡ (rule_of x).checks r
  pub made : Alike later bid ask ((rule_of x).made r) ((rule_of x).made s)

-- an ask that neither reads nor writes the outside prices
record Watches (x : Ask) : Type 0 where
  checks : (r : Record) (o : External) → (rule_of x).checks (dressed r (watched_of r) o) ≡ (rule_of x).checks r
  made : (r : Record) (o : External)
      → (rule_of x).made (dressed r (watched_of r) o) ≡ dressed ((rule_of x).made r) (watched_of ((rule_of x).made r)) o
  -- and writes nothing but what an evaluation writes anew
  left : (r : Record) (w : Watched) (o : External) → dressed r w o ≡ dressed ((rule_of x).made r) w o
  outside : (r : Record) → ((rule_of x).made r).external ≡ r.external

quote_watches : (q : Quote) → Watches (quoting q)
unfolding quoted near_on
quote_watches q =
    record { checks = λ r o. refl; made = λ r o. refl; left = λ r w o. refl; outside = λ r. refl }

move_watches : (side : ℕ) → Watches (moving side)
unfolding moved
move_watches side =
    record { checks = λ r o. refl; made = λ r o. refl; left = λ r w o. refl; outside = λ r. refl }

opening_watches : Watches opening
unfolding evening_opened
opening_watches =
    record { checks = λ r o. refl; made = λ r o. refl; left = λ r w o. refl; outside = λ r. refl }

-- where no evaluation comes later
watch_kept : (x : Ask) → Watches x → (bid ask : Bool) (r s : Record) → Alike false bid ask r s
    → KeptAsk x false bid ask r s
watch_kept x h bid ask r s k =
    record {
      checks = ap (λ (z : Record). (rule_of x).checks z) is ∙ h.checks r k.outside;
      made =
          record {
            watched = watched_of ((rule_of x).made r);
            outside = k.outside;
            is = ap (λ (z : Record). (rule_of x).made z) is ∙ h.made r k.outside;
            same_watched = λ _. refl;
            same_bid = λ e. k.same_bid e ∙ ap (λ (o : External). o.bid) (sym (h.outside r));
            same_ask = λ e. k.same_ask e ∙ ap (λ (o : External). o.ask) (sym (h.outside r));
          };
    }
  where
    is : s ≡ dressed r (watched_of r) k.outside
    is = k.is ∙ ap (λ (w : Watched). dressed r w k.outside) (k.same_watched refl)

-- where one does, the ask may be left out
watch_left : (x : Ask) → Watches x → (bid ask : Bool) (r s : Record) → Alike true bid ask r s
    → Alike true bid ask ((rule_of x).made r) s
watch_left x h bid ask r s k =
    record {
      watched = k.watched;
      outside = k.outside;
      is = k.is ∙ h.left r k.watched k.outside;
      same_watched = λ e. absurd (not_true_and_false true refl e);
      same_bid = λ e. k.same_bid e ∙ ap (λ (o : External). o.bid) (sym (h.outside r));
      same_ask = λ e. k.same_ask e ∙ ap (λ (o : External). o.ask) (sym (h.outside r));
    }

-- ---- an evaluation

evaluation_kept : (d : Day) (rows : List ℤ) (later bid ask : Bool) (r s : Record) → Alike true false false r s
    → KeptAsk (evaluating d rows) later bid ask r s
unfolding evaluated used_by price_on move_on figures_on
evaluation_kept d rows later bid ask r s k =
    record {
      checks = ap (λ (z : Record). (rule_of (evaluating d rows)).checks z) is;
      made = subst (λ (z : Record). Alike later bid ask (evaluated r d rows) (evaluated z d rows)) (sym is)
          (alike_self later bid ask (evaluated r d rows));
    }
  where
    is : s ≡ dressed r k.watched r.external
    is =
        k.is
        ∙ ap (λ (o : External). dressed r k.watched o)
        (same_outside k.outside r.external (k.same_bid refl) (k.same_ask refl))

-- ---- outside prices

record SideLaws (side : External → ℕ) (writes : Receipt → Bool) : Type 0 where
  written : (x : Receipt) (k m : External) → writes x ≡ true → side (kept_after k x) ≡ side (kept_after m x)
  left : (x : Receipt) (k : External) → writes x ≡ false → side (kept_after k x) ≡ side k

bid_laws : SideLaws (λ o. o.bid) writes_bid
unfolding writes_bid kept_after
bid_laws = record { written = written; left = left }
  where
    written : (x : Receipt) (k m : External) → writes_bid x ≡ true → (kept_after k x).bid ≡ (kept_after m x).bid
    written (together sent) k m e = refl
    written (notice (Bid b)) k m e = refl
    written (notice (AskNotice a)) k m e = absurd (not_true_and_false false e refl)
    written (notice Withdrawal) k m e = refl

    left : (x : Receipt) (k : External) → writes_bid x ≡ false → (kept_after k x).bid ≡ k.bid
    left (together sent) k e = absurd (not_true_and_false true refl e)
    left (notice (Bid b)) k e = absurd (not_true_and_false true refl e)
    left (notice (AskNotice a)) k e = refl
    left (notice Withdrawal) k e = absurd (not_true_and_false true refl e)

ask_laws : SideLaws (λ o. o.ask) writes_ask
unfolding writes_ask kept_after
ask_laws = record { written = written; left = left }
  where
    written : (x : Receipt) (k m : External) → writes_ask x ≡ true → (kept_after k x).ask ≡ (kept_after m x).ask
    written (together sent) k m e = refl
    written (notice (Bid b)) k m e = absurd (not_true_and_false false e refl)
    written (notice (AskNotice a)) k m e = refl
    written (notice Withdrawal) k m e = refl

    left : (x : Receipt) (k : External) → writes_ask x ≡ false → (kept_after k x).ask ≡ k.ask
    left (together sent) k e = absurd (not_true_and_false true refl e)
    left (notice (Bid b)) k e = refl
    left (notice (AskNotice a)) k e = absurd (not_true_and_false true refl e)
    left (notice Withdrawal) k e = absurd (not_true_and_false true refl e)

module _ (side : External → ℕ) (writes : Receipt → Bool) (h : SideLaws side writes) (x : Receipt) (k m : External)
    (later : Bool) (same : (writes x || later) ≡ false → side k ≡ side m) where
  -- a receipt that both records took
  both_take : later ≡ false → side (kept_after k x) ≡ side (kept_after m x)
  both_take e = go (writes x) refl same
    where
      go : (b : Bool) → writes x ≡ b → ((b || later) ≡ false → side k ≡ side m)
          → side (kept_after k x) ≡ side (kept_after m x)
      go true w s = h.written x k m w
      go false w s = h.left x k w ∙ s e ∙ sym (h.left x m w)

  -- one that the second took alone: what it wrote is written again
  one_takes : (not (writes x) || later) ≡ true → later ≡ false → side k ≡ side (kept_after m x)
  one_takes r e = go (writes x) refl same r
    where
      go : (b : Bool) → writes x ≡ b → ((b || later) ≡ false → side k ≡ side m) → (not b || later) ≡ true
          → side k ≡ side (kept_after m x)
      go true w s r = absurd (not_true_and_false later r e)
      go false w s r = s e ∙ sym (h.left x m w)

receipt_kept : (x : Receipt) (later bid ask : Bool) (r s : Record)
    → Alike later (writes_bid x || bid) (writes_ask x || ask) r s → KeptAsk (receiving x) later bid ask r s
unfolding received
receipt_kept x later bid ask r s k =
    record {
      checks = refl;
      made =
          record {
            watched = k.watched;
            outside = kept_after k.outside x;
            is = ap (λ (z : Record). received z x) k.is;
            same_watched = k.same_watched;
            same_bid = both_take (λ o. o.bid) writes_bid bid_laws x k.outside r.external bid k.same_bid;
            same_ask = both_take (λ o. o.ask) writes_ask ask_laws x k.outside r.external ask k.same_ask;
          };
    }

receipt_left : (x : Receipt) (later bid ask : Bool) (r s : Record)
    → (not (writes_bid x) || bid) ≡ true → (not (writes_ask x) || ask) ≡ true
    → Alike later (writes_bid x || bid) (writes_ask x || ask) r s → Alike later bid ask (received r x) s
unfolding received
receipt_left x later bid ask r s b a k =
    record {
      watched = k.watched;
      outside = k.outside;
      is = k.is;
      same_watched = k.same_watched;
      same_bid = one_takes (λ o. o.bid) writes_bid bid_laws x k.outside r.external bid k.same_bid b;
      same_ask = one_takes (λ o. o.ask) writes_ask ask_laws x k.outside r.external ask k.same_ask a;
    }

-- ---- a line, in front of lines

-- ALIKE BUT FOR WHAT LINES WRITE ANEW
abbrev pub AlikeFor : (lines : List (List ℕ)) → (r s : Record) → Type 0
AlikeFor ls r s =
    Alike (evaluated_in r.id ls) (replaced_in writes_bid r.id ls) (replaced_in writes_ask r.id ls) r s

from_part : (l : List ℕ) (ls : List (List ℕ)) (r s : Record) (p : Part) → part_of l ≡ p → AlikeFor (l ∷ ls) r s
    → AlikeFrom p (evaluated_in r.id ls) (replaced_in writes_bid r.id ls) (replaced_in writes_ask r.id ls) r s
unfolding evaluated_in replaced_in
from_part l ls r s p e k =
    subst
    (λ (p : Part). AlikeFrom p (evaluated_in r.id ls) (replaced_in writes_bid r.id ls)
    (replaced_in writes_ask r.id ls) r s) e k

-- a part that is not of the security with an id
abbrev pub Elsewhere : Part → (id : ℕ) → Type 0
Elsewhere (evaluates i) id = eqb i id ≡ false
Elsewhere (watches i) id = Unit {0}
Elsewhere (receives i x) id = eqb i id ≡ false
Elsewhere (works ym yn) id = Unit {0}
Elsewhere other id = Unit {0}

elsewhere_passes : (p : Part) (later bid ask : Bool) (r s : Record) → Elsewhere p r.id
    → AlikeFrom p later bid ask r s → Alike later bid ask r s
unfolding is_evaluation replaced_by
elsewhere_passes (evaluates i) later bid ask r s h k = rw h at k
elsewhere_passes (watches i) later bid ask r s h k = k
elsewhere_passes (receives i x) later bid ask r s h k = rw h at k
elsewhere_passes (works ym yn) later bid ask r s h k = k
elsewhere_passes other later bid ask r s h k = k

-- A LINE OF ANOTHER SECURITY, OR OF NONE
pub line_passes : (l : List ℕ) (ls : List (List ℕ)) (r s : Record) → Elsewhere (part_of l) r.id
    → AlikeFor (l ∷ ls) r s → AlikeFor ls r s
line_passes l ls r s h k = elsewhere_passes (part_of l) _ _ _ r s h (from_part l ls r s (part_of l) refl k)

-- a quote, a move or an opening
watched_kept : (l : List ℕ) (ls : List (List ℕ)) (x : Ask) → Watches x → (r s : Record) → part_of l ≡ watches r.id
    → part_matters (part_of l) ls ≡ true → AlikeFor (l ∷ ls) r s
    → KeptAsk x (evaluated_in r.id ls) (replaced_in writes_bid r.id ls) (replaced_in writes_ask r.id ls) r s
unfolding part_matters is_evaluation replaced_by
watched_kept l ls x h r s e m k =
    go (evaluated_in r.id ls) (rw e at m) (from_part l ls r s (watches r.id) e k)
  where
    go : (later : Bool) → not later ≡ true
        → Alike later (replaced_in writes_bid r.id ls) (replaced_in writes_ask r.id ls) r s
        → KeptAsk x later (replaced_in writes_bid r.id ls) (replaced_in writes_ask r.id ls) r s
    go true n k = absurd (not_true_and_false false n refl)
    go false n k = watch_kept x h _ _ r s k

watched_left : (l : List ℕ) (ls : List (List ℕ)) (x : Ask) → Watches x → (r s : Record) → part_of l ≡ watches r.id
    → part_matters (part_of l) ls ≡ false → AlikeFor (l ∷ ls) r s
    → Alike (evaluated_in r.id ls) (replaced_in writes_bid r.id ls) (replaced_in writes_ask r.id ls)
    ((rule_of x).made r) s
unfolding part_matters is_evaluation replaced_by
watched_left l ls x h r s e m k =
    go (evaluated_in r.id ls) (rw e at m) (from_part l ls r s (watches r.id) e k)
  where
    go : (later : Bool) → not later ≡ false
        → Alike later (replaced_in writes_bid r.id ls) (replaced_in writes_ask r.id ls) r s
        → Alike later (replaced_in writes_bid r.id ls) (replaced_in writes_ask r.id ls) ((rule_of x).made r) s
    go true n k = watch_left x h _ _ r s k
    go false n k = absurd (not_true_and_false true refl n)

-- A LINE THAT MATTERS is judged alike, and leaves records that are alike
pub ask_kept : (l : List ℕ) (ls : List (List ℕ)) (x : Ask) (r s : Record) → part_of l ≡ ask_part r.id x
    → part_matters (part_of l) ls ≡ true → reads_only x ≡ false → AlikeFor (l ∷ ls) r s
    → KeptAsk x (evaluated_in r.id ls) (replaced_in writes_bid r.id ls) (replaced_in writes_ask r.id ls) r s
unfolding part_matters ask_part reads_only is_evaluation replaced_by
ask_kept l ls (evaluating d rows) r s e m c k =
    evaluation_kept d rows _ _ _ r s (rw (own r) at (from_part l ls r s _ e k))
ask_kept l ls (quoting q) r s e m c k = watched_kept l ls (quoting q) (quote_watches q) r s e m k
ask_kept l ls (moving side) r s e m c k = watched_kept l ls (moving side) (move_watches side) r s e m k
ask_kept l ls reading r s e m c k = absurd (not_true_and_false true refl c)
ask_kept l ls opening r s e m c k = watched_kept l ls opening opening_watches r s e m k
ask_kept l ls (receiving x) r s e m c k = receipt_kept x _ _ _ r s (rw (own r) at (from_part l ls r s _ e k))

-- A LINE THAT DOES NOT MATTER leaves the record alike to one that never took it
pub ask_left : (l : List ℕ) (ls : List (List ℕ)) (x : Ask) (r s : Record) → part_of l ≡ ask_part r.id x
    → part_matters (part_of l) ls ≡ false → AlikeFor (l ∷ ls) r s
    → Alike (evaluated_in r.id ls) (replaced_in writes_bid r.id ls) (replaced_in writes_ask r.id ls)
    ((rule_of x).made r) s
unfolding part_matters ask_part replaced_by is_evaluation
ask_left l ls (evaluating d rows) r s e m k = absurd (not_true_and_false true refl (rw e at m))
ask_left l ls (quoting q) r s e m k = watched_left l ls (quoting q) (quote_watches q) r s e m k
ask_left l ls (moving side) r s e m k = watched_left l ls (moving side) (move_watches side) r s e m k
ask_left l ls reading r s e m k = absurd (not_true_and_false true refl (rw e at m))
ask_left l ls opening r s e m k = watched_left l ls opening opening_watches r s e m k
ask_left l ls (receiving x) r s e m k =
    let both = not_false _ (rw e at m) in
    receipt_left x _ _ _ r s (and_left (side_replaced writes_bid r.id x ls) _ both)
    (and_right (side_replaced writes_bid r.id x ls) _ both) (rw (own r) at (from_part l ls r s _ e k))
