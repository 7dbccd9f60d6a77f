-- WHY A TEXT IS BAD AT A LINE: `exchange` refuses it at that line, asked for some security; or the line is the first of a
-- 513th security, which `exchange` does not see, since it is asked for one.
use mathlib.Core.Path.{◌≡◌, refl, ◌∙◌}
use mathlib.Core.Bool.{Bool, true, false, ◌&&◌, ◌||◌}
use mathlib.Core.List.{List, [], ◌∷◌, ◌++◌, append-nil, append_assoc}
use Prim.Native.Nat.{ℕ, suc, ◌+◌, ◌≤◌, ◌<◌}
use native.Mathlib.Omega.{arith}
use lib.Dec.{ltb, eqb}
use lib.IntN.{ℤ}
use lib.ListN.{length}
use borrow.Author.Tests.{eq-eqb, le-leb, lt-leb, ltb-false}
use Rattle.paper.specs.Lists.{pick}
use Rattle.text_bytes.specs.Bytes.{line_feed, is_line_feed, pieces}
use Rattle.text_bytes.proofs.Spelling.{impossible}
use Rattle.exchange_protocol.specs.Exchange.{rows_most, text_most, accepted, refused}
use Rattle.exchange_protocol.specs.Scan.{Front, front, none, line, collect, reading}
use Rattle.exchange_protocol.specs.Scan.{or_bad as readOrBad}
use Rattle.night_protocol.specs.Night.{good, bad, night_most, securities_most, is_among, firsts, id_of, ids_of}
use Rattle.night_protocol.specs.Night.{rows_in, has_room, or_bad, gather, night_of}
use Rattle.night_protocol.proofs.Rows.{is_of_lem, line_collects}

-- the first of some lines are read, and behind them stands p
pub data Behind : List (List ℕ) → (lines : List (List ℤ)) → (p : List ℕ) → Type 0 where
  at_once : {p : List ℕ} {ps : List (List ℕ)} → Behind (p ∷ ps) [] p
  behind : {q : List ℕ} {ps : List (List ℕ)} {lines : List (List ℤ)} {p : List ℕ} (zs : List ℤ) (rest : List ℕ)
      → line (q ++ line_feed ∷ []) ≡ front zs rest → Behind ps lines p → Behind (q ∷ ps) (zs ∷ lines) p

-- A SECURITY MORE at line m, from line n on behind the lines that are read: those before it are read and have 512
-- securities, and it is read and is of another
pub record SecurityMore (n : ℕ) (lines : List (List ℤ)) (ps : List (List ℕ)) (m : ℕ) : Type 0 where
  pub more : List (List ℤ)
  pub p : List ℕ
  pub zs : List ℤ
  pub rest : List ℕ
  pub stands : Behind ps more p
  pub place : m ≡ n + length more
  pub is : line (p ++ line_feed ∷ []) ≡ front zs rest
  pub full : securities_most ≤ length (firsts (ids_of (lines ++ more)))
  pub other : is_among (id_of zs) (firsts (ids_of (lines ++ more))) ≡ false

-- what may be wrong at line m
pub data Fault (n : ℕ) (lines : List (List ℤ)) (ps : List (List ℕ)) (m : ℕ) : Type 0 where
  of_security : (id : ℕ) → collect id n (rows_in id lines) ps ≡ refused m → Fault n lines ps m
  security_more : SecurityMore n lines ps m → Fault n lines ps m

-- a line that is read and has room has no fault: what is wrong is wrong behind it
further : (n : ℕ) (lines : List (List ℤ)) (p q : List ℕ) (ps : List (List ℕ)) (m : ℕ) (zs : List ℤ) (rest : List ℕ)
    → line (p ++ line_feed ∷ []) ≡ front zs rest → has_room lines zs ≡ true
    → Fault (suc n) (lines ++ zs ∷ []) (q ∷ ps) m → Fault n lines (p ∷ q ∷ ps) m
unfolding collect readOrBad
further n lines p q ps m zs rest l r (of_security id h) =
    of_security id (rw l (line_collects id n lines q ps zs r ∙ h))
further n lines p q ps m zs rest l r (security_more s) =
    security_more (record {
      more = zs ∷ s.more;
      p = s.p;
      zs = s.zs;
      rest = s.rest;
      stands = behind zs rest l s.stands;
      place = omega (arith, s.place);
      is = s.is;
      full = rw (append_assoc lines (zs ∷ []) s.more) at s.full;
      other = rw (append_assoc lines (zs ∷ []) s.more) at s.other;
    })

-- a line that is read and has no room is a seventeenth row of its security, or the first of a security more
no_room : (n : ℕ) (lines : List (List ℤ)) (p q : List ℕ) (ps : List (List ℕ)) (zs : List ℤ) (rest : List ℕ)
    → line (p ++ line_feed ∷ []) ≡ front zs rest → has_room lines zs ≡ false → Fault n lines (p ∷ q ∷ ps) n
unfolding has_room collect readOrBad
no_room n lines p q ps zs rest l e =
    go (ltb (length (rows_in (id_of zs) lines)) rows_most) refl (is_among (id_of zs) (firsts (ids_of lines))) refl
    (ltb (length (firsts (ids_of lines))) securities_most) refl e
  where
    refuses : ltb (length (rows_in (id_of zs) lines)) rows_most ≡ false
        → collect (id_of zs) n (rows_in (id_of zs) lines) (p ∷ q ∷ ps) ≡ refused n
    refuses f = rw (l, is_of_lem (id_of zs) zs, eq-eqb (id_of zs) (id_of zs) refl, f)

    go : (a : Bool) → ltb (length (rows_in (id_of zs) lines)) rows_most ≡ a
        → (b : Bool) → is_among (id_of zs) (firsts (ids_of lines)) ≡ b
        → (c : Bool) → ltb (length (firsts (ids_of lines))) securities_most ≡ c
        → (a && (b || c)) ≡ false → Fault n lines (p ∷ q ∷ ps) n
    go false f b g c h k = of_security (id_of zs) (refuses f)
    go true f true g c h k = impossible cc
    go true f false g true h k = impossible cc
    go true f false g false h k =
        security_more (record {
          more = [];
          p = p;
          zs = zs;
          rest = rest;
          stands = at_once;
          place = omega arith;
          is = l;
          full = rw (append-nil lines) (ltb-false (length (firsts (ids_of lines))) securities_most h);
          other = rw (append-nil lines) g;
        })

faulty : (n : ℕ) (lines : List (List ℤ)) (ps : List (List ℕ)) (m : ℕ) → gather n lines ps ≡ bad m → Fault n lines ps m
unfolding gather collect or_bad readOrBad
faulty n lines [] m e = let g : n ≡ m = cc in of_security 0 (rw g)
faulty n lines (p ∷ []) m e = of_security 0 (go (eqb (length p) 0) e)
  where
    go : (b : Bool) → pick b (good lines) (bad n) ≡ bad m
        → pick b (accepted (rows_in 0 lines)) (refused n) ≡ refused m
    go true f = impossible cc
    go false f = let g : n ≡ m = cc in rw g
faulty n lines (p ∷ q ∷ ps) m e =
    at_line (line (p ++ line_feed ∷ [])) refl e (λ zs h. faulty (suc n) (lines ++ zs ∷ []) (q ∷ ps) m h)
  where
    at_line : (x : Front (List ℤ)) → line (p ++ line_feed ∷ []) ≡ x
        → or_bad x n (λ zs. pick (has_room lines zs) (gather (suc n) (lines ++ zs ∷ []) (q ∷ ps)) (bad n)) ≡ bad m
        → ((zs : List ℤ) → gather (suc n) (lines ++ zs ∷ []) (q ∷ ps) ≡ bad m
        → Fault (suc n) (lines ++ zs ∷ []) (q ∷ ps) m)
        → Fault n lines (p ∷ q ∷ ps) m
    at_line none l f on = let g : n ≡ m = cc in of_security 0 (rw (l, g))
    at_line (front zs rest) l f on = go (has_room lines zs) refl f
      where
        go : (b : Bool) → has_room lines zs ≡ b → pick b (gather (suc n) (lines ++ zs ∷ []) (q ∷ ps)) (bad n) ≡ bad m
            → Fault n lines (p ∷ q ∷ ps) m
        go true r g = further n lines p q ps m zs rest l r (on zs g)
        go false r g = let k : n ≡ m = cc in rw k (no_room m lines p q ps zs rest l r)

-- A TEXT THAT IS BAD at a line, and not too long, has a fault there
pub bad_is_collected : (t : List ℕ) (m : ℕ) → length t ≤ night_most → night_of t ≡ bad m
    → Fault 1 [] (pieces is_line_feed t) m
unfolding night_of
bad_is_collected t m h e =
    faulty 1 [] (pieces is_line_feed t) m (rw (le-leb (length t) night_most h) at e)

-- why a text is bad at a line, by the reading of `exchange`
pub data Refused (t : List ℕ) (m : ℕ) : Type 0 where
  of_security : (id : ℕ) → reading id t ≡ refused m → Refused t m
  security_more : SecurityMore 1 [] (pieces is_line_feed t) m → Refused t m

-- A BAD TEXT OF A LENGTH THAT `exchange` TAKES is refused by it at the same line, asked for some security; or it has a
-- 513th security there
pub bad_is_reading : (t : List ℕ) (m : ℕ) → length t ≤ text_most → night_of t ≡ bad m → Refused t m
unfolding reading rows_in
bad_is_reading t m h e = go (bad_is_collected t m (omega arith) e)
  where
    go : Fault 1 [] (pieces is_line_feed t) m → Refused t m
    go (of_security id f) = of_security id (rw (le-leb (length t) text_most h) f)
    go (security_more s) = security_more s

-- a text that is too long for `night` is too long for `exchange`, whichever security it is asked for
pub too_long_is_reading : (t : List ℕ) → night_most < length t
    → (night_of t ≡ bad 0) × ((id : ℕ) → reading id t ≡ refused 0)
unfolding night_of reading
too_long_is_reading t h =
    let k : text_most < length t = omega arith in
    (rw (lt-leb (length t) night_most h), λ id. rw (lt-leb (length t) text_most k))
