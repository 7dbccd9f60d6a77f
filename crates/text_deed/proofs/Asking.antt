-- What a line of each kind asks for is the deed that it says, and what is answered to it at once is that deed's answer.
use mathlib.Core.Path.{◌≡◌, refl, sym, ap, subst, ◌∙◌}
use mathlib.Core.List.{List}
use Prim.Native.Nat.{ℕ}
use lib.IntN.{ℤ}
use lib.ListN.{drop}
use borrow.Author.Tests.{ne_eqb}
use Rattle.paper.specs.declared.Interest.{Interest}
use Rattle.paper.specs.declared.InterestAnswer.{InterestAnswer}
use Rattle.paper_interest.specs.Interest.{interest_answer}
use Rattle.paper_bonds.specs.declared.Bond.{Bond}
use Rattle.paper_bonds.specs.declared.BondAnswer.{BondAnswer}
use Rattle.paper_bonds.specs.Bonds.{bond_answer}
use Rattle.text_protocol.specs.declared.AskedCall.{AskedCall}
use Rattle.text_protocol.specs.declared.Ask.{Ask}
use Rattle.text_protocol.specs.declared.Ask.TheVariants as ask
use Rattle.text_protocol.specs.declared.Kept.{Kept}
use Rattle.text_protocol.specs.declared.Pairs.{Pairs}
use Rattle.text_protocol.specs.Kept.{kept_after}
use Rattle.text_protocol.specs.Names.{interest_kind, bond_kind, evaluate_names, interest_names}
use Rattle.text_protocol.specs.Names.{bond_names, evaluate_count, interest_count, bond_count}
use Rattle.text_protocol.specs.Calls.{Deed, interest_of, bond_of, figures_behind, desk_call, call_of, deed_of, call_asked}
use Rattle.text_protocol.specs.Calls.{deed_asked}
use Rattle.text_evening.specs.Evening.{kept_by}
use Rattle.text_line.specs.ReadLine.{blank_kind, bad_kind, said_as}
use Rattle.text_deed.specs.declared.Beside.{Beside}
use Rattle.text_deed.specs.declared.LineDeed.{LineDeed}
use Rattle.text_deed.specs.Deeds.{BesideIs, AsksFor}

-- ---- the deed

module _ (k : Kept) (kind : ℕ) (zs : List ℤ) (p : Pairs) where
  -- a is what the line asks for
  abbrev IsAsked : Ask → Type 0
  IsAsked a = deed_asked a zs ≡ deed_of k (said_as kind zs p)

  pub asks_nothing : kind ≡ blank_kind → IsAsked ask.Nothing
  unfolding deed_of deed_asked
  asks_nothing e = rw e

  pub asks_no_call : kind ≡ bad_kind → IsAsked ask.NoCall
  unfolding deed_of deed_asked
  asks_no_call e = rw e

  pub asks_interest : (i : Interest) → kind ≡ interest_kind → i ≡ interest_of zs → IsAsked (ask.Interest i)
  unfolding deed_of deed_asked call_of
  asks_interest i e f = rw (e, f)

  pub asks_bond : (b : Bond) → kind ≡ bond_kind → b ≡ bond_of k zs p → IsAsked (ask.Bond b)
  unfolding deed_of deed_asked call_of
  asks_bond b e f = rw (e, f)

  -- a line of no other kind is a call of the desk
  pub asks_call : (c : AskedCall) → (kind ≡ blank_kind → ⊥) → (kind ≡ bad_kind → ⊥) → (kind ≡ interest_kind → ⊥)
      → (kind ≡ bond_kind → ⊥) → call_asked c (drop evaluate_count zs) ≡ desk_call k kind zs p → IsAsked (ask.Call c)
  unfolding deed_of deed_asked call_of figures_behind evaluate_names
  asks_call c no-blank no-bad no-interest no-bond e =
      rw (
        ne_eqb kind blank_kind no-blank,
        ne_eqb kind bad_kind no-bad,
        ne_eqb kind interest_kind no-interest,
        ne_eqb kind bond_kind no-bond,
        e,
      )

-- ---- what is answered to it at once, and what is kept of it

-- neither the interest side nor a bond is asked
Desk : Ask → Type 0
Desk ask.Nothing = Unit {0}
Desk ask.NoCall = Unit {0}
Desk (ask.Call c) = Unit {0}
Desk (ask.Interest i) = ⊥
Desk (ask.Bond b) = ⊥

module _ (k : Kept) (zs : List ℤ) {d : Deed} (a : Ask) (is : deed_asked a zs ≡ d) where
  desk_asks : (x : Ask) → Desk x → (r : LineDeed) → r.ask ≡ x → r.kept ≡ k → AsksFor k (deed_asked x zs) zs r
  unfolding Desk deed_asked kept_by BesideIs
  desk_asks ask.Nothing t r e f = record { asks = rw e; kept = f; beside = tt }
  desk_asks ask.NoCall t r e f = record { asks = rw e; kept = f; beside = tt }
  desk_asks (ask.Call c) t r e f = record { asks = rw e; kept = f; beside = tt }
  desk_asks (ask.Interest i) t r e f = absurd t
  desk_asks (ask.Bond b) t r e f = absurd t

  abbrev As : LineDeed → Type 0
  As r = AsksFor k d zs r

  of_desk : Desk a → (r : LineDeed) → (r.ask ≡ a) × (r.kept ≡ k) → As r
  of_desk t r h = subst (λ (x : Deed). AsksFor k x zs r) is (desk_asks a t r h.0 h.1)

  pub nothing_asked : a ≡ ask.Nothing → (r : LineDeed) → (r.ask ≡ a) × (r.kept ≡ k) → As r
  unfolding Desk
  nothing_asked e r h = of_desk (subst Desk (sym e) tt) r h

  pub no_call_asked : a ≡ ask.NoCall → (r : LineDeed) → (r.ask ≡ a) × (r.kept ≡ k) → As r
  unfolding Desk
  no_call_asked e r h = of_desk (subst Desk (sym e) tt) r h

  pub call_asked_lem : (c : AskedCall) → a ≡ ask.Call c → (r : LineDeed) → (r.ask ≡ a) × (r.kept ≡ k) → As r
  unfolding Desk
  call_asked_lem c e r h = of_desk (subst Desk (sym e) tt) r h

  pub interest_asked : (i : Interest) → a ≡ ask.Interest i → (fs : List ℤ) (x : InterestAnswer) (b : Beside)
      (kept : Kept) → fs ≡ drop interest_count zs → x ≡ interest_answer i fs → b.interest ≡ x → kept ≡ kept_after k i x
      → As (record { ask = ask.Interest i; beside = b; kept = kept })
  unfolding deed_asked kept_by BesideIs figures_behind interest_names
  interest_asked i e fs x b kept f g said h =
      let w : x ≡ interest_answer i (drop interest_count zs) = g ∙ rw f in
      let same : deed_asked (ask.Interest i) zs ≡ d = ap (λ (y : Ask). deed_asked y zs) (sym e) ∙ is in
      record {
        asks = same;
        kept = subst (λ (y : Deed). kept ≡ kept_by y k) same (h ∙ rw w);
        beside = subst (λ (y : Deed). BesideIs y b) same (said ∙ w);
      }

  pub bond_asked : (given : Bond) → a ≡ ask.Bond given → (fs : List ℤ) (x : BondAnswer) (b : Beside)
      → fs ≡ drop bond_count zs → x ≡ bond_answer given fs → b.bond ≡ x
      → As (record { ask = ask.Bond given; beside = b; kept = k })
  unfolding deed_asked kept_by BesideIs figures_behind bond_names
  bond_asked given e fs x b f g said =
      let same : deed_asked (ask.Bond given) zs ≡ d = ap (λ (y : Ask). deed_asked y zs) (sym e) ∙ is in
      record {
        asks = same;
        kept = subst (λ (y : Deed). k ≡ kept_by y k) same refl;
        beside = subst (λ (y : Deed). BesideIs y b) same (said ∙ g ∙ rw f);
      }
