-- docs/EVENING.md, "The calls": what each call is given, by the names of its numbers; and the call of document 01 (or
-- of W-201, W-206, W-210 or W-211) that a line is.
use Rattle.std.specs.Prelude.{Bool, true, false, List, ℕ, ◌-◌, eqb, Float, ℤ, pos, negsuc, length, drop}
use Rattle.std.specs.Float.{binary64}
use Rattle.std.specs.Float.Ieee.{of_bits}
use Rattle.paper.specs.declared.Admission.{Admission}
use Rattle.paper.specs.declared.Quote.{Quote}
use Rattle.paper.specs.declared.Outside.{Outside}
use Rattle.paper.specs.declared.Notice.TheVariants as sent
use Rattle.paper.specs.declared.AskedAbout.{AskedAbout}
use Rattle.paper.specs.declared.AskedAbout.TheVariants as about
use Rattle.paper.specs.declared.Interest.{Interest}
use Rattle.paper.specs.declared.RepoBand.{RepoBand}
use Rattle.paper.specs.declared.RepoBand.TheVariants as band
use Rattle.paper.specs.declared.AskedTerm.{AskedTerm}
use Rattle.paper.specs.declared.AskedDay.{AskedDay}
use Rattle.paper_bonds.specs.declared.BondStatics.{BondStatics}
use Rattle.paper_bonds.specs.declared.Bond.{Bond}
use Rattle.paper.specs.Lists.{pick}
use Rattle.paper.specs.Ranges.{unsigned, given_of, side_of}
use Rattle.paper.specs.Terms.{day_of}
use Rattle.paper_desk.specs.Desk.{ask_of, Call, admit, about as asks, evaluate, quote, move, read, open_evening, receive}
use Rattle.paper_desk.specs.External.{together, notice}
use Rattle.text_protocol.specs.declared.AskedCall.{AskedCall}
use Rattle.text_protocol.specs.declared.AskedCall.TheVariants as asked
use Rattle.text_protocol.specs.declared.Role.{Role}
use Rattle.text_protocol.specs.declared.Role.TheVariants as role
use Rattle.text_protocol.specs.declared.Ask.{Ask}
use Rattle.text_protocol.specs.declared.Ask.TheVariants as ask
use Rattle.text_protocol.specs.declared.Kept.{Kept}
use Rattle.text_protocol.specs.declared.Pairs.{Pairs}
use Rattle.text_protocol.specs.Kept.{found_in}
use Rattle.text_protocol.specs.Names.{Name, ID, DAY, P1, P2, S, TENTATIVE, H, Q, A-UP, A-DOWN, WAIT, RH1, RH2}
use Rattle.text_protocol.specs.Names.{RH3, LIQ, MIN1, MIN2, MIN3, SMAX, XPR, PCHMAX, PCLMAX, MONITORING, ISEWMA}
use Rattle.text_protocol.specs.Names.{B, M, K0, RRCL0, RRCH0, K1, RRCL1, RRCH1, K2, RRCL2, RRCH2, SECOND, TERM}
use Rattle.text_protocol.specs.Names.{BID, ASK, SIDE, YM, YN, MM, SEC, XIR, MONEY, SECRATE, NET, FACE, ACCRUED}
use Rattle.text_protocol.specs.Names.{REPO, AGE, BIDBITS, ASKBITS, BITS, admission_names, admit_names}
use Rattle.text_protocol.specs.Names.{evaluate_names, quote_names, move_names, id_names, outside_names, notice_names}
use Rattle.text_protocol.specs.Names.{interest_names, bond_names, admit_kind, evaluate_kind, quote_kind, move_kind}
use Rattle.text_protocol.specs.Names.{read_kind, open_kind, outside_kind, notice_kind, interest_kind, bond_kind, the}
use Rattle.text_protocol.specs.Line.{Said, Nothing, NoCall, Call as saysCall}

-- a number that may not be below zero: one that is, is out of every range
abbrev pub unsigned_of : List Name → List ℤ → Name → ℕ
unsigned_of names zs x = unsigned (the names zs x)

-- the figures behind the named numbers: an admission's statics, an evaluation's rows, an evening's key maturities, a
-- bond's cash flows
unfoldable pub figures_behind : List Name → List ℤ → List ℤ
figures_behind names zs = drop (length names) zs

unfoldable pub admission_of : List ℤ → Admission
unfolding figures_behind admission_names
admission_of zs =
    record {
      id = unsigned_of admit_names zs ID;
      day = unsigned_of admit_names zs DAY;
      p1 = unsigned_of admit_names zs P1;
      p2 = unsigned_of admit_names zs P2;
      s = unsigned_of admit_names zs S;
      tentative = unsigned_of admit_names zs TENTATIVE;
      given = given_of (figures_behind admission_names zs);
    }

unfoldable pub quote_of : List ℤ → Quote
quote_of zs =
    record {
      second = unsigned_of quote_names zs SECOND;
      term = unsigned_of quote_names zs TERM;
      bid = unsigned_of quote_names zs BID;
      ask = unsigned_of quote_names zs ASK;
    }

-- ---- what the outside source sends

-- the 64 bits that a signed number stands for, as a number: those of -1 are all 1, and those of -(n + 1) are n less
abbrev pub all_ones : ℕ
all_ones = 18446744073709551615

unfoldable pub bits_of : ℤ → ℕ
bits_of (pos n) = n
bits_of (negsuc n) = all_ones - n

-- THE FLOAT of 64 bits that stand as a signed number
unfoldable pub float_of : ℤ → Float
float_of z = of_bits binary64 (bits_of z)

unfoldable pub outside_of : List ℤ → Outside
outside_of zs =
    record { bid = float_of (the outside_names zs BIDBITS); ask = float_of (the outside_names zs ASKBITS) }

-- a notice of a side: 0 is a bid and 1 an ask. Another side is the move of that side, which no move has: it is refused
-- with 1, then with 6
unfoldable pub notice_call : (id side : ℕ) → Float → Call
notice_call id side x =
    pick (eqb side 0) (receive id (notice (sent.Bid x)))
    (pick (eqb side 1) (receive id (notice (sent.Ask x))) (move id side))

-- ---- an evening's interest side

unfoldable pub interest_of : List ℤ → Interest
interest_of zs =
    record {
      b = unsigned_of interest_names zs B;
      ym = unsigned_of interest_names zs YM;
      yn = unsigned_of interest_names zs YN;
      model =
          record {
            aup = unsigned_of interest_names zs A-UP;
            adown = unsigned_of interest_names zs A-DOWN;
            q = unsigned_of interest_names zs Q;
          };
      h = unsigned_of interest_names zs H;
      wait = unsigned_of interest_names zs WAIT;
      liq = unsigned_of interest_names zs LIQ;
      mm = unsigned_of interest_names zs MM;
      sec = unsigned_of interest_names zs SEC;
      xir = unsigned_of interest_names zs XIR;
      money = the interest_names zs MONEY;
      secrate = the interest_names zs SECRATE;
    }

-- ---- an evaluation, and the terms that a bond has too

-- where a pair stands in a term, the two numbers are Ym and Yn, and the band is the newest kept answer of that pair;
-- else they are the band
unfoldable pub band_of : Kept → (pair : Bool) → (low high : ℤ) → RepoBand
band_of k true low high = band.WorkedOut (found_in k (unsigned low) (unsigned high))
band_of k false low high = band.AsGiven (record { low = low; high = high })

unfoldable pub term_of : (names : List Name) → Kept → (zs : List ℤ) → (pair : Bool) → (days low high : Name) → AskedTerm
term_of names k zs pair days low high =
    record {
      k = unsigned_of names zs days;
      band = band_of k pair (the names zs low) (the names zs high);
    }

unfoldable pub asked_of : Kept → List ℤ → Pairs → AskedDay
asked_of k zs p =
    record {
      day = unsigned_of evaluate_names zs DAY;
      b = unsigned_of evaluate_names zs B;
      m = unsigned_of evaluate_names zs M;
      first = term_of evaluate_names k zs p.first K0 RRCL0 RRCH0;
      second = term_of evaluate_names k zs p.second K1 RRCL1 RRCH1;
      third = term_of evaluate_names k zs p.third K2 RRCL2 RRCH2;
    }

-- ---- a bond

unfoldable pub bond_statics_of : List ℤ → BondStatics
bond_statics_of zs =
    record {
      h = unsigned_of bond_names zs H;
      q = unsigned_of bond_names zs Q;
      wait = unsigned_of bond_names zs WAIT;
      rh1 = unsigned_of bond_names zs RH1;
      rh2 = unsigned_of bond_names zs RH2;
      rh3 = unsigned_of bond_names zs RH3;
      liq = unsigned_of bond_names zs LIQ;
      min1 = unsigned_of bond_names zs MIN1;
      min2 = unsigned_of bond_names zs MIN2;
      min3 = unsigned_of bond_names zs MIN3;
      smax = unsigned_of bond_names zs SMAX;
      xpr = unsigned_of bond_names zs XPR;
      pchmax = unsigned_of bond_names zs PCHMAX;
      pclmax = unsigned_of bond_names zs PCLMAX;
      monitoring = unsigned_of bond_names zs MONITORING;
      ewma = unsigned_of bond_names zs ISEWMA;
    }

unfoldable pub bond_of : Kept → List ℤ → Pairs → Bond
bond_of k zs p =
    record {
      m = unsigned_of bond_names zs M;
      net = unsigned_of bond_names zs NET;
      face = unsigned_of bond_names zs FACE;
      accrued = unsigned_of bond_names zs ACCRUED;
      s = unsigned_of bond_names zs S;
      tentative = record { bp = unsigned_of bond_names zs TENTATIVE; age = unsigned_of bond_names zs AGE };
      statics = bond_statics_of zs;
      first = term_of bond_names k zs p.first K0 RRCL0 RRCH0;
      second = term_of bond_names k zs p.second K1 RRCL1 RRCH1;
      third = term_of bond_names k zs p.third K2 RRCL2 RRCH2;
      repo = the bond_names zs REPO;
    }

-- ---- what a line asks for

pub data Deed : Type 0 where
  nothing : Deed
  no_call : Deed
  call : Call → Deed
  interest : Interest → (keys : List ℤ) → Deed
  bond : Bond → (flows : List ℤ) → Deed

-- the call of the desk of a kind, where k is what is kept of the interest lines. The last is a withdrawal
unfoldable pub desk_call : Kept → (kind : ℕ) → List ℤ → Pairs → Call
desk_call k kind zs p =
    pick (eqb kind admit_kind) (admit (admission_of zs))
    (pick (eqb kind evaluate_kind)
    (evaluate (unsigned_of evaluate_names zs ID) (day_of (asked_of k zs p)) (figures_behind evaluate_names zs))
    (pick (eqb kind quote_kind) (quote (unsigned_of quote_names zs ID) (quote_of zs))
    (pick (eqb kind move_kind) (move (unsigned_of move_names zs ID) (unsigned_of move_names zs SIDE))
    (pick (eqb kind read_kind) (read (unsigned_of id_names zs ID))
    (pick (eqb kind open_kind) (open_evening (unsigned_of id_names zs ID))
    (pick (eqb kind outside_kind) (receive (unsigned_of outside_names zs ID) (together (outside_of zs)))
    (pick (eqb kind notice_kind)
    (notice_call (unsigned_of notice_names zs ID) (unsigned_of notice_names zs SIDE) (float_of (the notice_names zs BITS)))
    (receive (unsigned_of id_names zs ID) (notice sent.Withdrawal)))))))))

-- what a line of a kind asks for
unfoldable pub call_of : Kept → (kind : ℕ) → List ℤ → Pairs → Deed
call_of k kind zs p =
    pick (eqb kind interest_kind) (interest (interest_of zs) (figures_behind interest_names zs))
    (pick (eqb kind bond_kind) (bond (bond_of k zs p) (figures_behind bond_names zs)) (call (desk_call k kind zs p)))

unfoldable pub deed_of : Kept → Said → Deed
deed_of k Nothing = nothing
deed_of k NoCall = no_call
deed_of k (saysCall kind zs p) = call_of k kind zs p

-- ---- the same, as the code has it

-- the call of document 01 that is asked for, with the row figures
unfoldable pub call_asked : AskedCall → (rows : List ℤ) → Call
call_asked (asked.Admit a) rows = admit a
call_asked (asked.About id x) rows = asks id (ask_of x rows)

-- what a call about a security is to the text
unfoldable pub role_about : (id : ℕ) → AskedAbout → Role
role_about id (about.Evaluate d) = role.Evaluation id d
role_about id (about.Quote q) = role.Quote
role_about id (about.Move side) = role.Move (side_of side)
role_about id about.Read = role.Other
role_about id about.Open = role.Opening
role_about id (about.Receive x) = role.Other
role_about id (about.Notify x) = role.Other

-- what a call is to the text
unfoldable pub role_of : AskedCall → Role
role_of (asked.Admit a) = role.Admission a
role_of (asked.About id x) = role_about id x

-- THE DEED that is asked for by a line of these numbers: the figures stand behind the numbers that have names
unfoldable pub deed_asked : Ask → (numbers : List ℤ) → Deed
deed_asked ask.Nothing zs = nothing
deed_asked ask.NoCall zs = no_call
deed_asked (ask.Call c) zs = call (call_asked c (figures_behind evaluate_names zs))
deed_asked (ask.Interest i) zs = interest i (figures_behind interest_names zs)
deed_asked (ask.Bond b) zs = bond b (figures_behind bond_names zs)
