-- docs/EVENING.md, "The calls", by examples: of each call a line whose numbers count up, beside the call that it asks
-- for, so that each number is seen at the place that its name has. `asked` computes them all.
use Rattle.std.specs.Prelude.{◌≡◌, refl, List, [], ◌∷◌, ◌++◌, Float, pos, ℕ}
use Prim.Native.String.{String}
use Rattle.std.specs.Float.{binary64}
use Rattle.std.specs.Float.Ieee.{of_bits}
use Rattle.paper.specs.declared.Verdict.TheVariants.{Done}
use Rattle.paper.specs.declared.RepoBand.TheVariants as band
use Rattle.paper.specs.declared.Notice.TheVariants.{Bid, Ask, Withdrawal}
use Rattle.paper.specs.Verdicts.{is_done}
use Rattle.paper.specs.Ranges.{unsigned, given_of}
use Rattle.paper.specs.PinnedValues.{given_with}
use Rattle.paper.specs.Terms.{worked_repo, repo_of, day_of, term_of as dayTerm}
use Rattle.paper_desk.specs.Desk.{admit, evaluate, quote, move, read, open_evening, receive}
use Rattle.paper_desk.specs.External.{together, notice}
use Rattle.text_protocol.specs.declared.Kept.{Kept}
use Rattle.text_bytes.specs.Bytes.{is_blank, is_not, run, grow, pieces, full, words, same, bytes}
use Rattle.text_bytes.specs.Numbers.{is_digit, size_from, size_of, up_to, above, below, number_of, slash_at}
use Rattle.text_protocol.specs.Names.{code, forms, kind_from, kind_of, count_fits, takes_in, takes, place_of, the}
use Rattle.text_protocol.specs.Line.{one_of, two_of, item_of, has_terms, place_in, pair_fits, with_pair, more, taking}
use Rattle.text_protocol.specs.Line.{on_with, finished, fill, is_heading, called, meaning}
use Rattle.text_protocol.specs.LineCases.{naturals, z_text}
use Rattle.text_protocol.specs.Kept.{no_pair, found_in}
use Rattle.text_protocol.specs.Calls.{Deed, call, interest, bond, admission_of, quote_of, bits_of, float_of}
use Rattle.text_protocol.specs.Calls.{outside_of, notice_call, interest_of, band_of, term_of, asked_of, bond_statics_of}
use Rattle.text_protocol.specs.Calls.{bond_of, figures_behind, desk_call, call_of, deed_of}

-- of the pair 6/7 the limits 60 and 70 are kept, of no other pair any
unfoldable pub kept_limits : Kept
kept_limits =
    record {
      newest = record { ym = 6; yn = 7; worked = record { verdict = Done; lower = pos 60; upper = pos 70 } };
      middle = no_pair;
      oldest = no_pair;
    }

-- the float of 64 bits
unfoldable pub float_at : ℕ → Float
float_at bits = of_bits binary64 bits

-- what a line asks for. It opens every definition that a line is read with, so that a table opens this one alone
unfoldable pub deed_in : List ℕ → Deed
unfolding float_at kept_limits bytes is_done unsigned worked_repo repo_of day_of dayTerm is_blank is_not run grow pieces full
    words same is_digit size_from size_of up_to above below number_of slash_at code forms kind_from kind_of
    count_fits takes_in takes place_of the one_of two_of item_of has_terms place_in pair_fits with_pair more taking on_with
    finished fill is_heading called meaning found_in given_of admission_of quote_of bits_of float_of outside_of notice_call
    interest_of band_of term_of asked_of bond_statics_of bond_of figures_behind desk_call call_of deed_of
deed_in text = deed_of kept_limits (meaning text)

unfoldable pub deed_by : String → Deed
unfolding deed_in
deed_by text = deed_in (bytes text)

-- EACH NUMBER OF A LINE IS THE ONE OF ITS NAME, and an admission's statics are Z's; a pair of terms that is kept is its
-- limits
pub asked : (deed_in (bytes "admit 1 2 3 4 5 6" ++ z_text "1")
    ≡ call (admit (record {
      id = 1;
      day = 2;
      p1 = 3;
      p2 = 4;
      s = 5;
      tentative = 6;
      given = given_with 10;
    })))
    × (deed_by "evaluate 1 2 3 4 5 6 7 8 9 10 11 12 13 14 15"
    ≡ call (evaluate 1 (record {
      day = 2;
      b = 3;
      m = 4;
      terms = record { k = 5; low = pos 6; high = pos 7 } ∷ record { k = 8; low = pos 9; high = pos 10 }
          ∷ record { k = 11; low = pos 12; high = pos 13 } ∷ [];
    }) (naturals (14 ∷ 15 ∷ []))))
    × (deed_by "evaluate 1 2 3 4 5 6/7 8 9 10 11 12 13"
    ≡ call (evaluate 1 (record {
      day = 2;
      b = 3;
      m = 4;
      terms = record { k = 5; low = pos 60; high = pos 70 } ∷ record { k = 8; low = pos 9; high = pos 10 }
          ∷ record { k = 11; low = pos 12; high = pos 13 } ∷ [];
    }) []))
    × (deed_by "evaluate 1 2 3 4 5 6 7 8 9 10 11 6/7"
    ≡ call (evaluate 1 (record {
      day = 2;
      b = 3;
      m = 4;
      terms = record { k = 5; low = pos 6; high = pos 7 } ∷ record { k = 8; low = pos 9; high = pos 10 }
          ∷ record { k = 11; low = pos 60; high = pos 70 } ∷ [];
    }) []))
    × (deed_by "quote 1 2 3 4 5" ≡ call (quote 1 (record { second = 2; term = 3; bid = 4; ask = 5 })))
    × (deed_by "move 1 2" ≡ call (move 1 2))
    × (deed_by "read 1" ≡ call (read 1))
    × (deed_by "open 1" ≡ call (open_evening 1))
    × (deed_by "outside 1 2 3" ≡ call (receive 1 (together (record { bid = float_at 2; ask = float_at 3 }))))
    × (deed_by "notice 1 0 2" ≡ call (receive 1 (notice (Bid (float_at 2)))))
    × (deed_by "notice 1 1 4637300241308057600" ≡ call (receive 1 (notice (Ask (float_at 0x405b_0000_0000_0000)))))
    -- of a number below zero: the zero that has a minus, and -1, whose bits are all 1
    × (deed_by "notice 1 0 -9223372036854775808" ≡ call (receive 1 (notice (Bid (float_at 0x8000_0000_0000_0000)))))
    × (deed_by "notice 1 0 -1" ≡ call (receive 1 (notice (Bid (float_at 0xffff_ffff_ffff_ffff)))))
    × (deed_by "notice 1 2 3" ≡ call (move 1 2))
    × (deed_by "withdraw 1" ≡ call (receive 1 (notice Withdrawal)))
    × (deed_by "interest 1 2 3 4 5 6 7 8 9 10 11 12 13 14 15 16"
    ≡ interest (record {
      b = 1;
      ym = 2;
      yn = 3;
      model = record { aup = 4; adown = 5; q = 6 };
      h = 7;
      wait = 8;
      liq = 9;
      mm = 10;
      sec = 11;
      xir = 12;
      money = pos 13;
      secrate = pos 14;
    }) (naturals (15 ∷ 16 ∷ [])))
    × (deed_by "bond 1 2 3 4 5 6 7 8 9 10 11 12 6/7 15 16 17 18 19 20 21 22 23 24 25 26 27 28 29 30 31 32 33 34 35"
    ≡ bond (record {
      m = 1;
      net = 2;
      face = 3;
      accrued = 4;
      s = 6;
      tentative = record { bp = 7; age = 8 };
      statics = record {
        h = 18;
        q = 19;
        wait = 20;
        rh1 = 21;
        rh2 = 22;
        rh3 = 23;
        liq = 24;
        min1 = 25;
        min2 = 26;
        min3 = 27;
        smax = 28;
        xpr = 29;
        pchmax = 30;
        pclmax = 31;
        monitoring = 32;
        ewma = 33;
      };
      first = record { k = 9; band = band.AsGiven (record { low = pos 10; high = pos 11 }) };
      second = record { k = 12; band = band.WorkedOut (record { verdict = Done; lower = pos 60; upper = pos 70 }) };
      third = record { k = 15; band = band.AsGiven (record { low = pos 16; high = pos 17 }) };
      repo = pos 5;
    }) (naturals (34 ∷ 35 ∷ [])))
    × (deed_by "bond 1 2 3 4 5 6 7 8 9 10 11 12 13 14 15 6/7 18 19 20 21 22 23 24 25 26 27 28 29 30 31 32 33 34 35"
    ≡ bond (record {
      m = 1;
      net = 2;
      face = 3;
      accrued = 4;
      s = 6;
      tentative = record { bp = 7; age = 8 };
      statics = record {
        h = 18;
        q = 19;
        wait = 20;
        rh1 = 21;
        rh2 = 22;
        rh3 = 23;
        liq = 24;
        min1 = 25;
        min2 = 26;
        min3 = 27;
        smax = 28;
        xpr = 29;
        pchmax = 30;
        pclmax = 31;
        monitoring = 32;
        ewma = 33;
      };
      first = record { k = 9; band = band.AsGiven (record { low = pos 10; high = pos 11 }) };
      second = record { k = 12; band = band.AsGiven (record { low = pos 13; high = pos 14 }) };
      third = record { k = 15; band = band.WorkedOut (record { verdict = Done; lower = pos 60; upper = pos 70 }) };
      repo = pos 5;
    }) (naturals (34 ∷ 35 ∷ [])))
unfolding deed_by z_text given_with
asked = (refl, refl, refl, refl, refl, refl, refl, refl, refl, refl, refl, refl, refl, refl, refl, refl, refl, refl)
