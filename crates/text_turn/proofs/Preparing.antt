-- A line that was heard, and what it asks for: what `prepare` promises.
use mathlib.Core.Path.{◌≡◌, refl}
use mathlib.Core.Bool.{Bool}
use mathlib.Core.List.{List}
use Prim.Native.Nat.{ℕ}
use lib.IntN.{ℤ}
use Rattle.text_protocol.specs.Line.{meaning}
use Rattle.text_protocol.specs.Calls.{deed_of}
use Rattle.text_line.specs.ReadLine.{said}
use Rattle.text_input.specs.declared.Heard.{Heard}
use Rattle.text_input.specs.Input.{Hears}
use Rattle.text_deed.specs.declared.LineDeed.{LineDeed}
use Rattle.text_deed.specs.Deeds.{asks_why, AsksFor}
use Rattle.text_turn.specs.declared.State.{State}
use Rattle.text_turn.specs.Turn.{Prepares}

pub prepared : (b : List ℕ) (s : State) (b' : List ℕ) (h : Heard) (xs : List ℤ) (w : LineDeed) (asked : Bool)
    → Hears b s.input b' h xs → AsksFor s.kept (deed_of s.kept (said h.line xs)) xs w → asked ≡ asks_why s.telling
    → Prepares b s b'
    (record {
      state =
          record {
            input = h.input;
            number = s.number;
            kept = w.kept;
            waits = s.waits;
            told = s.told;
            telling = s.telling;
            stream = s.stream;
          };
      ask = w.ask;
      beside = w.beside;
      asked = asked;
      from = h.from;
      to = h.to;
    }) xs
prepared b s b' h xs w asked p q e =
    let d : AsksFor s.kept (deed_of s.kept (meaning p.line)) xs w = rw p.says at q in
    record {
      line = p.line;
      next = p.next;
      asks = d.asks;
      kept = d.kept;
      beside = d.beside;
      asked = e;
      telling = refl;
      number = refl;
      waits = refl;
      told = refl;
      there = p.there;
      stream = refl;
    }
