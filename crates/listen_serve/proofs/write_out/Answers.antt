-- `listen_serve::write_out` meets its contract: the lines that wait are handed over, all of them.
use mathlib.Core.Path.{refl, ap}
use mathlib.Core.Bool.{Bool, not, ◌||◌}
use Rattle.listen_serve.proofs.write_out.Goals as goal

pub returns : goal.returns
returns c =
    record {
      lines = record { none = refl; hands = c.hand-told.ensures };
      at = refl;
      len = refl;
      feed = refl;
      read = refl;
      goes_on =
          ap (λ (took : Bool). c.args.over || not took)
          c.took_all.ensures;
    }
