-- `night_serve::reading::Securities::join` meets its contract: those that are left lead to the same ids.
use Rattle.night_serve.proofs.Ids.{Joining}
use Rattle.night_serve.proofs.reading.Securities.join.Given as goal

abbrev pub invariant-loop-k : goal.invariant-loop-k
invariant-loop-k l = Joining l.initial.self.ids l.initial.self.count l.numbers l.self.ids l.all l.k
