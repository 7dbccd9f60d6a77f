-- Document 01, "How far each promise reaches": a call's promise gives its answer and the whole table after it.
use Rattle.std.specs.Prelude.{◌≡◌, List}
use Rattle.paper.specs.declared.Record.{Record}
use Rattle.paper.specs.declared.Answer.{Answer}
use Rattle.paper_desk.specs.Desk.{Call, step}

-- of the call c on the table t: the answer r and the table t' are those of the paper
pub record Promised (c : Call) (t : List Record) (r : Answer) (t' : List Record) : Type 0 where
  pub answer : r ≡ (step c t).answer
  pub table : t' ≡ (step c t).table
