-- `text_evidence::fill` meets its contract: a read stores behind the first `have` bytes, which it leaves as they were.
use lib.Seq.{take_at, length-take-le}
use borrow.Author.Rules.{rules}
use Rattle.text_evidence.specs.Evidence.{counted}
use Rattle.text_evidence.proofs.fill.Goals as goal

pub returns : goal.returns
unfolding counted
returns c =
    record {
      long = search rules;
      kept = take_at _ _ _ (length-take-le _ _ c.requires);
      room = search rules;
      most = search rules;
      count = search rules;
    }
