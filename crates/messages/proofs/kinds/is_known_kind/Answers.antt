-- `is_known_kind` meets its contract: the known kinds follow each other, so that the first and the last bound them, as
-- in the definition.
use borrow.Author.Rules.{rules}
use Rattle.paper_messages.specs.Messages.{is_known_kind}
use Rattle.messages.proofs.kinds.is_known_kind.Goals as goal

pub returns : goal.returns
unfolding is_known_kind
returns c = search rules
