-- `word_of` meets its contract: its row has it, and no kind's is longer than the letters.
use Rattle.paper_messages.specs.Fields.{kind_word}
use Rattle.messages.proofs.Rows.{word_within_most}
use Rattle.messages.proofs.kinds.word_of.Goals as goal

pub returns-clause-most : goal.returns-clause-most
unfolding kind_word
returns-clause-most c = rw c.kind_of.ensures.word (word_within_most c.args.kind)
