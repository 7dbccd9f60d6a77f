-- `night_serve::asked` meets its contract: by how many numbers there are.
use mathlib.Core.Path.{sym}
use borrow.Author.Tests.{lt-ltb, le-ltb}
use Rattle.night_protocol.specs.Sheet.{day_numbers}
use Rattle.night_serve.proofs.asked.Goals as goal

pub returns-then-a-lt-DAY_NUMBERS : goal.returns-then-a-lt-DAY_NUMBERS
returns-then-a-lt-DAY_NUMBERS c = rw (lt-ltb _ day_numbers c.if-a-lt-DAY_NUMBERS.true) c.spoilt.ensures

pub returns : goal.returns
returns c = sym (rw (le-ltb _ day_numbers c.if-a-lt-DAY_NUMBERS.false))
