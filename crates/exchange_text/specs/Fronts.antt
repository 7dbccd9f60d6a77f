-- What a function found in front of a lent text, and the text behind it, as the reading of the text says it.
use Rattle.std.specs.Prelude.{List, ℕ, Option, Some, None}
use Rattle.std.specs.Borrow.{Bor}
use Rattle.exchange_protocol.specs.Scan.{Front, front, none, Passed, passed}

abbrev pub front_of : {A : Type 0} → Option (A × Bor (List ℕ)) → Front A
front_of (Some (x, rest)) = front x rest.now
front_of None = none

-- a byte or two
abbrev pub passed_of : Option (Bor (List ℕ)) → Front Passed
passed_of (Some rest) = front passed rest.now
passed_of None = none

-- the numbers of a line, which stand apart
abbrev pub front_with : {A : Type 0} → A → Option (Bor (List ℕ)) → Front A
front_with x (Some rest) = front x rest.now
front_with x None = none
