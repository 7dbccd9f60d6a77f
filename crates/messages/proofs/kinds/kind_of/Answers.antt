-- `kind_of` meets its contract: by the kind that is met.
use mathlib.Core.Path.{refl}
use native.Mathlib.Omega.{arith}
use Rattle.paper_messages.specs.Fields.{filled, fields_of, kind_word, places_of}
use Rattle.paper_messages.specs.Messages.{length_of, total}
use Rattle.messages.proofs.Rows.{unknown_has_no_row}
use Rattle.messages.proofs.kinds.kind_of.Goals as goal

pub returns-in-1 : goal.returns-in-1
unfolding length_of places_of fields_of total filled kind_word
returns-in-1 c = rw c.in-1.is (record { length = refl; fields = refl; word = refl })

pub returns-in-2 : goal.returns-in-2
unfolding length_of places_of fields_of total filled kind_word
returns-in-2 c = rw c.in-2.is (record { length = refl; fields = refl; word = refl })

pub returns-in-3 : goal.returns-in-3
unfolding length_of places_of fields_of total filled kind_word
returns-in-3 c = rw c.in-3.is (record { length = refl; fields = refl; word = refl })

pub returns-in-4 : goal.returns-in-4
unfolding length_of places_of fields_of total filled kind_word
returns-in-4 c = rw c.in-4.is (record { length = refl; fields = refl; word = refl })

pub returns-in-5 : goal.returns-in-5
unfolding length_of places_of fields_of total filled kind_word
returns-in-5 c = rw c.in-5.is (record { length = refl; fields = refl; word = refl })

pub returns-in-6 : goal.returns-in-6
unfolding length_of places_of fields_of total filled kind_word
returns-in-6 c = rw c.in-6.is (record { length = refl; fields = refl; word = refl })

pub returns-in-7 : goal.returns-in-7
unfolding length_of places_of fields_of total filled kind_word
returns-in-7 c = rw c.in-7.is (record { length = refl; fields = refl; word = refl })

pub returns-in-8 : goal.returns-in-8
unfolding length_of places_of fields_of total filled kind_word
returns-in-8 c = rw c.in-8.is (record { length = refl; fields = refl; word = refl })

pub returns-in_default : goal.returns-in_default
unfolding length_of places_of fields_of total filled kind_word
returns-in_default c =
    rw (unknown_has_no_row c.args.kind (λ some. omega arith)) (record { length = refl; fields = refl; word = refl })
