-- The calls of document 01 that lines say, in order. The demands speak of calls (`run`), an evening of lines
-- (`after_all`): proofs/Calls.antt proves that both lead to the same table.
use Rattle.std.specs.Prelude.{List, [], ◌∷◌, ◌++◌, ℕ}
use Rattle.paper_desk.specs.Desk.{Call}
use Rattle.text_protocol.specs.Calls.{Deed, nothing, no_call, call, interest, bond}
use Rattle.text_evening.specs.Evening.{Evening, asked_by, after}

-- a line says one call of document 01 or none: interest and bond lines stand beside the table
unfoldable pub calls_in : Deed → List Call
calls_in nothing = []
calls_in no_call = []
calls_in (call c) = c ∷ []
calls_in (interest i keys) = []
calls_in (bond b flows) = []

-- THE CALLS OF LINES, each as it is said when its line comes: a pair's limits are taken from what is kept then
unfoldable pub calls_of : (lines : List (List ℕ)) → Evening → List Call
calls_of [] e = []
calls_of (l ∷ ls) e = calls_in (asked_by l e) ++ calls_of ls (after l e)
