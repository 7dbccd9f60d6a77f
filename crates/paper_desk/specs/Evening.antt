-- Document 02, W-210, with clauses 11.3, 17.4 and 17.5: what the evening session changes of alerts and of moves.
use Rattle.std.specs.Prelude.{Bool, true, false, ◌&&◌, ℕ, ◌+◌, ltb}
use Rattle.paper.specs.declared.Statics.{Statics}
use Rattle.paper.specs.declared.Session.{Session}
use Rattle.paper.specs.declared.Session.TheVariants.{Main, Evening}

unfoldable pub is_evening : Session → Bool
is_evening Main = false
is_evening (Evening made) = true

-- "The evening keeps .. its own seconds u (17.5)": the seconds that an alert needs
unfoldable pub alert_seconds : Statics → Session → ℕ
alert_seconds st Main = st.u
alert_seconds st (Evening made) = st.uevening

-- "Moves then are allowed only with Autochange yes and only until the security's evening maximum .. is reached (17.4)."
unfoldable pub move_allowed : Statics → Session → Bool
move_allowed st Main = true
move_allowed st (Evening made) = st.autochange && ltb made st.eveningmax

-- "the evening moves made": an evening move counts, whichever its side
unfoldable pub session_moved : Session → Session
session_moved Main = Main
session_moved (Evening made) = Evening (made + 1)
