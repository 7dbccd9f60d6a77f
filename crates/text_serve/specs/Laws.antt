-- For a reader: where no write failed and fewer than 2^64 - 1 lines were served, they are the pieces of all the bytes
-- that were delivered, between line feeds, the table at the end is the table after them, and what was handed to `write`
-- are the answers to them.
use Rattle.std.specs.Prelude.{◌≡◌, refl, Bool, true, false, not, ◌⊎◌, List, [], ◌∷◌, ◌++◌, ℕ, suc, ◌<◌, eqb, length}
use Rattle.std.proofs.Common.{sym, ap, subst, ◌∙◌, inl, inr, append-nil, arith}
use Rattle.paper.specs.Lists.{pick}
use Rattle.text_evening.specs.declared.Telling.{Telling}
use Rattle.text_bytes.specs.Bytes.{line_feed, is_line_feed, is_not, run, grow, pieces, full, words, ended, lines}
use Rattle.text_protocol.specs.Line.{meaning, called}
use Rattle.text_protocol.specs.Calls.{deed_of}
use Rattle.text_evening.specs.Evening.{Evening, start_evening, table_after, text_of, after, answer, after_all, answers}
use Rattle.text_evening.specs.Evening.{messages_by, line_messages, all_messages}
use Rattle.text_evening.specs.Streamed.{stream_of, begun_stream, stream_on}
use Rattle.text_evening.proofs.StreamedLaws.{told_whole}
use Rattle.text_evening.specs.declared.Telling.TheVariants.{Messages}
use Rattle.paper_messages.specs.declared.Message.{Message}
use Rattle.paper_messages.specs.Broadcast.{sent}
use Rattle.paper_messages.specs.Messages.{encode}
use Rattle.paper_messages.specs.Records.{past_signed}
use Rattle.paper_streams.specs.declared.Stream.{Stream}
use Rattle.paper_streams.specs.Streams.{begin_message, end_message}
use Rattle.paper.specs.declared.Record.{Record}
use Rattle.text_evidence.specs.declared.Delivered.{Delivered}
use Rattle.text_evidence.specs.declared.Written.{Written}
use Rattle.text_evidence.specs.Evidence.{took_all}
use Rattle.text_turn.specs.declared.State.{State}
use Rattle.text_input.specs.Input.{line_length, Unbroken, Over}
use Rattle.text_serve.specs.Serve.{Each, joined, most_lines, Cut, Serves}

-- a byte of a line that has no line feed is none, and the rest of the line has none
first_not : (c : ℕ) (l : List ℕ) → Unbroken (c ∷ l) → (eqb c line_feed ≡ false) × Unbroken l
unfolding line_length run is_not
first_not c l h = go (eqb c line_feed) refl h
  where
    go : (b : Bool) → eqb c line_feed ≡ b → pick (not b) (suc (run (is_not line_feed) l)) 0 ≡ suc (length l)
        → (eqb c line_feed ≡ false) × (run (is_not line_feed) l ≡ length l)
    go true e h = let z : ⊥ = omega (arith, h) in absurd z
    go false e h = (e, omega (arith, h))

line_first : (l t : List ℕ) → Unbroken l → pieces is_line_feed (l ++ line_feed ∷ t) ≡ l ∷ pieces is_line_feed t
unfolding pieces is_line_feed grow
line_first [] t h = refl
line_first (c ∷ l) t h = let p = first_not c l h in rw (p.0, line_first l t p.1)

no_feed : (l : List ℕ) → Unbroken l → pieces is_line_feed l ≡ l ∷ []
unfolding pieces is_line_feed grow
no_feed [] h = refl
no_feed (c ∷ l) h = let p = first_not c l h in rw (p.0, no_feed l p.1)

-- THE PIECES of lines that are joined are the lines, and what stands behind them
pub pieces_are : (ls : List (List ℕ)) (u : List ℕ) → Each (ls ++ u ∷ [])
    → pieces is_line_feed (joined ls u) ≡ ls ++ u ∷ []
unfolding joined Each
pieces_are [] u e = no_feed u e.0
pieces_are (l ∷ ls) u e = line_first l (joined ls u) e.0 ∙ ap (λ (z : List (List ℕ)). l ∷ z) (pieces_are ls u e.1)

-- WHERE ALL WENT WELL and fewer lines were served than a run may have, they are the pieces of all that was delivered
pub served_pieces : {got : List ℕ} {lines : List (List ℕ)} {read : Delivered} {told : Written}
    → Cut got lines read told → took_all told ≡ true → length lines < most_lines → lines ≡ pieces is_line_feed got
served_pieces {got} {lines} {read} {told} c well few = every c.heard
  where
    all_of : lines ≡ c.whole ++ c.behind ∷ [] → lines ≡ pieces is_line_feed got
    all_of e =
        e ∙ sym (ap (pieces is_line_feed) c.are ∙ pieces_are c.whole c.behind (subst Each e c.unbroken))

    never : (took_all told ≡ false) ⊎ (length lines ≡ most_lines) → ⊥
    never (inl e) = let z : ◌≡◌ {A = ℕ} 0 1 = cc in omega arith
    never (inr e) = omega (arith, few, e)

    every : ((lines ≡ c.whole ++ c.behind ∷ []) × Over read c.behind)
        ⊎ ((lines ≡ c.whole) × ((took_all told ≡ false) ⊎ (length lines ≡ most_lines)))
        → lines ≡ pieces is_line_feed got
    every (inl e) = all_of e.0
    every (inr e) = absurd (never e.1)

-- an empty line changes no table
empty_line : (e : Evening) → (after [] e).table ≡ e.table
unfolding after table_after deed_of meaning called words full pieces
empty_line e = refl

-- so the empty piece behind a last line feed, which is no line, may stand or not
ended_table : (ps : List (List ℕ)) (e : Evening) → (after_all ps e).table ≡ (after_all (ended ps) e).table
unfolding after_all ended
ended_table [] e = refl
ended_table ([] ∷ []) e = empty_line e
ended_table ((b ∷ p) ∷ []) e = refl
ended_table ([] ∷ q ∷ ps) e = ended_table (q ∷ ps) (after [] e)
ended_table ((b ∷ p) ∷ q ∷ ps) e = ended_table (q ∷ ps) (after (b ∷ p) e)

-- and it has no answer
nothing_told : (telling : Telling) (e : Evening) → answer telling [] e ≡ []
unfolding answer text_of deed_of meaning called words full pieces
nothing_told telling e = refl

ended_told : (telling : Telling) (ps : List (List ℕ)) (e : Evening)
    → answers telling ps e ≡ answers telling (ended ps) e
unfolding answers ended
ended_told telling [] e = refl
ended_told telling ([] ∷ []) e = append-nil (answer telling [] e) ∙ nothing_told telling e
ended_told telling ((b ∷ p) ∷ []) e = refl
ended_told telling ([] ∷ q ∷ ps) e =
    ap (λ (z : List ℕ). answer telling [] e ++ z) (ended_told telling (q ∷ ps) (after [] e))
ended_told telling ((b ∷ p) ∷ q ∷ ps) e =
    ap (λ (z : List ℕ). answer telling (b ∷ p) e ++ z) (ended_told telling (q ∷ ps) (after (b ∷ p) e))

-- nor messages
no_messages : (telling : Telling) (e : Evening) → line_messages telling [] e ≡ []
unfolding line_messages messages_by deed_of meaning called words full pieces
no_messages telling e = refl

ended_messages : (telling : Telling) (ps : List (List ℕ)) (e : Evening)
    → all_messages telling ps e ≡ all_messages telling (ended ps) e
unfolding all_messages ended
ended_messages telling [] e = refl
ended_messages telling ([] ∷ []) e = append-nil (line_messages telling [] e) ∙ no_messages telling e
ended_messages telling ((b ∷ p) ∷ []) e = refl
ended_messages telling ([] ∷ q ∷ ps) e =
    ap (λ (ms : List Message). line_messages telling [] e ++ ms) (ended_messages telling (q ∷ ps) (after [] e))
ended_messages telling ((b ∷ p) ∷ q ∷ ps) e =
    ap (λ (ms : List Message). line_messages telling (b ∷ p) e ++ ms) (ended_messages telling (q ∷ ps) (after (b ∷ p) e))

-- AND THE TABLE AT THE END IS THE TABLE AFTER THE LINES OF ALL THAT WAS DELIVERED
pub served_table : {telling : Telling} {t : List Record} {r : State} {t' : List Record} (s : Serves telling t r t')
    → took_all r.told ≡ true → length s.lines < most_lines
    → t' ≡ (after_all (lines s.got) (start_evening t)).table
unfolding lines
served_table {telling} {t} {r} {t'} s well few =
    ap (λ (z : Evening). z.table) s.evening
    ∙ ap (λ (ls : List (List ℕ)). (after_all ls (start_evening t)).table) (served_pieces s.cut well few)
    ∙ ended_table (pieces is_line_feed s.got) (start_evening t)

-- AND WHAT WAS HANDED TO `write`, IN ORDER, ARE THE ANSWERS TO THEM
pub served_told : {telling : Telling} {t : List Record} {r : State} {t' : List Record} (s : Serves telling t r t')
    → took_all r.told ≡ true → length s.lines < most_lines
    → s.told ≡ answers telling (lines s.got) (start_evening t)
unfolding lines
served_told {telling} {t} {r} {t'} s well few =
    s.said
    ∙ ap (λ (ls : List (List ℕ)). answers telling ls (start_evening t)) (served_pieces s.cut well few)
    ∙ ended_told telling (pieces is_line_feed s.got) (start_evening t)

-- AND WHERE MESSAGES ARE TOLD, `begin`, WHAT WAS HANDED TO `write` AND AN `end` OF THE STREAM'S COUNT AND SUM ARE THE WHOLE
-- STREAM of the messages of these lines
pub served_stream : {from : ℕ} {t : List Record} {r : State} {t' : List Record} (s : Serves (Messages from) t r t')
    → took_all r.told ≡ true → length s.lines < most_lines
    → suc (length (all_messages (Messages from) (lines s.got) (start_evening t))) < past_signed
    → (encode begin_message ++ s.told) ++ sent (end_message r.stream.count r.stream.sum)
    ≡ stream_of from (lines s.got) (start_evening t)
unfolding lines
served_stream {from} {t} {r} {t'} s well few short =
    let start : Evening = start_evening t in
    let all : List (List ℕ) = ended (pieces is_line_feed s.got) in
    let told_is : s.told ≡ answers (Messages from) all start = served_told s well few in
    let messages-are : all_messages (Messages from) s.lines start ≡ all_messages (Messages from) all start =
    ap (λ (ls : List (List ℕ)). all_messages (Messages from) ls start) (served_pieces s.cut well few)
    ∙ ended_messages (Messages from) (pieces is_line_feed s.got) start in
    let stream_is : r.stream
    ≡ stream_on (Messages from) begun_stream (length (all_messages (Messages from) all start))
    (answers (Messages from) all start) =
    s.streamed
    ∙ ap (λ (l : List ℕ). stream_on (Messages from) begun_stream (length (all_messages (Messages from) s.lines start)) l)
    (sym s.said ∙ told_is)
    ∙ ap (λ (ms : List Message). stream_on (Messages from) begun_stream (length ms) (answers (Messages from) all start))
    messages-are in
    ap (λ (l : List ℕ). (encode begin_message ++ l) ++ sent (end_message r.stream.count r.stream.sum)) told_is
    ∙ ap (λ (x : Stream). (encode begin_message ++ answers (Messages from) all start)
    ++ sent (end_message x.count x.sum)) stream_is
    ∙ told_whole from all start short
