-- What the reader is lent are bytes, since a `&[u8]` holds nothing else; so what `heard_only` says of a buffer of bytes
-- holds of every buffer that is lent to it.
use mathlib.Core.Path.{◌≡◌}
use mathlib.Core.Bool.{true}
use mathlib.Core.List.{List, [], ◌∷◌}
use Prim.Native.Nat.{ℕ, suc, ◌+◌, ◌<◌}
use lib.ListN.{length, take, drop, get_or}
use contract.Lifetimes.{Lfts}
use borrow.Fn.World.{ArgsD, ResD}
use borrow.Fn.Kinds.{ended_of}
use denote.Triple.Clauses.{AtExit}
use Rattle.paper.specs.declared.Verdict.TheVariants.{Done}
use Rattle.paper_messages.specs.Bytes.{Bytes, no_byte, byte, in_byte}
use Rattle.paper_messages.specs.Messages.{encode, valid, verdict_of, known_heard, message_heard, next_heard}
use Rattle.paper_messages.proofs.MessageLaws.{heard_only}
use Rattle.messages.proofs.read as read
use Rattle.messages.specs.contracts.read as stated

-- a list is of bytes where each element is one; past its end stands 0
pub each_is_byte : (b : List ℕ) → ((i : ℕ) → get_or b i 0 < in_byte) → Bytes b
each_is_byte [] h = no_byte
each_is_byte (x ∷ b) h = byte (h 0) (each_is_byte b (λ i. h (suc i)))

-- AN ACCEPTED MESSAGE IS THE ONLY ENCODING OF ITS FIELDS: where the reader takes a message of a known kind, whatever it
-- was lent, the message is valid, and the bytes from the place on to the next are its encoding. `Post` is the plain
-- reading of the reader's own `ensures`, at the buffer and the place
pub read_hears_only : (κs : Lfts 1) (a : ArgsD stated.signature κs) (r : ResD stated.signature κs)
    (e : AtExit (ended_of 1 read.Kinds.ps read.Kinds.r) κs)
    → read.Reads.Post κs a r e → verdict_of r ≡ Done → known_heard r ≡ true
    → let m = message_heard r in
    (valid m ≡ true)
    × (encode m ≡ take (length (encode m)) (drop a.1.0 a.0.now))
    × (next_heard r ≡ a.1.0 + length (encode m))
read_hears_only κs a r e p done known =
    rw p.answers
    (heard_only a.0.now a.1.0 p.bytes (rw p.answers at done) (rw p.answers at known))
