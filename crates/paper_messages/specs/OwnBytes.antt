-- The bytes that the reader looks at, and when two texts are heard alike: what proofs/OwnBytes.antt is stated with.
use Rattle.std.specs.Prelude.{◌≡◌, true, List, ℕ, ◌+◌}
use Rattle.paper.specs.Lists.{pick}
use Rattle.paper.specs.Ranges.{within}
use Rattle.paper.specs.Verdicts.{is_done, first_of}
use Rattle.paper_messages.specs.Messages.{length_width, length_least, length_most, length_at, read_checks}
use Rattle.paper_messages.specs.Messages.{accepted_heard}

-- how many bytes are the message's own: those of the length alone, where no message has it, else all that it says
unfoldable pub own_bytes : (bytes : List ℕ) → ℕ
own_bytes bytes = pick (within length_least length_most (length_at bytes)) (length_width + length_at bytes) length_width

-- the same number is answered of both, and the same is heard of both where it is 0
abbrev pub HeardAlike : (bytes others : List ℕ) → Type 0
HeardAlike bytes others =
    (first_of (read_checks others) ≡ first_of (read_checks bytes))
    × (is_done (first_of (read_checks bytes)) ≡ true → (place : ℕ)
    → accepted_heard place others ≡ accepted_heard place bytes)
