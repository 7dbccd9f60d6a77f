-- How many bytes the numbers of a term, of a record and of the key maturities may take.
use Rattle.std.specs.Prelude.{ℕ, ◌+◌, ◌*◌}
use Rattle.text_out.specs.Places.{next_bytes, next_signed_bytes}

-- the bytes at most of the numbers of a term, and of a record
abbrev pub term_bytes : ℕ
term_bytes = 3 * next_bytes + 4 * next_signed_bytes

abbrev pub record_bytes : ℕ
record_bytes = 24 * next_bytes + 3 * term_bytes

-- the bytes at most of the numbers of a key maturity, and of eight
abbrev pub key_bytes : ℕ
key_bytes = 6 * next_bytes

abbrev pub keys_bytes : ℕ
keys_bytes = 8 * key_bytes
