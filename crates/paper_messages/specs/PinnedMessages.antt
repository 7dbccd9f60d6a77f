-- W-212: one message of each kind, byte for byte, and both sides of each refusal, worked out by hand.
use Rattle.std.specs.Prelude.{◌≡◌, refl, Bool, true, false, List, [], ◌∷◌, ◌++◌, map, ℕ, ℤ, pos, negsuc, set, take, replicate}
use Rattle.std.proofs.lemmas.List.Edits.{sets}
use Rattle.paper.specs.Ranges.{unsigned, given_of, flag_of, valid_statics, statics_of, valid_given}
use Rattle.paper.specs.Verdicts.{number_of, is_done, first_of}
use Rattle.paper.specs.declared.Verdict.TheVariants.{Done}
use Rattle.paper_messages.specs.declared.Message.{Message}
use Rattle.paper_messages.specs.Bytes.{bytes_of, spelled, complement, signed_of}
use Rattle.paper_messages.specs.Fields.{statics_message_kind, rates_message_kind, bands_message_kind, move_message_kind}
use Rattle.paper_messages.specs.Fields.{yes_no, fields_of, filled, places_of}
use Rattle.paper_messages.specs.Messages.{body_of, total, length_of, encode, is_known_kind, in_ranges}
use Rattle.paper_messages.specs.Messages.{as_admission, valid, write_checks, wrote_of, written, values_at, message_at}
use Rattle.paper_messages.specs.Messages.{read_checks, accepted_heard, heard_at, answer_at}
use Rattle.paper_messages.specs.Records.{message}
use Rattle.paper_messages.specs.Messages.{Hearing, kind_heard, known_heard, length_heard, message_heard, next_heard, verdict_of}
use Rattle.std.specs.Result.{result_unwrap_or}

-- ---- a message of each kind

-- the statics of kind 1
unfoldable pub statics_sent : List ℤ
statics_sent =
    pos 10 ∷ pos 100 ∷ pos 300 ∷ pos 500 ∷ pos 100 ∷ pos 5 ∷ pos 1 ∷ pos 2
    ∷ pos 2 ∷ pos 50 ∷ pos 800 ∷ pos 1200 ∷ pos 1500 ∷ pos 10000 ∷ pos 200 ∷ pos 20 ∷ pos 1000
    ∷ pos 900 ∷ pos 500 ∷ pos 300 ∷ pos 1 ∷ pos 1 ∷ pos 60 ∷ pos 0 ∷ pos 3 ∷ pos 1
    ∷ []

unfoldable pub statics_told : Message
unfolding statics_sent
statics_told = message statics_message_kind (pos 7 ∷ statics_sent)

unfoldable pub statics_bytes : List ℕ
statics_bytes =
    98 ∷ 0 ∷ 0 ∷ 0 ∷ 1 ∷ 0 ∷ 7 ∷ 0 ∷ 0 ∷ 0 ∷ 10 ∷ 0 ∷ 0 ∷ 0 ∷ 100 ∷ 0 ∷ 0 ∷ 0 ∷ 44 ∷ 1 ∷ 0 ∷ 0
    ∷ 244 ∷ 1 ∷ 0 ∷ 0 ∷ 100 ∷ 0 ∷ 0 ∷ 0 ∷ 5 ∷ 0 ∷ 0 ∷ 0 ∷ 1 ∷ 0 ∷ 0 ∷ 0 ∷ 2 ∷ 0 ∷ 0 ∷ 0 ∷ 2 ∷ 0 ∷ 0 ∷ 0
    ∷ 50 ∷ 0 ∷ 0 ∷ 0 ∷ 32 ∷ 3 ∷ 0 ∷ 0 ∷ 176 ∷ 4 ∷ 0 ∷ 0 ∷ 220 ∷ 5 ∷ 0 ∷ 0 ∷ 16 ∷ 39 ∷ 0 ∷ 0 ∷ 200 ∷ 0 ∷ 0 ∷ 0
    ∷ 20 ∷ 0 ∷ 0 ∷ 0 ∷ 232 ∷ 3 ∷ 0 ∷ 0 ∷ 132 ∷ 3 ∷ 0 ∷ 0 ∷ 244 ∷ 1 ∷ 0 ∷ 0 ∷ 44 ∷ 1 ∷ 0 ∷ 0 ∷ 1 ∷ 1
    ∷ 60 ∷ 0 ∷ 0 ∷ 0 ∷ 0 ∷ 3 ∷ 0 ∷ 0 ∷ 0 ∷ 1 ∷ []

pub statics_encoded : encode statics_told ≡ statics_bytes
unfolding encode statics_told statics_bytes message filled length_of total places_of fields_of body_of bytes_of complement
statics_encoded = refl

unfoldable pub rates_told : Message
rates_told =
    message rates_message_kind
    (pos 7 ∷ pos 4 ∷ pos 1030000 ∷ pos 21214 ∷ pos 700 ∷ pos 0 ∷ pos 800 ∷ pos 1200 ∷ pos 1500
    ∷ pos 1112400 ∷ pos 1153600 ∷ pos 1184500 ∷ pos 947600 ∷ pos 906400 ∷ pos 875500 ∷ [])

unfoldable pub rates_bytes : List ℕ
rates_bytes =
    94 ∷ 0 ∷ 0 ∷ 0 ∷ 2 ∷ 0 ∷ 7 ∷ 0 ∷ 0 ∷ 0 ∷ 4 ∷ 0 ∷ 0 ∷ 0 ∷ 112 ∷ 183 ∷ 15 ∷ 0 ∷ 0 ∷ 0 ∷ 0 ∷ 0
    ∷ 222 ∷ 82 ∷ 0 ∷ 0 ∷ 0 ∷ 0 ∷ 0 ∷ 0 ∷ 188 ∷ 2 ∷ 0 ∷ 0 ∷ 0 ∷ 0 ∷ 0 ∷ 0 ∷ 32 ∷ 3 ∷ 0 ∷ 0 ∷ 176 ∷ 4 ∷ 0 ∷ 0
    ∷ 220 ∷ 5 ∷ 0 ∷ 0 ∷ 80 ∷ 249 ∷ 16 ∷ 0 ∷ 0 ∷ 0 ∷ 0 ∷ 0 ∷ 64 ∷ 154 ∷ 17 ∷ 0 ∷ 0 ∷ 0 ∷ 0 ∷ 0
    ∷ 244 ∷ 18 ∷ 18 ∷ 0 ∷ 0 ∷ 0 ∷ 0 ∷ 0 ∷ 144 ∷ 117 ∷ 14 ∷ 0 ∷ 0 ∷ 0 ∷ 0 ∷ 0 ∷ 160 ∷ 212 ∷ 13 ∷ 0 ∷ 0 ∷ 0 ∷ 0 ∷ 0
    ∷ 236 ∷ 91 ∷ 13 ∷ 0 ∷ 0 ∷ 0 ∷ 0 ∷ 0 ∷ []

pub rates_encoded : encode rates_told ≡ rates_bytes
unfolding encode rates_told rates_bytes message filled length_of total places_of fields_of body_of bytes_of complement
rates_encoded = refl

unfoldable pub bands_told : Message
bands_told =
    message bands_message_kind
    (pos 1000000000 ∷ pos 1000000 ∷ pos 0 ∷ negsuc 0 ∷ pos 1 ∷ pos 947600 ∷ pos 1112400 ∷ pos 1 ∷ negsuc 9998
    ∷ pos 9999 ∷ pos 0 ∷ pos 2020000000000 ∷ pos 30 ∷ pos 0 ∷ pos 0 ∷ pos 65536 ∷ pos 16777216 ∷ [])

unfoldable pub bands_bytes : List ℕ
bands_bytes =
    94 ∷ 0 ∷ 0 ∷ 0 ∷ 3 ∷ 0 ∷ 0 ∷ 202 ∷ 154 ∷ 59 ∷ 64 ∷ 66 ∷ 15 ∷ 0 ∷ 0 ∷ 0 ∷ 0 ∷ 0 ∷ 255 ∷ 255 ∷ 255 ∷ 255
    ∷ 1 ∷ 0 ∷ 0 ∷ 0 ∷ 144 ∷ 117 ∷ 14 ∷ 0 ∷ 0 ∷ 0 ∷ 0 ∷ 0 ∷ 80 ∷ 249 ∷ 16 ∷ 0 ∷ 0 ∷ 0 ∷ 0 ∷ 0 ∷ 1 ∷ 0 ∷ 0 ∷ 0
    ∷ 241 ∷ 216 ∷ 255 ∷ 255 ∷ 15 ∷ 39 ∷ 0 ∷ 0 ∷ 0 ∷ 0 ∷ 0 ∷ 0 ∷ 0 ∷ 0 ∷ 0 ∷ 0 ∷ 0 ∷ 232 ∷ 97 ∷ 81 ∷ 214 ∷ 1 ∷ 0 ∷ 0
    ∷ 30 ∷ 0 ∷ 0 ∷ 0 ∷ 0 ∷ 0 ∷ 0 ∷ 0 ∷ 0 ∷ 0 ∷ 0 ∷ 0 ∷ 0 ∷ 0 ∷ 1 ∷ 0 ∷ 0 ∷ 0 ∷ 0 ∷ 0
    ∷ 0 ∷ 0 ∷ 0 ∷ 1 ∷ 0 ∷ 0 ∷ 0 ∷ 0 ∷ []

pub bands_encoded : encode bands_told ≡ bands_bytes
unfolding encode bands_told bands_bytes message filled length_of total places_of fields_of body_of bytes_of complement
bands_encoded = refl

unfoldable pub move_told : Message
move_told =
    message move_message_kind
    (pos 7 ∷ pos 1 ∷ pos 3 ∷ pos 100 ∷ pos 256 ∷ pos 65536 ∷ pos 0 ∷ pos 1 ∷ pos 2020000000000
    ∷ [])

unfoldable pub move_bytes : List ℕ
move_bytes =
    62 ∷ 0 ∷ 0 ∷ 0 ∷ 4 ∷ 0 ∷ 7 ∷ 0 ∷ 0 ∷ 0 ∷ 1 ∷ 0 ∷ 0 ∷ 0 ∷ 3 ∷ 0 ∷ 0 ∷ 0
    ∷ 100 ∷ 0 ∷ 0 ∷ 0 ∷ 0 ∷ 0 ∷ 0 ∷ 0 ∷ 0 ∷ 1 ∷ 0 ∷ 0 ∷ 0 ∷ 0 ∷ 0 ∷ 0 ∷ 0 ∷ 0 ∷ 1 ∷ 0 ∷ 0 ∷ 0 ∷ 0 ∷ 0
    ∷ 0 ∷ 0 ∷ 0 ∷ 0 ∷ 0 ∷ 0 ∷ 0 ∷ 0 ∷ 1 ∷ 0 ∷ 0 ∷ 0 ∷ 0 ∷ 0 ∷ 0 ∷ 0 ∷ 0 ∷ 232 ∷ 97 ∷ 81 ∷ 214 ∷ 1 ∷ 0 ∷ 0 ∷ []

pub move_encoded : encode move_told ≡ move_bytes
unfolding encode move_told move_bytes message filled length_of total places_of fields_of body_of bytes_of complement
move_encoded = refl

-- ---- what is heard

-- the number, and of what is heard whether its kind is known, the kind, the length and the place of the next
unfoldable pub heard : List ℕ → (place : ℕ) → List ℕ
heard buffer place =
    let h : Hearing = heard_at buffer place in
    number_of (verdict_of h) ∷ flag_of (known_heard h) ∷ kind_heard h ∷ length_heard h ∷ next_heard h ∷ []

-- a message of so many bytes behind its length, of a kind below 256, with zeros
unfoldable pub zeros : (said kind count : ℕ) → List ℕ
zeros said kind count = said ∷ 0 ∷ 0 ∷ 0 ∷ kind ∷ 0 ∷ replicate count 0

unfoldable pub lengths : List (List ℕ)
lengths =
    heard [] 0  -- fewer than four bytes
    ∷ heard (2 ∷ 0 ∷ 0 ∷ []) 0
    ∷ heard (zeros 2 9 0) 3
    ∷ heard (zeros 2 9 0) 7  -- past the end
    ∷ heard (1 ∷ 0 ∷ 0 ∷ 0 ∷ []) 0  -- 1 is no length, at once
    ∷ heard (2 ∷ 0 ∷ 0 ∷ 0 ∷ []) 0  -- 2 is one, and is cut short
    ∷ heard (2 ∷ 0 ∷ 0 ∷ 0 ∷ 9 ∷ []) 0
    ∷ heard (zeros 2 9 0) 0
    ∷ heard (0 ∷ 16 ∷ 0 ∷ 0 ∷ []) 0  -- 4,096
    ∷ heard (1 ∷ 16 ∷ 0 ∷ 0 ∷ []) 0  -- 4,097
    ∷ heard (0 ∷ 0 ∷ 0 ∷ 1 ∷ []) 0  -- 2^24: the lowest byte comes first
    ∷ []

pub lengths_are : lengths
    ≡ (21 ∷ 0 ∷ 0 ∷ 0 ∷ 0 ∷ [])
    ∷ (21 ∷ 0 ∷ 0 ∷ 0 ∷ 0 ∷ [])
    ∷ (21 ∷ 0 ∷ 0 ∷ 0 ∷ 0 ∷ [])
    ∷ (21 ∷ 0 ∷ 0 ∷ 0 ∷ 0 ∷ [])
    ∷ (22 ∷ 0 ∷ 0 ∷ 0 ∷ 0 ∷ [])
    ∷ (21 ∷ 0 ∷ 0 ∷ 0 ∷ 0 ∷ [])
    ∷ (21 ∷ 0 ∷ 0 ∷ 0 ∷ 0 ∷ [])
    ∷ (0 ∷ 0 ∷ 9 ∷ 2 ∷ 6 ∷ [])
    ∷ (21 ∷ 0 ∷ 0 ∷ 0 ∷ 0 ∷ [])
    ∷ (22 ∷ 0 ∷ 0 ∷ 0 ∷ 0 ∷ [])
    ∷ (22 ∷ 0 ∷ 0 ∷ 0 ∷ 0 ∷ [])
    ∷ []
unfolding lengths heard zeros heard_at accepted_heard read_checks first_of is_done is_known_kind valid in_ranges
    as_admission given_of valid_given valid_statics statics_of unsigned message_at values_at spelled signed_of length_of total
    places_of fields_of filled
lengths_are = refl

-- an unknown kind is skipped by its length, a known one has its own
unfoldable pub kinds : List (List ℕ)
kinds =
    heard (zeros 2 0 0) 0
    ∷ heard (zeros 5 9 3) 0
    ∷ heard (3 ∷ 0 ∷ 0 ∷ 0 ∷ 255 ∷ 255 ∷ 7 ∷ []) 0
    ∷ heard (3 ∷ 0 ∷ 0 ∷ 0 ∷ 1 ∷ 1 ∷ 7 ∷ []) 0  -- 257
    ∷ heard (zeros 3 9 1 ++ zeros 2 10 0) 7
    ∷ heard move_bytes 0
    ∷ heard (7 ∷ 8 ∷ 9 ∷ move_bytes) 3
    ∷ heard (move_bytes ++ 1 ∷ []) 0
    ∷ heard (set move_bytes 0 61) 0  -- all bytes are there
    ∷ heard (set move_bytes 0 63 ++ 0 ∷ []) 0  -- one byte too many
    ∷ heard (set move_bytes 0 63) 0  -- 21 comes before 22
    ∷ heard (take 65 move_bytes) 0
    ∷ heard (set (set move_bytes 6 0) 0 63 ++ 0 ∷ []) 0  -- 22 comes before 23
    ∷ []

pub kinds_are : kinds
    ≡ (0 ∷ 0 ∷ 0 ∷ 2 ∷ 6 ∷ [])
    ∷ (0 ∷ 0 ∷ 9 ∷ 5 ∷ 9 ∷ [])
    ∷ (0 ∷ 0 ∷ 65535 ∷ 3 ∷ 7 ∷ [])
    ∷ (0 ∷ 0 ∷ 257 ∷ 3 ∷ 7 ∷ [])
    ∷ (0 ∷ 0 ∷ 10 ∷ 2 ∷ 13 ∷ [])
    ∷ (0 ∷ 1 ∷ 4 ∷ 62 ∷ 66 ∷ [])
    ∷ (0 ∷ 1 ∷ 4 ∷ 62 ∷ 69 ∷ [])
    ∷ (0 ∷ 1 ∷ 4 ∷ 62 ∷ 66 ∷ [])
    ∷ (22 ∷ 0 ∷ 0 ∷ 0 ∷ 0 ∷ [])
    ∷ (22 ∷ 0 ∷ 0 ∷ 0 ∷ 0 ∷ [])
    ∷ (21 ∷ 0 ∷ 0 ∷ 0 ∷ 0 ∷ [])
    ∷ (21 ∷ 0 ∷ 0 ∷ 0 ∷ 0 ∷ [])
    ∷ (22 ∷ 0 ∷ 0 ∷ 0 ∷ 0 ∷ [])
    ∷ []
unfolding kinds heard move_bytes zeros heard_at accepted_heard read_checks first_of is_done is_known_kind valid
    in_ranges as_admission given_of valid_given valid_statics statics_of unsigned message_at values_at spelled signed_of length_of
    total places_of fields_of filled
kinds_are = refl

-- a field out of range, and its last number in it
unfoldable pub judged : List ℕ → ℕ
judged buffer = number_of (verdict_of (heard_at buffer 0))

unfoldable pub fields : List ℕ
fields =
    judged (set move_bytes 6 0)  -- an id of 0
    ∷ judged (set (set (set (set move_bytes 6 0) 7 202) 8 154) 9 59)  -- 10^9
    ∷ judged (set (set (set (set move_bytes 6 1) 7 202) 8 154) 9 59)  -- 10^9 + 1
    ∷ judged (set move_bytes 10 0)  -- the upper side
    ∷ judged (set move_bytes 10 2)  -- no side
    ∷ judged (set move_bytes 14 50)  -- fifty moves
    ∷ judged (set move_bytes 14 51)  -- fifty-one
    ∷ judged (sets move_bytes 18 (replicate 8 255))  -- a limit of -1
    ∷ judged (set move_bytes 58 1)  -- a limit past 2·10^12 + 2·10^10
    ∷ judged (set (set (set rates_bytes 14 0) 15 0) 16 0)  -- no price
    ∷ judged (sets rates_bytes 14 (0 ∷ 228 ∷ 11 ∷ 84 ∷ 2 ∷ []))  -- a price of 10^10
    ∷ judged (sets rates_bytes 14 (1 ∷ 228 ∷ 11 ∷ 84 ∷ 2 ∷ []))  -- one unit more
    ∷ judged (set (set (set rates_bytes 22 64) 23 66) 24 15)  -- a volatility of one
    ∷ judged (set (set (set rates_bytes 22 65) 23 66) 24 15)  -- more than one
    ∷ judged (set (set (set rates_bytes 30 135) 31 138) 32 1)  -- the greatest tentative rate
    ∷ judged (set (set (set rates_bytes 30 136) 31 138) 32 1)  -- past it
    ∷ judged (set rates_bytes 34 250)  -- an age of 250
    ∷ judged (set rates_bytes 34 251)  -- of 251
    ∷ judged (set (set rates_bytes 38 16) 39 39)  -- a rate of 10,000
    ∷ judged (set (set rates_bytes 38 17) 39 39)  -- of 10,001
    ∷ judged (set bands_bytes 10 65)  -- a day past 10^6
    ∷ judged (set bands_bytes 14 31)  -- 31 days
    ∷ judged (set (set bands_bytes 18 240) 19 216)  -- a repo rate of -10,000
    ∷ judged (set (set bands_bytes 22 16) 23 39)  -- of 10,000
    ∷ judged (set (set (set (set bands_bytes 18 2) 19 0) 20 0) 21 0)  -- RRCL above RRCH: each by its own range
    ∷ judged (set statics_bytes 90 0)  -- no for yes
    ∷ judged (set statics_bytes 90 2)  -- a flag of 2
    ∷ judged (set statics_bytes 101 255)  -- a flag of 255
    ∷ judged (set (set statics_bytes 50 20) 51 5)  -- a minimum above the next
    ∷ judged (set statics_bytes 50 82)  -- a minimum that is no multiple of h
    ∷ judged (set statics_bytes 38 0)  -- RH2 of no days
    ∷ judged (set statics_bytes 34 2)  -- RH1, RH2 and RH3 alike
    ∷ judged (set statics_bytes 34 3)  -- RH1 above RH2, each in its own range
    ∷ judged (set statics_bytes 38 3)  -- RH2 above RH3
    ∷ judged (set statics_bytes 97 11)  -- eleven evening moves
    ∷ []

pub fields_are : fields
    ≡ 23 ∷ 0 ∷ 23 ∷ 0 ∷ 23 ∷ 0 ∷ 23 ∷ 23 ∷ 23 ∷ 23 ∷ 0 ∷ 23 ∷ 0 ∷ 23 ∷ 0 ∷ 23 ∷ 0 ∷ 23 ∷ 0 ∷ 23
    ∷ 23 ∷ 23 ∷ 23 ∷ 23 ∷ 0 ∷ 0 ∷ 23 ∷ 23 ∷ 23 ∷ 23 ∷ 23 ∷ 0 ∷ 23 ∷ 23 ∷ 23 ∷ []
unfolding fields judged statics_bytes rates_bytes bands_bytes move_bytes zeros heard_at accepted_heard read_checks
    first_of is_done is_known_kind valid in_ranges as_admission given_of valid_given valid_statics statics_of unsigned message_at
    values_at spelled signed_of length_of total places_of fields_of filled
fields_are = refl

-- a flag by its own range, whatever an admission says of it
unfoldable pub flags : List Bool
flags = map (λ (z : ℤ). in_ranges (yes_no ∷ []) (z ∷ [])) (negsuc 0 ∷ pos 0 ∷ pos 1 ∷ pos 2 ∷ [])

pub flags_are : flags ≡ false ∷ true ∷ true ∷ false ∷ []
unfolding flags in_ranges
flags_are = refl

-- ---- what is read is what was written

pub heard_back : (message_heard (heard_at statics_bytes 0) ≡ statics_told) × (message_heard (heard_at rates_bytes 0) ≡ rates_told)
    × (message_heard (heard_at bands_bytes 0) ≡ bands_told)
    × (message_heard (heard_at move_bytes 0) ≡ move_told)
unfolding statics_bytes rates_bytes bands_bytes move_bytes statics_told rates_told bands_told move_told message zeros heard_at
    accepted_heard read_checks first_of is_done is_known_kind valid in_ranges as_admission given_of valid_given
    valid_statics statics_of unsigned message_at values_at spelled signed_of length_of total places_of fields_of filled
heard_back = (refl, refl, refl, refl)

-- and in one record
pub answered_back : answer_at move_bytes 0
    ≡ record { verdict = Done; known = true; kind = 4; length = 62; next = 66; message = move_told }
unfolding move_bytes move_told message zeros heard_at accepted_heard read_checks first_of is_done is_known_kind valid
    in_ranges as_admission given_of valid_given valid_statics statics_of unsigned message_at values_at spelled signed_of
    length_of total places_of fields_of filled
answered_back = refl

-- ---- the writer

-- the number, and how many bytes it wrote
unfoldable pub answered : List ℕ → Message → List ℕ
answered buffer m = number_of (verdict_of (wrote_of buffer m)) ∷ result_unwrap_or (wrote_of buffer m) 0 ∷ []

-- a field of nobody's: a number past the last field
unfoldable pub past_last : Message
past_last = record { kind = move_message_kind; fields = set move_told.fields 9 (pos 1) }

unfoldable pub writes : List (List ℕ)
writes =
    answered (replicate 66 9) move_told  -- just enough
    ∷ answered (replicate 65 9) move_told  -- one byte too few
    ∷ answered [] (record { kind = 9; fields = move_told.fields })  -- 23 comes before 24
    ∷ answered (replicate 66 9) past_last
    ∷ answered (replicate 66 9) (record { kind = move_message_kind; fields = set move_told.fields 1 (pos 2) })
    ∷ []

pub writes_are : writes ≡ (0 ∷ 66 ∷ []) ∷ (24 ∷ 0 ∷ []) ∷ (23 ∷ 0 ∷ []) ∷ (23 ∷ 0 ∷ []) ∷ (23 ∷ 0 ∷ []) ∷ []
unfolding writes answered past_last move_told message wrote_of write_checks encode body_of bytes_of complement zeros heard_at
    accepted_heard read_checks first_of is_done is_known_kind valid in_ranges as_admission given_of valid_given
    valid_statics statics_of unsigned message_at values_at spelled signed_of length_of total places_of fields_of filled
writes_are = refl

-- the message comes first and the rest stays; a refusal leaves every byte
pub written_are : (written (replicate 68 9) move_told ≡ move_bytes ++ 9 ∷ 9 ∷ [])
    × (written (replicate 65 9) move_told ≡ replicate 65 9)
    × (written (replicate 68 9) past_last ≡ replicate 68 9)
unfolding written past_last move_told move_bytes message wrote_of write_checks encode body_of bytes_of complement zeros heard_at
    accepted_heard read_checks first_of is_done is_known_kind valid in_ranges as_admission given_of valid_given
    valid_statics statics_of unsigned message_at values_at spelled signed_of length_of total places_of fields_of filled
written_are = (refl, refl, refl)
