-- docs/JOURNAL.md, "Recovery": what is made of any bytes at all.
use Rattle.std.specs.Prelude.{List, [], ◌∷◌, ℕ, suc, ◌-◌, ltb, length, take}
use Rattle.paper.specs.Lists.{pick, every}
use Rattle.text_evening.specs.Evening.{Evening, after, after_all}
use Rattle.journal_protocol.specs.Entries.{Entry}
use Rattle.journal_protocol.specs.Journal.{journal_text, Found, found_in, is_of_the_cut}
use Rattle.journal_protocol.specs.Lines.{is_kept}

unfoldable pub lines_of : List Entry → List (List ℕ)
lines_of [] = []
lines_of (e ∷ es) = e.line ∷ lines_of es

-- how many lines in front would be kept again, each on the evening that those before it leave
unfoldable pub kept_again_of : (lines : List (List ℕ)) → Evening → ℕ
kept_again_of [] e = 0
kept_again_of (l ∷ ls) e = pick (is_kept l e) (suc (kept_again_of ls (after l e))) 0

-- what recovery comes to: an evening that is served, the entries that stay in the journal, and how many bytes behind
-- them are cut off; or damage, with the place of the entry, from 1, and how many bytes stand before it
pub data Recovered : Type 0 where
  served : Evening → (entries : List Entry) → (cut : ℕ) → Recovered
  damaged : (entry byte : ℕ) → Recovered

-- damage behind so many of the entries
abbrev pub damaged_behind : List Entry → Recovered
damaged_behind es = damaged (suc (length es)) (length (journal_text es))

-- entries that are performed from an evening on: one that would not be kept again is damage; so is what stands behind
-- them, unless all of it can be of the write that was cut off
unfoldable pub performed : (bytes : List ℕ) → Found → Evening → Recovered
performed bytes f e =
    pick (ltb (kept_again_of (lines_of f.entries) e) (length f.entries))
    (damaged_behind (take (kept_again_of (lines_of f.entries) e) f.entries))
    (pick (every (is_of_the_cut f) f.behind)
    (served (after_all (lines_of f.entries) e) f.entries (length bytes - length (journal_text f.entries)))
    (damaged_behind f.entries))

-- WHAT RECOVERY MAKES OF ANY BYTES, from the evening on which a journal begins
unfoldable pub recovered : (bytes : List ℕ) → Evening → Recovered
recovered bytes e = performed bytes (found_in bytes) e
