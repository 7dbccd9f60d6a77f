-- What the writer and the reader of fields ask of their callers.
use Rattle.std.specs.Prelude.{◌≡◌, true, List, ℕ, ◌+◌, ◌-◌, ◌≤◌, ℤ, length}
use Rattle.paper.specs.Lists.{every}
use Rattle.paper_messages.specs.declared.Field.{Field}
use Rattle.paper_messages.specs.Bytes.{in_width}
use Rattle.paper_messages.specs.Messages.{total, in_ranges, holds_range}

-- the greatest number of a width
abbrev pub greatest_of : (width : ℕ) → ℕ
greatest_of width = in_width width - 1

-- there is room for the fields at a place, and each field's width holds its range
pub record Room (at : ℕ) (fields : List Field) (buffer : List ℕ) : Type 0 where
  pub room : at + total fields ≤ length buffer
  pub holds : every holds_range fields ≡ true

-- each value is in its field's range
pub record Holding (fields : List Field) (values : List ℤ) : Type 0 where
  pub in_range_lem : in_ranges fields values ≡ true
