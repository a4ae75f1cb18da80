-- Representation: the entries of a table.
use Rattle.shapes.specs.Shapes.{Bytes}
use Rattle.std.specs.Prelude.{◌≡◌, ℕ, ◌+◌, ◌<◌, ◌^◌, Option, Some, None, List, length, get_or}
use Rattle.settings.specs.declared.change.Change.{Change}
use Rattle.settings.specs.Copies.{NoneBetween, IsNext}

-- the first id from one on that has a value, with it; or none is left, and the entry is free
pub data IsEntry (values : ℕ → Option Bytes) (from : ℕ) (entry : Change) : Type 0 where
  is_next : IsNext values from entry → IsEntry values from entry
  is_last : NoneBetween values from (2 ^ 16) → entry.value ≡ None → IsEntry values from entry

-- the id behind that of an entry that has a value
abbrev pub end_by : ℕ → Option Bytes → ℕ
end_by id (Some bytes) = id + 1
end_by id None = 2 ^ 16

abbrev pub end_of : Change → ℕ
end_of entry = end_by entry.id entry.value

-- the entry at this place has no value
pub record IsFree (table : List Change) (at : ℕ) : Type 0 where
  pub there : at < length table
  pub free : (default : Change) → (get_or table at default).value ≡ None
