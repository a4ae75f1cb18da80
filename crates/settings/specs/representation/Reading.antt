-- Representation: what the words so far say of an id.
use Rattle.shapes.specs.Shapes.{Bytes, SlotWords}
use Rattle.std.specs.Prelude.{◌≡◌, ℕ, ◌<◌, ◌≤◌, Option, Some, None, length, take}
use Rattle.settings.specs.declared.lookup.Partial.{Partial}
use Rattle.settings.specs.declared.lookup.Reading.{Reading}
use Rattle.settings.specs.Settings.{gathered, changes_in, after}

-- bytes of a value are missing
abbrev pub IsPartial : Option Partial → Type 0
IsPartial (Some partial) = (partial.got < partial.len) × (partial.len ≤ 64) × (length partial.bytes ≡ 66)
IsPartial None = Unit {0}

-- so many bytes, if any, are a value
abbrev pub IsLen : Option ℕ → Type 0
IsLen (Some len) = len ≤ 64
IsLen None = Unit {0}

-- some bytes, else the value before
abbrev pub or_before : Option Bytes → Option Bytes → Option Bytes
or_before (Some bytes) value = Some bytes
or_before None value = value

-- the value after a value that is partial was gathered, if it becomes whole
abbrev pub closed : Option Bytes → Option Partial → SlotWords → Option Bytes
closed value (Some partial) rest = or_before (gathered partial.len (take partial.got partial.bytes) rest) value
closed value None rest = value

-- the value of an id at the end, by what the words so far say and those that are left
unfoldable pub outcome : ℕ → Reading → SlotWords → Option Bytes
outcome id reading rest = after (closed reading.value reading.partial rest) (changes_in rest) id
