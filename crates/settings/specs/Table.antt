-- Trusted: what a table of values says of an id, and when it has the values of an image.
use Rattle.shapes.specs.Shapes.{Bytes}
use Rattle.std.specs.Prelude.{◌≡◌, ◌≢◌, ℕ, ◌+◌, ◌<◌, ◌^◌, ◌==◌, zero, suc, if◌then◌else◌, Option, Some, None, List, [], ◌∷◌}
use Rattle.settings.specs.declared.change.Change.{Change}
use Rattle.settings.specs.Settings.{settings_of, Same}

-- a value, or else another
abbrev pub value_or : Option Bytes → Option Bytes → Option Bytes
value_or (Some bytes) other = Some bytes
value_or None other = other

-- the value of the first entry of this id that has one
unfoldable pub kept : List Change → ℕ → Option Bytes
kept [] id = None
kept (entry ∷ rest) id = if entry.id == id then value_or entry.value (kept rest id) else kept rest id

-- a table has the value of each id that has one in an image, and no other
abbrev pub Mirrors : Bytes → List Change → Type 0
Mirrors image table = Same (kept table) (settings_of image)

-- the same of all ids but one
abbrev pub MirrorsBut : Bytes → ℕ → List Change → Type 0
MirrorsBut image id table = (other : ℕ) → other < 2 ^ 16 → other ≢ id → kept table other ≡ settings_of image other

-- 1 for a value
abbrev pub one_if_some : Option Bytes → ℕ
one_if_some (Some bytes) = 1
one_if_some None = 0

-- how many ids below one have a value
unfoldable pub ids_below : (ℕ → Option Bytes) → ℕ → ℕ
ids_below values zero = 0
ids_below values (suc id) = ids_below values id + one_if_some (values id)
