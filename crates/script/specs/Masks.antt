-- Trusted: the masks of torn operations, as words write them.
use Rattle.shapes.specs.Shapes.{Bytes}
use Rattle.std.specs.Prelude.{◌≡◌, ℕ, ◌<◌, ◌⊎◌, [], length, codes}
use Rattle.script.specs.Numbers.{WritesBytes, IsHexOf}

-- a dash, or 1 to 4,096 bytes in hex
abbrev pub IsMaskWord : Bytes → Type 0
IsMaskWord word = (word ≡ codes "-") ⊎ IsHexOf 1 4096 word

-- a dash writes the empty mask, hex digits its bytes
abbrev pub WritesMask : Bytes → Bytes → Type 0
WritesMask word mask = ((word ≡ codes "-") × (mask ≡ [])) ⊎ (WritesBytes word mask × (0 < length mask))
