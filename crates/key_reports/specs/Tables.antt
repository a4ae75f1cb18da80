-- Trusted: a keymap by its entries.
use Rattle.shapes.specs.Shapes.{KeyCodes}
use Rattle.std.specs.Prelude.{ℕ, map}
use Rattle.std.specs.List.{range_with_len}
use Rattle.layers.specs.Copies.{places, entry_at}

-- the codes of a keymap with these entries, place by place
unfoldable pub table : (ℕ → ℕ → ℕ) → KeyCodes
table entries = map (entry_at entries) (range_with_len 0 places)
