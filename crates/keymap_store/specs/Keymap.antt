-- Trusted: the keymap of an image.
use Rattle.shapes.specs.Shapes.{Bytes}
use Rattle.std.specs.Prelude.{◌≡◌, ℕ, ◌<◌, unwrap_or}
use Rattle.layers.specs.Codes.{layers, keys, DefaultCodes}
use Rattle.layers.specs.Entries.{entry_in}
use Rattle.page_turnover.specs.Active.{format}
use Rattle.page_turnover.specs.Words.{words}

module _ (defaults : DefaultCodes) where
  -- the words of the active page, read by the format of that page; without an active page there are none
  unfoldable pub entries_of : Bytes → ℕ → ℕ → ℕ
  entries_of image = entry_in defaults (unwrap_or (format image) 2) (words image)

-- the two keymaps have the same entries
abbrev pub SameEntries : (ℕ → ℕ → ℕ) → (ℕ → ℕ → ℕ) → Type 0
SameEntries a b = (layer key : ℕ) → layer < layers → key < keys → a layer key ≡ b layer key
