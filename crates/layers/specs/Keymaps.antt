-- Trusted: a keymap as the list of its codes, layer by layer.
use Rattle.shapes.specs.Shapes.{SlotWords, KeyCodes}
use Rattle.std.specs.Prelude.{◌≡◌, ℕ, ◌+◌, ◌*◌, ◌<◌, length, slice_index}
use Rattle.layers.specs.Codes.{layers, keys, DefaultCodes}
use Rattle.layers.specs.Entries.{entry_in}

-- the place of a key on a layer
abbrev pub place_of : ℕ → ℕ → ℕ
place_of layer key = keys * layer + key

-- the code of a key on a layer
abbrev pub code_at : KeyCodes → ℕ → ℕ → ℕ
code_at keymap layer key = slice_index keymap (place_of layer key)

-- a keymap has these entries, for each layer and key
pub record HasEntries (entries : ℕ → ℕ → ℕ) (keymap : KeyCodes) : Type 0 where
  pub whole : length keymap ≡ layers * keys
  pub each : (layer key : ℕ) → layer < layers → key < keys → code_at keymap layer key ≡ entries layer key

module _ (defaults : DefaultCodes) where
  -- a keymap stands for the words of a page of this format
  abbrev pub Refines : ℕ → SlotWords → KeyCodes → Type 0
  Refines format words keymap = HasEntries (entry_in defaults format words) keymap
