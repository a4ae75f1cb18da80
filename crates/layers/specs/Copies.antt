-- Trusted: the entries that differ from the default, by rising place, and the words that set them.
use Rattle.shapes.specs.Shapes.{SlotWords}
use Rattle.std.specs.Prelude.{◌≡◌, ◌≢◌, ℕ, zero, suc, ◌*◌, ◌/◌, ◌%◌, ◌<◌, ◌≤◌, ◌==◌, if◌then◌else◌, IsTrue, [], ◌∷◌, ◌++◌}
use Rattle.layers.specs.Codes.{layers, keys, is_code, default_at, DefaultCodes}
use Rattle.layers.specs.Commands.{word_of}
use Rattle.layers.specs.declared.command.Command.{Command}
use Rattle.layers.specs.declared.command.Command.TheVariants.{SetKey}

-- how many places there are; the place of a key on a layer is keys * layer + key
abbrev pub places : ℕ
places = layers * keys

-- the entry at a place
abbrev pub entry_at : (ℕ → ℕ → ℕ) → ℕ → ℕ
entry_at entries place = entries (place / keys) (place % keys)

-- the command that sets the entry at a place to its code
abbrev pub set_key_at : (ℕ → ℕ → ℕ) → ℕ → Command
set_key_at entries place = SetKey (place / keys) (place % keys) (entry_at entries place)

module _ (defaults : DefaultCodes) where
  -- the first place at or after `from` whose entry differs from the default, with its command
  pub record IsNextChanged (entries : ℕ → ℕ → ℕ) (from place : ℕ) (command : Command) : Type 0 where
    pub after : from ≤ place
    pub within : place < places
    pub differs : entry_at entries place ≢ default_at defaults place
    pub first : (other : ℕ) → from ≤ other → other < place → entry_at entries other ≡ default_at defaults other
    pub sets : command ≡ set_key_at entries place

  -- no entry at or after `from` differs from the default
  pub record IsDefaultFrom (entries : ℕ → ℕ → ℕ) (from : ℕ) : Type 0 where
    pub each : (place : ℕ) → from ≤ place → place < places → entry_at entries place ≡ default_at defaults place

  -- the words that set the entries below a place that differ from the default, by rising place
  unfoldable pub copies_below : (ℕ → ℕ → ℕ) → ℕ → SlotWords
  copies_below entries zero = []
  copies_below entries (suc place) =
      if entry_at entries place == default_at defaults place then copies_below entries place
      else copies_below entries place ++ word_of (set_key_at entries place) ∷ []

  -- these are the copies of the entries below a place, each of which is a code
  pub record AreCopies (entries : ℕ → ℕ → ℕ) (place : ℕ) (words : SlotWords) : Type 0 where
    pub listed : words ≡ copies_below entries place
    pub codes : (other : ℕ) → other < place → IsTrue (is_code (entry_at entries other))
