-- Trusted: the words that a compaction writes.
use Rattle.shapes.specs.Shapes.{Bytes, SlotWords}
use Rattle.std.specs.Prelude.{◌≡◌, ℕ, ◌<◌, ◌≤◌, ◌^◌, zero, suc, Option, Some, None, [], ◌++◌}
use Rattle.settings.specs.declared.change.Change.{Change}
use Rattle.settings.specs.Words.{words_of}

-- the words of an id that has a value
abbrev pub kept_words : ℕ → Option Bytes → SlotWords
kept_words id (Some bytes) = words_of (record { id = id; value = Some bytes })
kept_words id None = []

-- the words of the ids below one, by rising id
unfoldable pub copies_below : (ℕ → Option Bytes) → ℕ → SlotWords
copies_below values zero = []
copies_below values (suc id) = copies_below values id ++ kept_words id (values id)

-- the words of all ids
abbrev pub all_copies : (ℕ → Option Bytes) → SlotWords
all_copies values = copies_below values (2 ^ 16)

-- no id from one on and below another has a value
abbrev pub NoneBetween : (ℕ → Option Bytes) → ℕ → ℕ → Type 0
NoneBetween values from to = (id : ℕ) → from ≤ id → id < to → values id ≡ None

-- the first id from one on that has a value, with it
pub record IsNext (values : ℕ → Option Bytes) (from : ℕ) (change : Change) : Type 0 where
  pub after : from ≤ change.id
  pub small : change.id < 2 ^ 16
  pub bytes : Bytes
  pub value_is : change.value ≡ Some bytes
  pub is : values change.id ≡ Some bytes
  pub first : NoneBetween values from change.id
