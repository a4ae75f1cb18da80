-- Trusted: the settings that some words stand for.
use Rattle.shapes.specs.Shapes.{Bytes, SlotWords}
use Rattle.std.specs.Prelude.{◌≡◌, ℕ, ◌<◌, ◌^◌, ◌==◌, nat_le, if◌then◌else◌, Option, Some, None, List, [], ◌∷◌, ◌++◌, length, take}
use Rattle.page_turnover.specs.Words.{words}
use Rattle.settings.specs.declared.words.Head.{Head}
use Rattle.settings.specs.declared.change.Change.{Change}
use Rattle.settings.specs.Words.{is_data, word_bytes, head_of}

-- the first bytes so far, and those of the words that follow, until there are enough; none where other words come first, or none
unfoldable pub gathered : ℕ → Bytes → SlotWords → Option Bytes
gathered len bytes [] = if nat_le len (length bytes) then Some (take len bytes) else None
gathered len bytes (word ∷ rest) =
    if nat_le len (length bytes) then Some (take len bytes)
    else (if is_data word then gathered len (bytes ++ word_bytes word) rest else None)

-- the change that gives an id these bytes, if they are all there
abbrev pub given : ℕ → Option Bytes → List Change
given id (Some bytes) = record { id = id; value = Some bytes } ∷ []
given id None = []

-- the change of this id: its value is taken away, or it has so many bytes, in the words behind
abbrev pub change_with : ℕ → Option ℕ → SlotWords → List Change
change_with id None rest = record { id = id; value = None } ∷ []
change_with id (Some len) rest = given id (gathered len [] rest)

-- the change that a word begins, with the words behind it, if it is whole
abbrev pub change_at : Option Head → SlotWords → List Change
change_at None rest = []
change_at (Some head) rest = change_with head.id head.len rest

-- the changes that are in force, in their order: a word that begins one, with all the words of its value right behind it
unfoldable pub changes_in : SlotWords → List Change
changes_in [] = []
changes_in (word ∷ rest) = change_at (head_of word) rest ++ changes_in rest

-- the value of an id after some changes: what the last one of this id gives it, else the one before
unfoldable pub after : Option Bytes → List Change → ℕ → Option Bytes
after value [] id = value
after value (change ∷ rest) id = after (if change.id == id then change.value else value) rest id

-- the value of each id that has one after these changes
abbrev pub settled : List Change → ℕ → Option Bytes
settled changes = after None changes

-- the settings of an image
unfoldable pub settings_of : Bytes → ℕ → Option Bytes
settings_of image = settled (changes_in (words image))

-- the settings of an image after some more changes
unfoldable pub changed : Bytes → List Change → ℕ → Option Bytes
changed image changes = settled (changes_in (words image) ++ changes)

-- both have the same values
abbrev pub Same : (ℕ → Option Bytes) → (ℕ → Option Bytes) → Type 0
Same f g = (id : ℕ) → id < 2 ^ 16 → f id ≡ g id
