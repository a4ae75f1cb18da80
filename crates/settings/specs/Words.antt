-- Trusted: the words that a change of a setting is kept as.
use Rattle.shapes.specs.Shapes.{Bytes, SlotWords}
use Rattle.std.specs.Prelude.{ℕ, ◌+◌, ◌*◌, ◌/◌, ◌%◌, ◌^◌, ◌<◌, ◌≤◌, ◌==◌, slice_index, ◌&&◌, ◌||◌, nat_le, Bool, is_some, if◌then◌else◌, Option, Some, None, [], ◌∷◌, length}
use Rattle.settings.specs.declared.words.Head.{Head}
use Rattle.settings.specs.declared.change.Change.{Change}

-- the most bytes that a value has
abbrev pub longest : ℕ
longest = 64

-- the word of three bytes of a value: 40h, and below it the bytes, the first one lowest
abbrev pub data_word : ℕ → ℕ → ℕ → ℕ
data_word a b c = 2 ^ 24 * 64 + c * 2 ^ 16 + b * 2 ^ 8 + a

-- the word before the bytes of a value: 71h, how many there are, and the id, of 16 bits
abbrev pub value_word : ℕ → ℕ → ℕ
value_word id len = 2 ^ 24 * 113 + len * 2 ^ 16 + id

-- the word that takes an id its value: 70h, a zero byte, and the id
abbrev pub removal_word : ℕ → ℕ
removal_word id = 2 ^ 24 * 112 + id

-- whether a word has bytes of a value
unfoldable pub is_data : ℕ → Bool
is_data word = word / 2 ^ 24 == 64

-- the bytes of such a word
abbrev pub word_bytes : ℕ → Bytes
word_bytes word = word % 2 ^ 8 ∷ word / 2 ^ 8 % 2 ^ 8 ∷ word / 2 ^ 16 % 2 ^ 8 ∷ []

-- what a word that begins a change says: the id, and how many bytes its value has, none where it is taken away
unfoldable pub head_of : ℕ → Option Head
head_of word =
    let len = word / 2 ^ 16 % 2 ^ 8 in
    let id = word % 2 ^ 16 in
    if (word / 2 ^ 24 == 113) && nat_le len longest then Some (record { id = id; len = Some len })
    else (if (word / 2 ^ 24 == 112) && (len == 0) then Some (record { id = id; len = None }) else None)

-- whether a word is one of settings
unfoldable pub is_known : ℕ → Bool
is_known word = is_data word || is_some (head_of word)

-- the words of some bytes, three in each; what is missing of the last three is zeros
unfoldable pub packed : Bytes → SlotWords
packed [] = []
packed (a ∷ []) = data_word a 0 0 ∷ []
packed (a ∷ b ∷ []) = data_word a b 0 ∷ []
packed (a ∷ b ∷ c ∷ rest) = data_word a b c ∷ packed rest

-- the words of an id and its value
abbrev pub words_with : ℕ → Option Bytes → SlotWords
words_with id (Some bytes) = value_word id (length bytes) ∷ packed bytes
words_with id None = removal_word id ∷ []

-- the words of a change, in their order
unfoldable pub words_of : Change → SlotWords
words_of change = words_with change.id change.value

-- at most 64 bytes
pub record IsValue (bytes : Bytes) : Type 0 where
  pub short : length bytes ≤ longest
  pub bytes_are : (k : ℕ) → slice_index bytes k < 2 ^ 8

-- a value, if there is one
abbrev pub IsValueIfSome : Option Bytes → Type 0
IsValueIfSome (Some bytes) = IsValue bytes
IsValueIfSome None = Unit {0}

-- an id of 16 bits and a value, if there is one
pub record IsChange (change : Change) : Type 0 where
  pub small : change.id < 2 ^ 16
  pub value_is : IsValueIfSome change.value

-- each id has a value or none
abbrev pub AreValues : (ℕ → Option Bytes) → Type 0
AreValues values = (id : ℕ) → IsValueIfSome (values id)
