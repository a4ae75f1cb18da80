-- Trusted: what a word is to a change.
use Rattle.shapes.specs.Shapes.{Bytes}
use Rattle.std.specs.Prelude.{ℕ, ◌+◌, ◌/◌, ◌%◌, ◌^◌, ◌==◌, ◌&&◌, ◌||◌, not, nat_le, if◌then◌else◌, Option, Some, None, [], ◌∷◌}
use Rattle.settings_log.specs.declared.words.Head.{Head}
use Rattle.settings_log.specs.declared.words.Word.{Word}
use Rattle.settings_log.specs.declared.words.Word.TheVariants.{Data, Begins, Other}

-- the head that a word is: 1 stands in its bits 30 and 31, at most 1,024 in its bits 16 to 26, and 0 there in a removal
unfoldable pub head_of : ℕ → Option Head
head_of word =
    let len = word / 2 ^ 16 % 2 ^ 11 in
    let removal = word / 2 ^ 27 % 2 == 1 in
    if (word / 2 ^ 30 == 1) && (nat_le len 1024 && (not removal || (len == 0)))
    then Some (record { id = word % 2 ^ 16; len = len; removal = removal; first = word / 2 ^ 28 % 2 == 1; last = word / 2 ^ 29 % 2 == 1 })
    else None

abbrev pub begins_or_other : Option Head → Word
begins_or_other (Some head) = Begins head
begins_or_other None = Other

-- what a slot is to a change, by its word: 0 in bits 24 to 31 has three bytes of a value
unfoldable pub kind_of : Option ℕ → Word
kind_of None = Other
kind_of (Some word) = if word / 2 ^ 24 == 0 then Data else begins_or_other (head_of word)

-- the bytes of a word, the first in bits 0 to 7
abbrev pub word_bytes : ℕ → Bytes
word_bytes word = word % 2 ^ 8 ∷ word / 2 ^ 8 % 2 ^ 8 ∷ word / 2 ^ 16 % 2 ^ 8 ∷ []

-- how many words so many bytes take, three in each
abbrev pub data_words : ℕ → ℕ
data_words len = (len + 2) / 3
