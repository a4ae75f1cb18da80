-- Trusted: the value that each id has in an image.
use Rattle.shapes.specs.Shapes.{Bytes}
use Rattle.std.specs.Prelude.{◌≡◌, ℕ, ◌+◌, ◌-◌, ◌%◌, ◌==◌, nat_le, nat_lt, zero, suc, Bool, true, false, if◌then◌else◌, Option, Some, None, List, [], ◌∷◌, ◌++◌, length, take, drop, ◌<◌, ◌≤◌, Result, Ok, Err}
use Rattle.records.specs.Slots.{slot_of}
use Rattle.flash_model.specs.Image.{page_count, slot_at}
use Rattle.settings_log.specs.declared.words.Head.{Head}
use Rattle.settings_log.specs.declared.words.Word.{Word}
use Rattle.settings_log.specs.declared.words.Word.TheVariants.{Data, Begins, Other}
use Rattle.settings_log.specs.declared.store.SettingsError.{SettingsError}
use Rattle.settings_log.specs.declared.store.SettingsError.TheVariants.{TooLong}
use Rattle.settings_log.specs.Pages.{word_of, number_at}
use Rattle.settings_log.specs.Words.{kind_of, word_bytes, data_words}

-- a head in a slot of a page
pub record HeadAt : Type 0 where
  pub page : ℕ
  pub slot : ℕ
  pub head : Head

-- what a slot of a page is to a change
abbrev pub kind_at : Bytes → ℕ → ℕ → Word
kind_at image page slot = kind_of (word_of (slot_of (slot_at image page slot)))

-- what so many slots of a page are, from one on
unfoldable pub kinds_from : Bytes → ℕ → ℕ → ℕ → List Word
kinds_from image page slot zero = []
kinds_from image page slot (suc count) = kind_at image page slot ∷ kinds_from image page (slot + 1) count

-- one head more, where the others of its change are there
abbrev pub with_head : HeadAt → Option (List HeadAt) → Option (List HeadAt)
with_head head (Some rest) = Some (head ∷ rest)
with_head head None = None

-- The heads that a change still has in the slots from one on, where so many words of the last head's value are still to come,
-- and that head says whether it is the last. All words follow each other without a gap, and no head but the first one is
-- marked as the first; else None.
unfoldable pub heads_left : ℕ → ℕ → ℕ → Bool → List Word → Option (List HeadAt)
heads_left page slot zero true words = Some []
heads_left page slot zero false (Begins head ∷ words) =
    if head.first then None
    else with_head (record { page = page; slot = slot; head = head }) (heads_left page (slot + 1) (data_words head.len) head.last words)
heads_left page slot (suc left) last (Data ∷ words) = heads_left page (slot + 1) left last words
heads_left page slot left last words = None

abbrev pub if_all : Option (List HeadAt) → List HeadAt
if_all (Some heads) = heads
if_all None = []

-- the heads of the change that a head marked as the first begins, with the slots behind it, if all its words are there
abbrev pub change_at : ℕ → ℕ → Head → List Word → List HeadAt
change_at page slot head words =
    if head.first then if_all (with_head (record { page = page; slot = slot; head = head }) (heads_left page (slot + 1) (data_words head.len) head.last words))
    else []

-- the heads of the changes in force in the slots of a page from one on, in their order
unfoldable pub in_force : ℕ → ℕ → List Word → List HeadAt
in_force page slot [] = []
in_force page slot (Begins head ∷ words) = change_at page slot head words ++ in_force page (slot + 1) words
in_force page slot (Data ∷ words) = in_force page (slot + 1) words
in_force page slot (Other ∷ words) = in_force page (slot + 1) words

-- those of a page
unfoldable pub heads_on : Bytes → ℕ → List HeadAt
heads_on image page = in_force page 1 (kinds_from image page 1 511)

abbrev pub is_number : Option ℕ → ℕ → Bool
is_number (Some held) number = held == number
is_number None number = false

-- those of the page with a number, if one has it
abbrev pub heads_of : Bytes → ℕ → List HeadAt
heads_of image number = if is_number (number_at image (number % page_count image)) number then heads_on image (number % page_count image) else []

-- those of the page so many before the newest
unfoldable pub heads_before : Bytes → ℕ → ℕ → List HeadAt
heads_before image newest back = if nat_le back newest then heads_of image (newest - back) else []

-- those of so many pages up to the newest, the oldest first
unfoldable pub history : Bytes → ℕ → ℕ → List HeadAt
history image newest zero = []
history image newest (suc back) = heads_before image newest back ++ history image newest back

-- the first one, or else the second
abbrev pub or_else : {A : Type 0} → Option A → Option A → Option A
or_else (Some first) second = Some first
or_else None second = second

-- the last head of an id
unfoldable pub last_of : ℕ → List HeadAt → Option HeadAt
last_of id [] = None
last_of id (head ∷ rest) = or_else (last_of id rest) (if id == head.head.id then Some head else None)

abbrev pub greater : Option ℕ → Option ℕ → Option ℕ
greater (Some a) (Some b) = Some (if nat_lt a b then b else a)
greater None b = b
greater (Some a) None = Some a

-- the greatest number of so many pages, if any has one
unfoldable pub newest_of : Bytes → ℕ → Option ℕ
newest_of image zero = None
newest_of image (suc page) = greater (newest_of image page) (number_at image page)

abbrev pub last_since : Bytes → ℕ → Option ℕ → Option HeadAt
last_since image id (Some newest) = last_of id (history image newest (page_count image - 1))
last_since image id None = None

-- the last head in force of an id: all pages count but the spare
unfoldable pub last_head : Bytes → ℕ → Option HeadAt
last_head image id = last_since image id (newest_of image (page_count image))

abbrev pub bytes_in : Option ℕ → Bytes
bytes_in (Some word) = word_bytes word
bytes_in None = []

-- the bytes of so many slots behind one
unfoldable pub bytes_behind : Bytes → ℕ → ℕ → ℕ → Bytes
bytes_behind image page slot zero = []
bytes_behind image page slot (suc count) = bytes_behind image page slot count ++ bytes_in (word_of (slot_of (slot_at image page (slot + 1 + count))))

-- the value that a head gives its id: a removal gives none, and the bytes of another stand behind it
abbrev pub value_at : Bytes → HeadAt → Option Bytes
value_at image at = if at.head.removal then None else Some (take at.head.len (bytes_behind image at.page at.slot (data_words at.head.len)))

abbrev pub value_with : Bytes → Option HeadAt → Option Bytes
value_with image (Some at) = value_at image at
value_with image None = None

-- the value of an id
unfoldable pub value_of : Bytes → ℕ → Option Bytes
value_of image id = value_with image (last_head image id)

-- a value is read into bytes that are lent
pub record IsRead (value : Option Bytes) (result : Result (Option ℕ) SettingsError) (old new : Bytes) : Type 0 where
  pub none : value ≡ None → (result ≡ Ok None) × (new ≡ old)
  pub some : (bytes : Bytes) → value ≡ Some bytes → length bytes ≤ length old → (result ≡ Ok (Some (length bytes))) × (new ≡ bytes ++ drop (length bytes) old)
  pub too_long : (bytes : Bytes) → value ≡ Some bytes → length old < length bytes → (result ≡ Err TooLong) × (new ≡ old)
