-- Representation: a head in force and the words behind it.
use Rattle.shapes.specs.Shapes.{Bytes}
use Rattle.std.specs.Prelude.{◌≡◌, ℕ, ◌+◌, ◌<◌, ◌≤◌, Some, length, take, slice_index}
use Rattle.flash_model.specs.Image.{page_count}
use Rattle.settings_log.specs.declared.words.Head.{Head}
use Rattle.settings_log.specs.declared.words.Word.TheVariants.{Data, Begins}
use Rattle.settings_log.specs.declared.scan.Place.{Place}
use Rattle.settings_log.specs.Words.{data_words}
use Rattle.settings_log.specs.Values.{HeadAt, kind_at, bytes_behind, value_of}

-- so many slots of a page from one on hold words of values
abbrev pub DataFrom : Bytes → ℕ → ℕ → ℕ → Type 0
DataFrom image page slot count = (k : ℕ) → k < count → (slot + k < 512) × (kind_at image page (slot + k) ≡ Data)

-- a head stands in its slot of this page, and the words of its value behind it
pub record IsHere (image : Bytes) (page : ℕ) (at : HeadAt) : Type 0 where
  pub page_is : at.page ≡ page
  pub in_page : at.slot < 512
  pub held : kind_at image page at.slot ≡ Begins at.head
  pub words : DataFrom image page (at.slot + 1) (data_words at.head.len)

-- the value of an id stands behind its head at this place
pub record Stands (image : Bytes) (id : ℕ) (place : Place) (head : Head) : Type 0 where
  pub in_pages : place.page < page_count image
  pub in_page : place.slot < 512
  pub words : DataFrom image place.page (place.slot + 1) (data_words head.len)
  pub value : value_of image id ≡ Some (take head.len (bytes_behind image place.page place.slot (data_words head.len)))

-- the bytes below a number are those of a value; those behind it, and those that a value lacks, are as before
pub record Copied (value old new : Bytes) (upto : ℕ) : Type 0 where
  pub same_length : length new ≡ length old
  pub copied : (k : ℕ) → k < upto → k < length value → slice_index new k ≡ slice_index value k
  pub rest : (k : ℕ) → (k < length value → upto ≤ k) → slice_index new k ≡ slice_index old k

-- bytes are those behind a slot, as far as a number
abbrev pub SameTo : Bytes → Bytes → ℕ → Type 0
SameTo behind bytes upto = (k : ℕ) → k < upto → k < length bytes → slice_index behind k ≡ slice_index bytes k
