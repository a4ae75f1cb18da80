-- Trusted: the page that a compaction writes, and how far it is.
use Rattle.shapes.specs.Shapes.{Bytes, SlotWords}
use Rattle.std.specs.Prelude.{ℕ, ◌+◌, ◌%◌, ◌^◌, ◌<◌, [], ◌∷◌, Option, Some, None}
use Rattle.flash_model.specs.Image.{page_count}
use Rattle.page_turnover.specs.Value.{Target, Unread, Holds, Task, Rest, Append, Wait, Copy, Seal}
use Rattle.page_turnover.specs.Active.{active}
use Rattle.page_turnover.specs.Words.{words_up_to}
use Rattle.page_turnover.specs.Usable.{IsUsable}

-- the page after the active one, from the last on to page 0 again; page 0 without an active page
abbrev pub page_after : Option (ℕ × ℕ) → ℕ → ℕ
page_after (Some place) pages = (place.0 + 1) % pages
page_after None pages = 0

-- the page that a compaction writes
unfoldable pub target_page : Bytes → ℕ
target_page image = page_after (active image) (page_count image)

-- the sequence number of the next header
abbrev pub seq_after : Option (ℕ × ℕ) → ℕ
seq_after (Some place) = place.1 + 1
seq_after None = 1

-- the sequence number of the header that a compaction writes
unfoldable pub next_seq : Bytes → ℕ
next_seq image = seq_after (active image)

-- all slots 0 are sound, and there is a sequence number left
pub record CanTurn (image : Bytes) : Type 0 where
  pub usable : IsUsable image
  pub numbered : next_seq image < 2 ^ 28

-- how many copies a compaction has made
abbrev pub copied : Target → ℕ
copied Unread = 0
copied (Holds n) = n

-- the words that a compaction has copied: those in the first slots of its target
abbrev pub copies : Bytes → Task → SlotWords
copies image (Wait target) = words_up_to image (target_page image) (copied target)
copies image (Copy target word) = words_up_to image (target_page image) (copied target)
copies image (Seal target) = words_up_to image (target_page image) (copied target)
copies image _ = []

-- the word that was offered and is not copied yet
abbrev pub offered : Task → SlotWords
offered (Copy target word) = word ∷ []
offered _ = []

-- the word that waits to be appended or copied, if one does, has bit 31 clear
abbrev pub HasShortWord : Task → Type 0
HasShortWord (Append word) = word < 2 ^ 31
HasShortWord (Copy target word) = word < 2 ^ 31
HasShortWord _ = Unit {0}

-- a word is to be appended
abbrev pub IsAppend : Task → Type 0
IsAppend (Append word) = Unit {0}
IsAppend _ = ⊥

-- a compaction was offered a copy or its commit header
abbrev pub HasOffer : Task → Type 0
HasOffer (Copy target word) = Unit {0}
HasOffer (Seal target) = Unit {0}
HasOffer _ = ⊥

-- a compaction waits for a copy or its commit header
abbrev pub IsWaiting : Task → Type 0
IsWaiting (Wait target) = Unit {0}
IsWaiting _ = ⊥

-- a step has something to do
abbrev pub IsPending : Task → Type 0
IsPending Rest = ⊥
IsPending (Wait target) = ⊥
IsPending _ = Unit {0}

-- a compaction waits and has made fewer than 511 copies
abbrev pub CanOffer : Task → Type 0
CanOffer (Wait target) = copied target < 511
CanOffer _ = ⊥

-- a waiting compaction that was offered a copy, or its commit header
abbrev pub with_copy : Task → ℕ → Task
with_copy (Wait target) word = Copy target word
with_copy task word = task

-- a compaction that waits gets its commit header
abbrev pub with_seal : Task → Task
with_seal (Wait target) = Seal target
with_seal task = task
