-- Trusted: the active page of an image.
use Rattle.shapes.specs.Shapes.{Bytes}
use Rattle.std.specs.Prelude.{◌≡◌, ℕ, ◌<◌, ◌≤◌, suc, zero, nat_lt, if◌then◌else◌, Option, Some, None}
use Rattle.records.specs.declared.Slot.TheVariants.{Good}
use Rattle.records.specs.Slots.{slot_of}
use Rattle.flash_model.specs.Image.{slot_at, page_count}
use Rattle.page_turnover.specs.Header.{HasHeader, IsFormat, header_of, header_word, format_of}

-- among the first n pages this one has the greatest sequence number, of either format, and is the lowest of those that have it
pub record IsNewest (image : Bytes) (n page seq : ℕ) : Type 0 where
  pub in_pages : page < n
  pub header : HasHeader image page seq
  pub greatest : (p s : ℕ) → p < n → HasHeader image p s → s ≤ seq
  pub lowest : (p : ℕ) → p < page → HasHeader image p seq → ⊥

-- the active page: the one with the greatest sequence number, and the lowest page among equals
abbrev pub IsActive : Bytes → ℕ → ℕ → Type 0
IsActive image page seq = IsNewest image (page_count image) page seq

-- no page has a header
abbrev pub NoneActive : Bytes → Type 0
NoneActive image = (p s : ℕ) → p < page_count image → HasHeader image p s → ⊥

-- the active page has a header of this format
pub record HasFormat (image : Bytes) (format : ℕ) : Type 0 where
  pub page : ℕ
  pub seq : ℕ
  pub is_active : IsActive image page seq
  pub known : IsFormat format
  pub good : slot_of (slot_at image page 0) ≡ Good (header_word format seq)

-- the best so far, or a page with a greater sequence number
unfoldable pub newer : Option (ℕ × ℕ) → ℕ → Option ℕ → Option (ℕ × ℕ)
newer best page None = best
newer None page (Some seq) = Some (page, seq)
newer (Some best) page (Some seq) = if nat_lt best.1 seq then Some (page, seq) else Some best

-- the best of the first n pages, with its sequence number
unfoldable pub newest : Bytes → ℕ → Option (ℕ × ℕ)
newest image zero = None
newest image (suc n) = newer (newest image n) n (header_of (slot_of (slot_at image n 0)))

-- the active page and its sequence number, as a value; by the theorems it is the one of `IsActive`
unfoldable pub active : Bytes → Option (ℕ × ℕ)
active image = newest image (page_count image)

-- the format of this page, if there is one
abbrev pub format_on : Bytes → Option (ℕ × ℕ) → Option ℕ
format_on image (Some place) = Some (format_of (slot_of (slot_at image place.0 0)))
format_on image None = None

-- the format of the active page, as a value; by the theorems it is the one of `HasFormat`
unfoldable pub format : Bytes → Option ℕ
format image = format_on image (active image)
