-- Trusted: when changes are refused, and where they go.
use Rattle.shapes.specs.Shapes.{Bytes}
use Rattle.std.specs.Prelude.{◌≡◌, ℕ, ◌+◌, ◌-◌, ◌^◌, ◌≤◌, ◌<◌, IsTrue, All, List, [], ◌∷◌, Some, length}
use Rattle.page_turnover.specs.Active.{active, format}
use Rattle.page_turnover.specs.Words.{words, IsTail}
use Rattle.page_turnover.specs.Usable.{IsUsable}
use Rattle.settings.specs.declared.change.Change.{Change}
use Rattle.settings.specs.declared.store.SettingsError.{SettingsError}
use Rattle.settings.specs.declared.store.SettingsError.TheVariants.{TooLong, Full, Unsound, Foreign, Worn, Fault}
use Rattle.settings.specs.Words.{is_known, words_of}
use Rattle.settings.specs.Settings.{changed}
use Rattle.settings.specs.Copies.{all_copies}

-- the active page is of format 2, and so many words can be appended to it
pub record HasRoomFor (image : Bytes) (count : ℕ) : Type 0 where
  pub page : ℕ
  pub seq : ℕ
  pub is_active : active image ≡ Some (page, seq)
  pub current : format image ≡ Some 2
  pub tail : ℕ
  pub is_tail : IsTail image page tail
  pub room : tail + count ≤ 512

-- one change alone is appended, where there is room for its words; everything else takes a compaction
abbrev pub IsAppended : Bytes → List Change → Type 0
IsAppended image [] = ⊥
IsAppended image (change ∷ []) = HasRoomFor image (length (words_of change))
IsAppended image (change ∷ other ∷ rest) = ⊥

-- how many words the values take after the changes
abbrev pub alive : Bytes → List Change → ℕ
alive image changes = length (all_copies (changed image changes))

-- each word in the flash is one of settings
abbrev pub IsKnown : Bytes → Type 0
IsKnown image = All (λ word. IsTrue (is_known word)) (words image)

-- the active page has the greatest sequence number
pub record IsLast (image : Bytes) : Type 0 where
  pub page : ℕ
  pub last : active image ≡ Some (page, 2 ^ 28 - 1)

-- why changes are refused, in this order; nothing is written then. `Fault` is reported where the flash did not take an operation
abbrev pub IsRefused : Bytes → List Change → SettingsError → Type 0
IsRefused image changes TooLong = ⊥
IsRefused image changes Unsound = IsUsable image → ⊥
IsRefused image changes Foreign = IsUsable image × (IsKnown image → ⊥)
IsRefused image changes Full = IsUsable image × IsKnown image × (IsAppended image changes → ⊥) × (511 < alive image changes)
IsRefused image changes Worn = IsUsable image × IsKnown image × (IsAppended image changes → ⊥) × (alive image changes ≤ 511) × IsLast image
IsRefused image changes Fault = ⊥

-- there is a place for the values after the changes, and nothing else is in the flash
pub record IsAccepted (image : Bytes) (changes : List Change) : Type 0 where
  pub usable : IsUsable image
  pub known : IsKnown image
  pub fits : (IsAppended image changes → ⊥) → alive image changes ≤ 511
  pub numbered : (IsAppended image changes → ⊥) → IsLast image → ⊥
