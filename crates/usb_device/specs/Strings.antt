-- Trusted: string descriptors (USB 2.0 section 9.6.7): a length, the type, and the text in UTF-16 with the low byte first.
use Rattle.std.specs.Prelude.{◌≡◌, ℕ, ◌+◌, ◌*◌, ◌/◌, ◌%◌, ◌&&◌, nat_lt, not, Bool, true, false, List, [], ◌∷◌, length, take, flat_map, slice_index, if◌then◌else◌}

-- the first unit of a character of two, and its second
abbrev pub is_first : ℕ → Bool
is_first unit = not (nat_lt unit 0xD800) && nat_lt unit 0xDC00

abbrev pub is_second : ℕ → Bool
is_second unit = not (nat_lt unit 0xDC00) && nat_lt unit 0xE000

-- whole characters: one unit, or two that belong together
pub data Utf16 : List ℕ → Type 0 where
  none : Utf16 []
  one : (unit : ℕ) (rest : List ℕ) → is_first unit ≡ false → is_second unit ≡ false → Utf16 rest → Utf16 (unit ∷ rest)
  two : (unit other : ℕ) (rest : List ℕ) → is_first unit ≡ true → is_second other ≡ true → Utf16 rest → Utf16 (unit ∷ other ∷ rest)

-- how much one descriptor holds of a text: 126 units, as its length is a byte; one fewer where a character would be cut
unfoldable pub held_count : List ℕ → ℕ
held_count units = if nat_lt 126 (length units) then (if is_first (slice_index units 125) then 125 else 126) else length units

abbrev pub held_units : List ℕ → List ℕ
held_units units = take (held_count units) units

abbrev pub unit_bytes : ℕ → List ℕ
unit_bytes unit = (unit % 256) ∷ (unit / 256) ∷ []

abbrev pub string_descriptor : List ℕ → List ℕ
string_descriptor units = (2 + 2 * held_count units) ∷ 3 ∷ flat_map unit_bytes (held_units units)
