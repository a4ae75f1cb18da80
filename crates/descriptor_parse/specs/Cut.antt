-- Trusted: how a text is cut into items.
use Rattle.shapes.specs.Shapes.{Bytes}
use Rattle.std.specs.Prelude.{◌≡◌, ◌≢◌, ℕ, ◌+◌, ◌⊎◌, List, [], ◌∷◌, ◌++◌, length, Result, Err}
use Rattle.descriptor_parse.specs.declared.fault.ParseError.{ParseError}
use Rattle.descriptor_parse.specs.declared.fault.ParseFault.TheVariants.{Truncated}
use Rattle.descriptor_parse.specs.Items.{ItemValue, data_size}

-- These bytes write an item: a short one by its prefix and as many bytes of data as that says (HID 1.11, 6.2.2.2),
-- a long one by FEh, the size of its data, a tag and the data (6.2.2.3).
abbrev pub IsShortItem : ItemValue → Bytes → Type 0
IsShortItem item bytes = (item.prefix ≢ 254) × (length item.bytes ≡ data_size item.prefix) × (bytes ≡ item.prefix ∷ item.bytes)

abbrev pub IsLongItem : ItemValue → Bytes → Type 0
IsLongItem item bytes = (item.prefix ≡ 254) × ((tag : ℕ) × (bytes ≡ 254 ∷ length item.bytes ∷ tag ∷ item.bytes))

abbrev pub IsWritten : ItemValue → Bytes → Type 0
IsWritten item bytes = IsShortItem item bytes ⊎ IsLongItem item bytes

-- The items stand one after the other in a text from an offset on, up to an end after which the rest follows.
abbrev pub IsCut : ℕ → Bytes → List ItemValue → ℕ → Bytes → Type 0
IsCut offset text [] end rest = (offset ≡ end) × (text ≡ rest)
IsCut offset text (item ∷ items) end rest =
    (head : Bytes) × (more : Bytes) × IsWritten item head × (item.offset ≡ offset) × (text ≡ head ++ more) × IsCut (offset + length head) more items end rest

-- no whole item stands at the front
abbrev pub HasNoItem : Bytes → Type 0
HasNoItem rest = (item : ItemValue) (head more : Bytes) → IsWritten item head → rest ≡ head ++ more → ⊥

-- bytes that are left are an item that was cut off
abbrev pub cut_off_at : ℕ → Bytes → List (Result ItemValue ParseError)
cut_off_at offset [] = []
cut_off_at offset (b ∷ bs) = Err (record { fault = Truncated; offset = offset }) ∷ []
