-- Trusted where this crate is called: the bytes of a short item (HID 1.11 section 6.2.2.2).
use Rattle.shapes.specs.Shapes.{Bytes}
use Rattle.std.specs.Prelude.{ℕ, ◌+◌, ◌^◌, min, ℤ, pos, negsuc, Bool, List, [], ◌∷◌, length, take, nat_lt, if◌then◌else◌, flat_map}
use Rattle.std.specs.Int.{w32, to_le_bytes, cast_unsigned}
use Rattle.descriptor_build.specs.declared.ReportSpec.{ReportSpec}
use Rattle.descriptor_build.specs.declared.ReportSpec.TheVariants.{UsagePage, Usage, UsageMin, UsageMax, LogicalMin, LogicalMax, ReportSize, ReportCount, ReportId, Collection, EndCollection, Input, Output, Feature}

-- an item's prefix with its two size bits clear: tag and type
abbrev pub tag_of : ReportSpec → ℕ
tag_of (UsagePage _) = 0x04
tag_of (Usage _) = 0x08
tag_of (UsageMin _) = 0x18
tag_of (UsageMax _) = 0x28
tag_of (LogicalMin _) = 0x14
tag_of (LogicalMax _) = 0x24
tag_of (ReportSize _) = 0x74
tag_of (ReportCount _) = 0x94
tag_of (ReportId _) = 0x84
tag_of (Collection _) = 0xA0
tag_of EndCollection = 0xC0
tag_of (Input _) = 0x80
tag_of (Output _) = 0x90
tag_of (Feature _) = 0xB0

-- z lies from -2^k to 2^k - 1
abbrev pub holds_signed : ℕ → ℤ → Bool
holds_signed k (pos n) = nat_lt n (2 ^ k)
holds_signed k (negsuc n) = nat_lt n (2 ^ k)

-- little-endian, in the fewest of 1 and 2 bytes that hold the number unsigned
abbrev pub unsigned_bytes : ℕ → Bytes
unsigned_bytes n = take (if nat_lt n 256 then 1 else 2) (to_le_bytes w32 n)

-- little-endian, in the fewest of 1, 2 and 4 bytes that hold the number in two's complement
abbrev pub signed_bytes : ℤ → Bytes
signed_bytes z =
    take (if holds_signed 7 z then 1 else (if holds_signed 15 z then 2 else 4)) (to_le_bytes w32 (cast_unsigned w32 z))

-- an item's data
abbrev pub data_of : ReportSpec → Bytes
data_of (UsagePage n) = unsigned_bytes n
data_of (Usage n) = unsigned_bytes n
data_of (UsageMin n) = unsigned_bytes n
data_of (UsageMax n) = unsigned_bytes n
data_of (LogicalMin z) = signed_bytes z
data_of (LogicalMax z) = signed_bytes z
data_of (ReportSize n) = unsigned_bytes n
data_of (ReportCount n) = unsigned_bytes n
data_of (ReportId n) = unsigned_bytes n
data_of (Collection n) = unsigned_bytes n
data_of EndCollection = []
data_of (Input n) = unsigned_bytes n
data_of (Output n) = unsigned_bytes n
data_of (Feature n) = unsigned_bytes n

-- the size bits of a prefix: 0, 1, 2, 3 for 0, 1, 2, 4 bytes of data
abbrev pub size_bits : ℕ → ℕ
size_bits n = min n 3

-- an item: its prefix, then its data
abbrev pub item_bytes : ReportSpec → Bytes
item_bytes spec = (tag_of spec + size_bits (length (data_of spec))) ∷ data_of spec

-- the items of a report descriptor, one after the other
abbrev pub descriptor_bytes : List ReportSpec → Bytes
descriptor_bytes specs = flat_map item_bytes specs
