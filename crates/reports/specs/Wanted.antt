-- Trusted: the bytes of each report for a set of usages. A set is a test: `keys u` says that usage u of page 07h is in it,
-- `consumer u` that usage u of page 0Ch is.
use Rattle.shapes.specs.Shapes.{Bytes, UsageList}
use Rattle.std.specs.Prelude.{ℕ, zero, suc, ◌+◌, ◌-◌, ◌*◌, ◌/◌, ◌%◌, ◌^◌, Bool, ◌&&◌, [], ◌∷◌, ◌++◌, length, take, replicate, if◌then◌else◌, nat_le, nat_lt}
use Rattle.reports.specs.declared.Input.{Input}
use Rattle.reports.specs.declared.Input.TheVariants.{Boot, One, Two}

-- those of `count` numbers from `first` on that pass the test, rising
unfoldable pub members : (ℕ → Bool) → ℕ → ℕ → UsageList
members test first zero = []
members test first (suc n) = members test first n ++ (if test (first + n) then (first + n) ∷ [] else [])

-- the number below 2 ^ count whose bit i is set where i passes the test
unfoldable pub number_of : (ℕ → Bool) → ℕ → ℕ
number_of test zero = 0
number_of test (suc n) = (if test n then 1 else 0) * 2 ^ n + number_of test n

-- the byte whose bit i is set where i passes the test
unfoldable pub byte_of : (ℕ → Bool) → ℕ
byte_of test = number_of test 8

-- `count` bytes, bits counted through all of them from the least significant one
unfoldable pub bytes_of : (ℕ → Bool) → ℕ → Bytes
bytes_of test zero = []
bytes_of test (suc n) = bytes_of test n ++ byte_of (λ i. test (8 * n + i)) ∷ []

-- bit i is modifier E0h + i
abbrev pub modifiers_of : (ℕ → Bool) → ℕ
modifiers_of keys = byte_of (λ i. keys (224 + i))

-- the distinct usages 04h to A4h, rising
abbrev pub listed : (ℕ → Bool) → UsageList
listed keys = members keys 4 161

-- the six places of a boot report: these usages and then zeros, or six times ErrorRollOver where they
-- are more
abbrev pub places_of : UsageList → UsageList
places_of usages =
    if nat_le (length usages) 6 then usages ++ replicate (6 - length usages) 0 else replicate 6 1

-- the boot keyboard's input report (HID 1.11 appendix B.1)
unfoldable pub boot_bytes : (ℕ → Bool) → Bytes
boot_bytes keys = modifiers_of keys ∷ 0 ∷ places_of (listed keys)

-- bits 0 to 7 are the modifiers, bits 8 to 168 the usages 04h to A4h
abbrev pub bitmap_bit : (ℕ → Bool) → ℕ → Bool
bitmap_bit keys b = if nat_lt b 8 then keys (224 + b) else nat_lt b 169 && keys (b - 8 + 4)

-- the input report of ID 1
unfoldable pub bitmap_bytes : (ℕ → Bool) → Bytes
bitmap_bytes keys = 1 ∷ bytes_of (bitmap_bit keys) 22

-- the usages 001h to 3FFh, rising
abbrev pub consumer_listed : (ℕ → Bool) → UsageList
consumer_listed consumer = members consumer 1 1023

-- numbers of two bytes, the low one first
unfoldable pub words_of : UsageList → Bytes
words_of [] = []
words_of (n ∷ ns) = n % 256 ∷ n / 256 ∷ words_of ns

-- four places: these usages and then zeros
abbrev pub padded : UsageList → UsageList
padded usages = usages ++ replicate (4 - length usages) 0

-- the input report of ID 2: the usages, or the four least of more
unfoldable pub consumer_bytes : (ℕ → Bool) → Bytes
consumer_bytes consumer = 2 ∷ words_of (padded (take 4 (consumer_listed consumer)))

-- the bytes that an input report has for these usages
abbrev pub wanted : (ℕ → Bool) → (ℕ → Bool) → Input → Bytes
wanted keys consumer Boot = boot_bytes keys
wanted keys consumer One = bitmap_bytes keys
wanted keys consumer Two = consumer_bytes consumer
