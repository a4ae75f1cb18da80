-- Trusted: the usages that an input report of the keyboard is to name, as the host reads them: 32 bits, the page in the
-- high half; rising, each once. A set is a test: `keys u` says that usage u of page 07h is in it, `consumer u` usage u of
-- page 0Ch.
use Rattle.shapes.specs.Shapes.{UsageList}
use Rattle.std.specs.Prelude.{ℕ, ◌+◌, ◌-◌, Bool, [], ◌∷◌, ◌++◌, length, map, take, nat_le, if◌then◌else◌}
use Rattle.reports.specs.Wanted.{members, listed, consumer_listed}
use Rattle.reports.specs.declared.Input.{Input}
use Rattle.reports.specs.declared.Input.TheVariants.{Boot, One, Two}

-- 04h to A4h, and the modifiers, of page 07h
abbrev pub key_usages : (ℕ → Bool) → UsageList
key_usages keys = members (λ usage. keys (usage - 0x70000)) 0x70004 161

-- the modifiers among them
abbrev pub modifier_usages : (ℕ → Bool) → UsageList
modifier_usages keys = members (λ usage. keys (usage - 0x70000)) 0x700E0 8

-- In a boot report ErrorRollOver stands for more than six usages besides the modifiers.
abbrev pub boot_key_usages : (ℕ → Bool) → UsageList
boot_key_usages keys = if nat_le (length (listed keys)) 6 then key_usages keys else 0x70001 ∷ []

-- the four least of the usages 001h to 3FFh of page 0Ch
abbrev pub consumer_usages : (ℕ → Bool) → UsageList
consumer_usages consumer = map (λ usage. 0xC0000 + usage) (take 4 (consumer_listed consumer))

-- the usages that each input report is to name
abbrev pub wanted_usages : (ℕ → Bool) → (ℕ → Bool) → Input → UsageList
wanted_usages keys consumer Boot = boot_key_usages keys ++ modifier_usages keys
wanted_usages keys consumer One = key_usages keys ++ modifier_usages keys
wanted_usages keys consumer Two = consumer_usages consumer
