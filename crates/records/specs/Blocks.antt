-- Trusted: what a slot can be, and slots side by side.
use Rattle.shapes.specs.Shapes.{Bytes}
use Rattle.std.specs.Prelude.{ℕ, ◌*◌, Bool, true, false, take, drop}
use Rattle.records.specs.declared.Slot.{Slot}
use Rattle.records.specs.declared.Slot.TheVariants.{Free, Good}

-- the eight bytes of slot i of some slots that lie one after the other
abbrev pub slot_in : Bytes → ℕ → Bytes
slot_in slots i = take 8 (drop (8 * i) slots)

-- a slot that holds a word
abbrev pub is_good : Slot → Bool
is_good (Good word) = true
is_good _ = false

-- and a slot that can be programmed
abbrev pub is_free : Slot → Bool
is_free Free = true
is_free _ = false
