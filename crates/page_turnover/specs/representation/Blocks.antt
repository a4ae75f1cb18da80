-- Representation: the blocks of a page, and what an iterator over its words keeps of the one that it is in.
use Rattle.shapes.specs.Shapes.{Bytes}
use Rattle.std.specs.Prelude.{◌≡◌, ℕ, ◌+◌, ◌*◌, ◌%◌, ◌<◌, if◌then◌else◌, List, [], ◌∷◌}
use Rattle.std.specs.Int.{bit_at}
use Rattle.records.specs.Slots.{slot_of}
use Rattle.records.specs.Blocks.{is_good}
use Rattle.flash_model.specs.Image.{slot_at}

-- the slots of a block of eight, in order
abbrev pub slots_of : Bytes → ℕ → ℕ → List Bytes
slots_of image page block =
    let at = λ (i : ℕ). slot_at image page (8 * block + i) in
    at 0 ∷ at 1 ∷ at 2 ∷ at 3 ∷ at 4 ∷ at 5 ∷ at 6 ∷ at 7 ∷ []

-- which slots are Good from this one to the end of its block of eight: bit 0 is that of the slot itself
abbrev pub AreGoodFrom : Bytes → ℕ → ℕ → ℕ → Type 0
AreGoodFrom image page slot good = (i : ℕ) → slot % 8 + i < 8 → bit_at good i ≡ (if is_good (slot_of (slot_at image page (slot + i))) then 1 else 0)

-- the same, and nothing at the first slot of a block, which is still to be read
abbrev pub AreGoodWithin : Bytes → ℕ → ℕ → ℕ → Type 0
AreGoodWithin image page slot good = 0 < slot % 8 → AreGoodFrom image page slot good
