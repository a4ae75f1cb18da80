-- Representation: a descriptor that is known.
use Rattle.shapes.specs.Shapes.{Bytes}
use Rattle.std.specs.Prelude.{ℕ, ◌<◌, ◌≤◌, length, slice_index}
use Rattle.descriptor_parse.specs.Descriptor.{DescriptorValue, Describes}
use Rattle.descriptor_parse.specs.Faults.{IsFaultless, all_items}

-- It is the descriptor of some text that shows no fault.
abbrev pub IsKnown : DescriptorValue → Type 0
IsKnown d = ∥ ((text : Bytes) × ((i : ℕ) → slice_index text i < 256) × (length text ≤ 4096) × IsFaultless text × Describes (all_items text) d) ∥₁
