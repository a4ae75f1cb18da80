-- Trusted where this crate is called: what the two descriptors declare: their fields, and the usages of each.
use Rattle.std.specs.Prelude.{ℕ, List, [], ◌∷◌, true, false, pos}
use Rattle.descriptor_parse.specs.declared.field.Kind.TheVariants.{Input, Output, Feature}
use Rattle.descriptor_parse.specs.declared.field.Field.{Field}

-- the host's descriptor of boot reports
unfoldable pub boot_fields : List Field
boot_fields =
    record { kind = Input; id = 0; bit = 0; size = 1; count = 8; min = pos 0; max = pos 1; array = false } ∷
    record { kind = Input; id = 0; bit = 16; size = 8; count = 6; min = pos 0; max = pos 0xA4; array = true } ∷ []

-- the usages of each of them, as first and last of ranges
unfoldable pub boot_usages : List (List (ℕ × ℕ))
boot_usages = ((0x700E0, 0x700E7) ∷ []) ∷ ((0x70000, 0x700A4) ∷ []) ∷ []

-- the keyboard's descriptor
unfoldable pub served_fields : List Field
served_fields =
    record { kind = Input; id = 1; bit = 0; size = 1; count = 8; min = pos 0; max = pos 1; array = false } ∷
    record { kind = Input; id = 1; bit = 8; size = 1; count = 161; min = pos 0; max = pos 1; array = false } ∷
    record { kind = Output; id = 1; bit = 0; size = 1; count = 5; min = pos 0; max = pos 1; array = false } ∷
    record { kind = Input; id = 2; bit = 0; size = 16; count = 4; min = pos 0; max = pos 0x3FF; array = true } ∷
    record { kind = Feature; id = 3; bit = 0; size = 8; count = 5; min = pos 0; max = pos 255; array = false } ∷ []

-- the usages of each of them, as first and last of ranges
unfoldable pub served_usages : List (List (ℕ × ℕ))
served_usages =
    ((0x700E0, 0x700E7) ∷ []) ∷ ((0x70004, 0x700A4) ∷ []) ∷ ((0x80001, 0x80005) ∷ []) ∷ ((0xC0000, 0xC03FF) ∷ []) ∷
    ((0xFF000002, 0xFF000002) ∷ []) ∷ []
