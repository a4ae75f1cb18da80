-- Trusted: what is printed of the keyboard's own descriptors.
use Rattle.shapes.specs.Shapes.{Bytes}
use Rattle.std.specs.Prelude.{ℕ, [], ◌∷◌, ◌++◌, codes}
use Rattle.descriptor_build.specs.Served.{device_bytes, configuration_bytes, report_bytes}
use Rattle.text_io.specs.Digits.{in_hex}

-- the line of a descriptor: its name and its bytes in hex
abbrev pub hex_line : Bytes → Bytes → Bytes
hex_line name bytes = name ++ (32 ∷ (in_hex bytes ++ 10 ∷ []))

-- the lines of the three descriptors
abbrev pub described : Bytes
described =
    (hex_line (codes "device") device_bytes ++ hex_line (codes "configuration") configuration_bytes)
    ++ hex_line (codes "report") report_bytes
