-- Trusted: the digits of a unit.
use Rattle.std.specs.Prelude.{ℕ, ◌/◌, ◌%◌, ◌^◌}
use Rattle.field_details.specs.declared.unit.Dimension.{Dimension}
use Rattle.field_details.specs.declared.unit.Dimension.TheVariants.{Length, Mass, Time, Temperature, Current, LuminousIntensity}

-- a digit of four bits, where digit 0 is the lowest
abbrev pub digit : ℕ → ℕ → ℕ
digit n unit = unit / 16 ^ n % 16

-- The system of units is digit 0, the exponents of the dimensions are the six above it, and the highest is reserved (HID
-- 1.11, 6.2.2.7).
abbrev pub digit_of : Dimension → ℕ
digit_of Length = 1
digit_of Mass = 2
digit_of Time = 3
digit_of Temperature = 4
digit_of Current = 5
digit_of LuminousIntensity = 6
