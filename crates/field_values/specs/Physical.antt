-- Trusted: what a value is in its unit (HID 1.11, 6.2.2.7).
use Rattle.std.specs.Prelude.{◌≡◌, ◌^◌, nat_lt, not, ◌&&◌, if◌then◌else◌, Bool, ℤ, pos, ◌+ℤ◌, ◌-ℤ◌, ◌*ℤ◌, ◌<ℤ◌, int_lt, unsigned_abs, Option, Some, None}
use Rattle.std.specs.Int.{IsGcd}
use Rattle.field_values.specs.declared.physical.Extents.{Extents}
use Rattle.field_values.specs.declared.physical.NoPhysical.{NoPhysical}
use Rattle.field_values.specs.declared.physical.NoPhysical.TheVariants.{EqualLimits, InvertedLimits, LargeExtents}

-- The logical extents that are not rising span nothing.
abbrev pub no_span : Extents → Option NoPhysical
no_span logical =
    if int_lt logical.min logical.max then None else
    (if int_lt logical.max logical.min then Some InvertedLimits else Some EqualLimits)

-- extents that are at most 2 ^ 32 from 0, as all that items declare
abbrev pub are_of_items : Extents → Bool
are_of_items extents = not (nat_lt (2 ^ 32) (unsigned_abs extents.min)) && not (nat_lt (2 ^ 32) (unsigned_abs extents.max))

-- why a value has no physical one, if it has none: by its logical extents first
abbrev pub no_physical : Extents → Extents → Option NoPhysical
no_physical logical physical =
    if int_lt logical.min logical.max then (if are_of_items physical then None else Some LargeExtents) else no_span logical

-- The standard's resolution is (Logical Maximum - Logical Minimum) / (Physical Maximum - Physical Minimum), so many counts a
-- unit. A value is (value - Logical Minimum) / resolution units above the Physical Minimum: the fraction
-- numerator / denominator is this number, both sides here times the logical span and the denominator.
abbrev pub IsOnLine : Extents → Extents → ℤ → ℤ → ℤ → Type 0
IsOnLine logical physical value numerator denominator =
    numerator *ℤ (logical.max -ℤ logical.min)
    ≡ (physical.min *ℤ (logical.max -ℤ logical.min) +ℤ (value -ℤ logical.min) *ℤ (physical.max -ℤ physical.min)) *ℤ denominator

-- it is that in lowest terms, above a positive denominator
pub record IsPhysical (logical physical : Extents) (value numerator denominator : ℤ) : Type 0 where
  pub positive : pos 0 <ℤ denominator
  pub line : IsOnLine logical physical value numerator denominator
  pub lowest : IsGcd (unsigned_abs numerator) (unsigned_abs denominator) 1
