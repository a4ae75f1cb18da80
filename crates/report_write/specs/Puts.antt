-- Trusted: what a place that is set leaves in a report; marks stand beside the bits of a report, on at the first bit of each
-- place that was set.
use Rattle.shapes.specs.Shapes.{Bytes}
use Rattle.std.specs.Prelude.{◌≡◌, ◌≢◌, ℕ, ◌==◌, ◌<◌, Bool, true, length, ℤ}
use Rattle.descriptor_parse.specs.declared.field.Field.{Field}
use Rattle.host_extract.specs.Found.{value_at}
use Rattle.host_extract.specs.Numbers.{report_bit}
use Rattle.field_values.specs.Held.{place_bit}
use Rattle.field_values.specs.Places.{IsOutside}

-- a place holds a value, and each bit outside it is what it was
pub record IsPut (field : Field) (place : ℕ) (value : ℤ) (old new : Bytes) : Type 0 where
  pub long : length new ≡ length old
  pub there : value_at field new place ≡ value
  pub others : (bit : ℕ) → IsOutside (place_bit field place) field.size bit → report_bit new bit ≡ report_bit old bit

-- a place was set
abbrev pub is_set : Field → Bytes → ℕ → Bool
is_set field marks place = report_bit marks (place_bit field place) == 1

-- one more place is set
pub record IsMarked (field : Field) (place : ℕ) (old new : Bytes) : Type 0 where
  pub long : length new ≡ length old
  pub there : report_bit new (place_bit field place) ≡ 1
  pub others : (bit : ℕ) → bit ≢ place_bit field place → report_bit new bit ≡ report_bit old bit

-- the places that pass a test hold a value, and each bit outside them is what it was
pub record ArePut (field : Field) (test : ℕ → Bool) (value : ℤ) (old new : Bytes) : Type 0 where
  pub long : length new ≡ length old
  pub there : (place : ℕ) → place < field.count → test place ≡ true → value_at field new place ≡ value
  pub others : (bit : ℕ) → ((place : ℕ) → place < field.count → test place ≡ true → IsOutside (place_bit field place) field.size bit)
      → report_bit new bit ≡ report_bit old bit
