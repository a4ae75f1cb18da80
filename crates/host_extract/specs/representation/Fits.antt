-- Representation: which fields can be read with numbers of 64 bits.
use Rattle.std.specs.Prelude.{◌+◌, ◌*◌, ◌≤◌, ◌<◌, ◌^◌}
use Rattle.descriptor_parse.specs.declared.field.Field.{Field}

-- the bits of a field have numbers of 64 bits, and its values 32 bits at most
pub record FitsReading (field : Field) : Type 0 where
  pub size : field.size ≤ 32
  pub bits : field.bit + field.size * field.count < 2 ^ 64
