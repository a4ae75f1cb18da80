-- Representation: a usage as it is written.
use Rattle.shapes.specs.Shapes.{Bytes}
use Rattle.std.specs.Prelude.{ℕ, ◌+◌, ◌*◌, ◌^◌, if◌then◌else◌}
use Rattle.descriptor_parse.specs.declared.usage.Usage.{Usage}
use Rattle.descriptor_parse.specs.declared.usage.Usage.TheVariants.{Short, Whole}
use Rattle.descriptor_parse.specs.Globals.{unsigned}
use Rattle.descriptor_parse.specs.Locals.{has_page}

abbrev pub usage_of : Bytes → Usage
usage_of bytes = if has_page bytes then Whole (unsigned bytes) else Short (unsigned bytes)

abbrev pub usage_on : ℕ → Usage → ℕ
usage_on page (Short id) = page * 2 ^ 16 + id
usage_on page (Whole number) = number
