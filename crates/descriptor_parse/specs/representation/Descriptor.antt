-- Representation: the last of some usages.
use Rattle.shapes.specs.Shapes.{UsageList}
use Rattle.std.specs.Prelude.{ℕ, ◌-◌, length, slice_get, Option}

abbrev pub last_of : UsageList → Option ℕ
last_of usages = slice_get usages (length usages - 1)
