-- Trusted: which changes can be kept.
use Rattle.shapes.specs.Shapes.{Bytes}
use Rattle.std.specs.Prelude.{◌≡◌, ◌≤◌, length, IfSome, Option, option_map}
use Rattle.settings_log.specs.Values.{value_of}
use Rattle.settings_log.specs.declared.change.Change.{Change}

-- a value has at most 1,024 bytes
abbrev pub IsShort : Change → Type 0
IsShort change = IfSome change.value (λ bytes. length bytes.now ≤ 1024)

-- the value that a change gives its id
abbrev pub given : Change → Option Bytes
given change = option_map (λ bytes. bytes.now) change.value

-- the id has the value already that it is given
abbrev pub Holds : Bytes → Change → Type 0
Holds image change = value_of image change.id ≡ given change
