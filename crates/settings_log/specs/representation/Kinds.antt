-- Representation: the head that a slot holds.
use Rattle.std.specs.Prelude.{◌≤◌, Option, Some, None}
use Rattle.settings_log.specs.declared.words.Head.{Head}
use Rattle.settings_log.specs.declared.words.Word.{Word}
use Rattle.settings_log.specs.declared.words.Word.TheVariants.{Data, Begins, Other}

-- the head of a slot, if it holds one
abbrev pub head_in : Word → Option Head
head_in (Begins head) = Some head
head_in Data = None
head_in Other = None

-- a head names at most 1,024 bytes
abbrev pub IsShortHead : Word → Type 0
IsShortHead (Begins head) = head.len ≤ 1024
IsShortHead Data = Unit {0}
IsShortHead Other = Unit {0}
