-- Trusted: what a list of numbers is a list of.
use Rattle.std.specs.Prelude.{ℕ, List}

-- bytes: of a flash, a slot, a packet, a report, a descriptor, a text
abbrev pub Bytes : Type 0
Bytes = List ℕ

-- the words that slots hold, each of 32 bits
abbrev pub SlotWords : Type 0
SlotWords = List ℕ

-- the codes of a keymap, layer after layer
abbrev pub KeyCodes : Type 0
KeyCodes = List ℕ

-- usages, as a host reads them
abbrev pub UsageList : Type 0
UsageList = List ℕ
