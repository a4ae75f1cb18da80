-- Trusted: the reasons of a STALL and their numbers.
use Rattle.std.specs.Prelude.{ℕ}
use Rattle.layers.specs.declared.code.KeymapError as Keymap
use Rattle.layers.specs.declared.code.KeymapError.{KeymapError}
use Rattle.control_ep.specs.declared.why.Why.{Why}
use Rattle.control_ep.specs.declared.why.Why.TheVariants.{UnknownRequest, WrongInterface, UnknownDescriptor, UnknownReport, WrongLength, BadProtocol, BadOperation, BadLayer, BadKey, BadCode, Unsound, Worn, FlashFault, ShortData, LongData, WrongStage}

abbrev pub number_of : Why → ℕ
number_of UnknownRequest = 1
number_of WrongInterface = 2
number_of UnknownDescriptor = 3
number_of UnknownReport = 4
number_of WrongLength = 5
number_of BadProtocol = 6
number_of BadOperation = 7
number_of BadLayer = 8
number_of BadKey = 9
number_of BadCode = 10
number_of Unsound = 11
number_of Worn = 12
number_of FlashFault = 13
number_of ShortData = 14
number_of LongData = 15
number_of WrongStage = 16

-- the reason that a bad part of a feature report gives
abbrev pub reason_of : KeymapError → Why
reason_of Keymap.TheVariants.BadOperation = BadOperation
reason_of Keymap.TheVariants.BadLayer = BadLayer
reason_of Keymap.TheVariants.BadKey = BadKey
reason_of Keymap.TheVariants.BadCode = BadCode
