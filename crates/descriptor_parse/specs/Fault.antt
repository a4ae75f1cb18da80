-- Trusted: the numbers of faults.
use Rattle.std.specs.Prelude.{ℕ}
use Rattle.descriptor_parse.specs.declared.fault.ParseFault.{ParseFault}
use Rattle.descriptor_parse.specs.declared.fault.ParseFault.TheVariants.{Truncated, Delimiter, PopEmpty, PushDeep, BadReportId, SizeTooLarge, CountTooLarge, EndWithoutCollection, CollectionDeep, UnpairedUsage, UsageInverted, LogicalInverted, TooManyFields, MixedIds, CollectionOpen, TooLong, Memory}

-- the number of a fault: of two at one item, the one with the lesser number is reported
abbrev pub number_of : ParseFault → ℕ
number_of Truncated = 1
number_of Delimiter = 2
number_of PopEmpty = 3
number_of PushDeep = 4
number_of BadReportId = 5
number_of SizeTooLarge = 6
number_of CountTooLarge = 7
number_of EndWithoutCollection = 8
number_of CollectionDeep = 9
number_of UnpairedUsage = 10
number_of UsageInverted = 11
number_of LogicalInverted = 12
number_of TooManyFields = 13
number_of MixedIds = 14
number_of CollectionOpen = 15
number_of TooLong = 16
number_of Memory = 17
