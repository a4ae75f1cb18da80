-- Trusted: the faults of a text, which of them is the first, and where memory may be wanted.
use Rattle.shapes.specs.Shapes.{Bytes}
use Rattle.std.specs.Prelude.{◌≡◌, ℕ, ◌<◌, ◌≤◌, ◌==◌, if◌then◌else◌, nat_lt, nat_le, Bool, true, false, not, ◌&&◌, ◌||◌, IsTrue, ◌⊎◌, List, [], ◌∷◌, length, find, int_lt, Option, is_some, Result, Ok, Err}
use Rattle.descriptor_parse.specs.declared.fault.ParseError.{ParseError}
use Rattle.descriptor_parse.specs.declared.fault.ParseFault.{ParseFault}
use Rattle.descriptor_parse.specs.declared.fault.ParseFault.TheVariants.{Delimiter, PopEmpty, PushDeep, BadReportId, SizeTooLarge, CountTooLarge, EndWithoutCollection, CollectionDeep, UnpairedUsage, UsageInverted, LogicalInverted, TooManyFields, MixedIds, CollectionOpen, TooLong, Memory}
use Rattle.descriptor_parse.specs.declared.tag.Tag.{Tag}
use Rattle.descriptor_parse.specs.declared.tag.Tag.TheVariants.{Main, Global, Local}
use Rattle.descriptor_parse.specs.declared.tag.MainTag.TheVariants.{Data}
use Rattle.descriptor_parse.specs.declared.tag.GlobalTag.TheVariants.{ReportId, Push}
use Rattle.descriptor_parse.specs.declared.tag.LocalTag.TheVariants.{Usage, UsageMinimum, UsageMaximum}
use Rattle.descriptor_parse.specs.Fault.{number_of}
use Rattle.descriptor_parse.specs.Items.{ItemValue, items_at}
use Rattle.descriptor_parse.specs.Tags.{tag, is_data, is_collection, is_end_collection, is_report_id, is_push, is_pop, is_delimiter}
use Rattle.descriptor_parse.specs.Globals.{unsigned, report_size, report_count, report_id, logical_minimum, logical_maximum, pushes}
use Rattle.descriptor_parse.specs.Locals.{unpaired, breaks_pair, is_inverted}
use Rattle.descriptor_parse.specs.Fields.{is_constant, is_array, is_field, takes_bit, fields, has_report_id, has_bare_data, open_collections}

-- a Report ID after a data item without one in force, or such a data item after a Report ID
abbrev pub mixes_ids : Tag → List ItemValue → Bool
mixes_ids (Global ReportId) before = has_bare_data before
mixes_ids (Main (Data kind)) before = report_id before == 0 && has_report_id before
mixes_ids _ before = false

-- An item shows a fault, by the items before it.
unfoldable pub shows : List ItemValue → ItemValue → ParseFault → Bool
shows before item Delimiter = is_delimiter (tag item)
shows before item PopEmpty = is_pop (tag item) && pushes before == 0
shows before item PushDeep = is_push (tag item) && nat_le 8 (pushes before)
shows before item BadReportId = is_report_id (tag item) && (unsigned item.bytes == 0 || nat_lt 255 (unsigned item.bytes))
shows before item SizeTooLarge = is_data (tag item) && nat_lt (if is_constant item then 1024 else 32) (report_size before)
shows before item CountTooLarge = is_data (tag item) && nat_lt 1024 (report_count before)
shows before item EndWithoutCollection = is_end_collection (tag item) && open_collections before == 0
shows before item CollectionDeep = is_collection (tag item) && nat_le 16 (open_collections before)
shows before item UnpairedUsage = breaks_pair (tag item) item (unpaired before)
shows before item UsageInverted = is_inverted (tag item) item (unpaired before)
shows before item LogicalInverted = is_data (tag item) && (is_array item && (not (is_constant item) && int_lt (logical_maximum before) (logical_minimum before)))
shows before item TooManyFields = is_field before item && nat_le 256 (length (fields before))
shows before item MixedIds = mixes_ids (tag item) before
shows before item _ = false

-- the faults that one item can show, by their numbers
abbrev pub item_faults : List ParseFault
item_faults = Delimiter ∷ PopEmpty ∷ PushDeep ∷ BadReportId ∷ SizeTooLarge ∷ CountTooLarge ∷ EndWithoutCollection ∷ CollectionDeep
    ∷ UnpairedUsage ∷ UsageInverted ∷ LogicalInverted ∷ TooManyFields ∷ MixedIds ∷ []

-- the least of them that it shows
unfoldable pub fault_at : List ItemValue → ItemValue → Option ParseFault
fault_at before item = find (shows before item) item_faults

-- the items of a text, newest first
abbrev pub onto : List ItemValue → List (Result ItemValue ParseError) → List ItemValue
onto before [] = before
onto before (Ok item ∷ more) = onto (item ∷ before) more
onto before (Err e ∷ more) = before

unfoldable pub all_items : Bytes → List ItemValue
all_items text = onto [] (items_at 0 text)

-- A fault stands at an offset among the items that follow those before.
abbrev pub IsFaultAmong : List ItemValue → List (Result ItemValue ParseError) → ParseFault → ℕ → Type 0
IsFaultAmong before [] fault offset = ⊥
IsFaultAmong before (Ok item ∷ more) fault offset = (IsTrue (shows before item fault) × (offset ≡ item.offset)) ⊎ IsFaultAmong (item ∷ before) more fault offset
IsFaultAmong before (Err e ∷ more) fault offset = (fault ≡ e.fault) × (offset ≡ e.offset)

-- what is wrong with a text as a whole
abbrev pub IsFaultAtEnd : Bytes → ParseFault → ℕ → Type 0
IsFaultAtEnd text CollectionOpen offset = (0 < open_collections (all_items text)) × (offset ≡ length text)
IsFaultAtEnd text TooLong offset = (4096 < length text) × (offset ≡ 4096)
IsFaultAtEnd text _ offset = ⊥

-- a text has a fault at an offset
abbrev pub HasFault : Bytes → ParseFault → ℕ → Type 0
HasFault text fault offset = IsFaultAmong [] (items_at 0 text) fault offset ⊎ IsFaultAtEnd text fault offset

-- a text shows no fault
abbrev pub IsFaultless : Bytes → Type 0
IsFaultless text = (fault : ParseFault) (offset : ℕ) → HasFault text fault offset → ⊥

-- no fault comes before this place, or at it with a lesser number
abbrev pub IsFirst : Bytes → ParseFault → ℕ → Type 0
IsFirst text fault offset = (other : ParseFault) (at : ℕ) → HasFault text other at
    → (offset < at) ⊎ ((offset ≡ at) × (number_of fault ≤ number_of other))

-- the first fault of a text: that of the least offset, and there of the least number
abbrev pub IsFirstFault : Bytes → ParseError → Type 0
IsFirstFault text e = HasFault text e.fault e.offset × IsFirst text e.fault e.offset

-- What is kept of an item for later ones may want memory: of a Push the Globals in force, of a Usage and of the second
-- of a pair a range, of a data item that takes a bit the length of its report, and its field.
abbrev pub wants_memory : Tag → List ItemValue → Bool
wants_memory (Global Push) before = true
wants_memory (Local Usage) before = true
wants_memory (Local UsageMinimum) before = is_some (unpaired before)
wants_memory (Local UsageMaximum) before = is_some (unpaired before)
wants_memory (Main (Data kind)) before = takes_bit before
wants_memory _ before = false

-- an item that may want memory begins at an offset
abbrev pub WantsMemoryAt : List ItemValue → ℕ → Type 0
WantsMemoryAt [] at = ⊥
WantsMemoryAt (item ∷ before) at = (IsTrue (wants_memory (tag item) before) × (item.offset ≡ at)) ⊎ WantsMemoryAt before at

-- An item that may want memory begins there, and each fault of the text comes after it.
abbrev pub MayWantMemory : Bytes → ℕ → Type 0
MayWantMemory text offset = WantsMemoryAt (all_items text) offset × IsFirst text Memory offset
