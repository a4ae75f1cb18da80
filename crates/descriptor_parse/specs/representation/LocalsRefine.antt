-- Representation: the Local items that are kept refine the items before.
use Rattle.std.specs.Prelude.{◌≡◌, ℕ, ◌/◌, ◌^◌, ◌==◌, nat_lt, if◌then◌else◌, Bool, true, false, not, ◌||◌, List, [], ◌∷◌, ◌++◌, map, option_map, Option, Some, None, is_some}
use Rattle.descriptor_parse.specs.declared.fault.ParseFault.{ParseFault}
use Rattle.descriptor_parse.specs.declared.fault.ParseFault.TheVariants.{Delimiter, UnpairedUsage, UsageInverted}
use Rattle.descriptor_parse.specs.declared.tag.LocalTag.{LocalTag}
use Rattle.descriptor_parse.specs.declared.tag.LocalTag.TheVariants.{UsageMinimum, UsageMaximum}
use Rattle.descriptor_parse.specs.declared.usage.Usage.{Usage}
use Rattle.descriptor_parse.specs.declared.usage.Usage.TheVariants.{Short, Whole}
use Rattle.descriptor_parse.specs.declared.locals.UsageRange.{UsageRange}
use Rattle.descriptor_parse.specs.declared.locals.Half.{Half}
use Rattle.descriptor_parse.specs.declared.locals.Locals.{Locals}
use Rattle.descriptor_parse.specs.Items.{ItemValue}
use Rattle.descriptor_parse.specs.Tags.{tag}
use Rattle.descriptor_parse.specs.Locals.{is_minimum, unpaired, usages_since_main}
use Rattle.descriptor_parse.specs.representation.Written.{usage_of, usage_on}

abbrev pub raw_of : Usage → ℕ
raw_of (Short id) = id
raw_of (Whole number) = number

abbrev pub range_on : ℕ → UsageRange → ℕ × ℕ
range_on page range = (usage_on page range.first, usage_on page range.last)

abbrev pub half_of : ItemValue → Half
half_of item = record { minimum = is_minimum (tag item); usage = usage_of item.bytes }

abbrev pub are_alike : Usage → Usage → Bool
are_alike (Short a) (Short b) = true
are_alike (Whole a) (Whole b) = a / 2 ^ 16 == b / 2 ^ 16
are_alike _ _ = false

abbrev pub fault_of_pair : Bool → Usage → Usage → Option ParseFault
fault_of_pair paired min max =
    if not paired || not (are_alike min max) then Some UnpairedUsage
    else (if nat_lt (raw_of max) (raw_of min) then Some UsageInverted else None)

abbrev pub fault_of_local : LocalTag → Usage → Option Half → Option ParseFault
fault_of_local LocalTag.Delimiter usage half = Some Delimiter
fault_of_local UsageMinimum usage (Some half) = fault_of_pair (not half.minimum) usage half.usage
fault_of_local UsageMaximum usage (Some half) = fault_of_pair half.minimum half.usage usage
fault_of_local _ usage half = None

-- an item that adds a range
abbrev pub adds_range : LocalTag → Option Half → Bool
adds_range LocalTag.Usage half = true
adds_range LocalTag.Delimiter half = false
adds_range _ half = is_some half

-- a range of these two
abbrev pub range_from : Bool → Usage → Usage → UsageRange
range_from minimum usage other = if minimum then record { first = usage; last = other } else record { first = other; last = usage }

-- a Minimum or Maximum is kept, or makes a range with the one that was kept
abbrev pub TakesHalfAt : Option Half → Bool → Usage → Locals → Locals → Type 0
TakesHalfAt None minimum usage old new = (new.half ≡ Some (record { minimum = minimum; usage = usage })) × (new.usages.items ≡ old.usages.items)
TakesHalfAt (Some half) minimum usage old new = (new.half ≡ None) × (new.usages.items ≡ old.usages.items ++ range_from minimum usage half.usage ∷ [])

abbrev pub TakesHalf : Bool → Usage → Locals → Locals → Type 0
TakesHalf minimum usage old new = TakesHalfAt old.half minimum usage old new

pub record LocalsRefine (before : List ItemValue) (locals : Locals) : Type 0 where
  pub half : locals.half ≡ option_map half_of (unpaired before)
  pub usages : (page : ℕ) → map (range_on page) locals.usages.items ≡ usages_since_main page before
