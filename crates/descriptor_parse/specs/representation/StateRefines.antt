-- Representation: all that is kept between two items refines the items before.
use Rattle.std.specs.Prelude.{◌≡◌, ◌≢◌, ℕ, ◌∷◌, IsTrue, ◌≤◌, ◌/◌, ◌%◌, ◌==◌, nat_lt, nat_le, not, ◌&&◌, ◌||◌, if◌then◌else◌, List, length, filter, int_lt, Option, Some, None, is_some}
use Rattle.descriptor_parse.specs.declared.fault.ParseFault.{ParseFault}
use Rattle.descriptor_parse.specs.declared.fault.ParseFault.TheVariants.{PopEmpty, PushDeep, BadReportId, SizeTooLarge, CountTooLarge, EndWithoutCollection, CollectionDeep, UnpairedUsage, LogicalInverted, TooManyFields, MixedIds, Memory}
use Rattle.descriptor_parse.specs.declared.tag.MainTag.{MainTag}
use Rattle.descriptor_parse.specs.declared.tag.MainTag.TheVariants.{Data, Collection, EndCollection}
use Rattle.descriptor_parse.specs.declared.tag.GlobalTag.{GlobalTag}
use Rattle.descriptor_parse.specs.declared.tag.GlobalTag.TheVariants.{Pop, Push, ReportId}
use Rattle.descriptor_parse.specs.declared.state.State.{State}
use Rattle.descriptor_parse.specs.Items.{ItemValue}
use Rattle.descriptor_parse.specs.Tags.{tag, is_collection, is_end_collection}
use Rattle.descriptor_parse.specs.Fields.{open_collections}
use Rattle.descriptor_parse.specs.representation.GlobalsOf.{globals_of, max_of}
use Rattle.descriptor_parse.specs.representation.StackRefines.{StackRefines}
use Rattle.descriptor_parse.specs.representation.LocalsRefine.{LocalsRefine}
use Rattle.descriptor_parse.specs.representation.ReportsRefine.{ReportsRefine, declares}
use Rattle.descriptor_parse.specs.Faults.{fault_at, wants_memory}

-- The state refines the items before, none of which shows a fault.
pub record StateRefines (before : List ItemValue) (state : State) : Type 0 where
  pub globals : StackRefines globals_of before state.globals
  pub locals : LocalsRefine before state.locals
  pub reports : ReportsRefine before state.reports
  pub collections : state.collections ≡ open_collections before
  pub balanced : length (filter (λ item. is_end_collection (tag item)) before) ≤ length (filter (λ item. is_collection (tag item)) before)

-- a data item
abbrev pub IsData : MainTag → Type 0
IsData (Data kind) = Unit
IsData _ = ⊥

-- What the state shows of an item's faults; the proofs show that it is `fault_at`.
abbrev pub fault_of_data : ℕ → State → Option ParseFault
fault_of_data flags s =
    if nat_lt (if flags % 2 == 1 then 1024 else 32) s.globals.now.size then Some SizeTooLarge else
    (if nat_lt 1024 s.globals.now.count then Some CountTooLarge else
    (if is_some s.locals.half then Some UnpairedUsage else
    (if flags / 2 % 2 == 0 && (not (flags % 2 == 1) && int_lt (max_of s.globals.now) s.globals.now.min) then Some LogicalInverted else
    (if declares flags s.globals.now && nat_le 256 (length s.reports.fields.items) then Some TooManyFields else
    (if s.globals.now.id == 0 && s.reports.has_ids then Some MixedIds else None)))))

abbrev pub fault_of_main : MainTag → ℕ → State → Option ParseFault
fault_of_main (Data kind) flags s = fault_of_data flags s
fault_of_main Collection flags s = if nat_le 16 s.collections then Some CollectionDeep else (if is_some s.locals.half then Some UnpairedUsage else None)
fault_of_main EndCollection flags s = if s.collections == 0 then Some EndWithoutCollection else (if is_some s.locals.half then Some UnpairedUsage else None)

abbrev pub fault_of_global : GlobalTag → ℕ → State → Option ParseFault
fault_of_global Pop value s = if length s.globals.saved.items == 0 then Some PopEmpty else None
fault_of_global Push value s = if nat_le 8 (length s.globals.saved.items) then Some PushDeep else None
fault_of_global ReportId value s = if value == 0 || nat_lt 255 value then Some BadReportId else (if s.reports.has_bare then Some MixedIds else None)
fault_of_global _ value s = None

-- An item shows no fault after those before, and the state refines them all.
pub record Takes (before : List ItemValue) (item : ItemValue) (state : State) : Type 0 where
  pub clean : fault_at before item ≡ None
  pub refines : StateRefines (item ∷ before) state

-- an item is refused for its first fault, or, where it shows none, for want of memory
pub record IsRefused (before : List ItemValue) (item : ItemValue) (fault : ParseFault) : Type 0 where
  pub first : fault ≢ Memory → fault_at before item ≡ Some fault
  pub clean : fault ≡ Memory → fault_at before item ≡ None
  pub memory : fault ≡ Memory → IsTrue (wants_memory (tag item) before)
