-- Trusted: whether a text has a fault, as a test.
use Rattle.shapes.specs.Shapes.{Bytes}
use Rattle.std.specs.Prelude.{◌≡◌, ℕ, ◌==◌, nat_le, Bool, true, false, ◌&&◌, List, [], ◌∷◌, length, Option, Some, None, Result, Ok, Err}
use Rattle.descriptor_parse.specs.declared.fault.ParseError.{ParseError}
use Rattle.descriptor_parse.specs.declared.fault.ParseFault.{ParseFault}
use Rattle.descriptor_parse.specs.Items.{ItemValue, items_at}
use Rattle.descriptor_parse.specs.Fields.{open_collections}
use Rattle.descriptor_parse.specs.Faults.{fault_at, all_items}

-- there is no fault, and more holds
abbrev pub both : Option ParseFault → Bool → Bool
both None more = more
both (Some fault) more = false

-- each item that follows is whole and shows no fault
unfoldable pub all_clean : List ItemValue → List (Result ItemValue ParseError) → Bool
all_clean before [] = true
all_clean before (Ok item ∷ more) = both (fault_at before item) (all_clean (item ∷ before) more)
all_clean before (Err e ∷ more) = false

-- a report descriptor without a fault
unfoldable pub is_faultless : Bytes → Bool
is_faultless text = all_clean [] (items_at 0 text) && (nat_le (length text) 4096 && open_collections (all_items text) == 0)
