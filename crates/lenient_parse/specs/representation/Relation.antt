-- Representation: what is kept between two items refines those before and those to come.
use Rattle.std.specs.Prelude.{◌≡◌, ◌≢◌, ◌≤◌, List, [], ◌∷◌, length}
use Rattle.descriptor_parse.specs.Items.{ItemValue}
use Rattle.descriptor_parse.specs.Tags.{is_report_size, is_report_count}
use Rattle.descriptor_parse.specs.Globals.{unsigned, latest}
use Rattle.descriptor_parse.specs.representation.StackRefines.{StackRefines}
use Rattle.lenient_parse.specs.declared.sizes.Sizes.{Sizes}
use Rattle.lenient_parse.specs.declared.state.State.{State}
use Rattle.lenient_parse.specs.Late.{next_is_data}

abbrev pub sizes_of : List ItemValue → Sizes
sizes_of items = record {
  size = unsigned (latest is_report_size items);
  count = unsigned (latest is_report_count items);
}

pub record Relation (before rest : List ItemValue) (state : State) : Type 0 where
  pub sizes : StackRefines sizes_of before state.sizes
  pub leaving : state.leaving ≡ next_is_data rest

-- a short item has four bytes of data at most
abbrev pub IsShort : ItemValue → Type 0
IsShort item = item.prefix ≢ 254 → length item.bytes ≤ 4

abbrev pub AreShort : List ItemValue → Type 0
AreShort [] = Unit
AreShort (item ∷ more) = IsShort item × AreShort more
