-- Trusted: items as iterators give them.
use Rattle.std.specs.Prelude.{Result, Ok, Err}
use Rattle.descriptor_parse.specs.declared.fault.ParseError.{ParseError}
use Rattle.descriptor_parse.specs.declared.items.Item.{Item}
use Rattle.descriptor_parse.specs.Items.{ItemValue}

-- an item without where its data lie in memory
abbrev pub item_view : Item → ItemValue
item_view item = record { offset = item.offset; prefix = item.prefix; bytes = item.bytes.now }

-- an item so, or the fault that stands in its place
abbrev pub result_view : Result Item ParseError → Result ItemValue ParseError
result_view (Ok item) = Ok (item_view item)
result_view (Err e) = Err e
