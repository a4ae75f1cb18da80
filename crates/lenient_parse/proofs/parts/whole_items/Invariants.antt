use Rattle.std.proofs.Common.{◌≡◌, ◌++◌, length}
use Rattle.std.specs.Prelude.{map}
use Rattle.descriptor_parse.specs.Items.{items_at}
use Rattle.descriptor_parse.specs.ItemViews.{item_view}
use Rattle.lenient_parse.specs.Lenient.{whole, end_of}
use Rattle.lenient_parse.proofs.parts.whole_items.Given as goal

-- those so far are kept
abbrev pub invariant-loop-each : goal.invariant-loop-each
invariant-loop-each l = record {
  items : map item_view l.items.items ++ whole l.each-iterator ≡ whole (items_at 0 l.fn.text);
  end : end_of (length l.fn.text) l.each-iterator ≡ end_of (length l.fn.text) (items_at 0 l.fn.text);
}
