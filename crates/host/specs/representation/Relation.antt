-- Representation: what is kept of a host refines its calls, part by part.
use Rattle.shapes.specs.Shapes.{Bytes}
use Rattle.std.specs.Prelude.{◌≡◌, ℕ, ◌++◌, length, true, false, Option, Some, None}
use Rattle.descriptor_parse.specs.Descriptor.{DescriptorValue, Describes}
use Rattle.descriptor_parse.specs.Faults.{all_items}
use Rattle.descriptor_parse.specs.representation.Refines as parse
use Rattle.host.specs.declared.gathering.Gathering.{Gathering}
use Rattle.host.specs.declared.gathering.Gathered.{Gathered}
use Rattle.host.specs.declared.gathering.Gathered.TheVariants.{Part, Text, Nothing}
use Rattle.host.specs.Kept.{Fetch, with_packet, is_end, is_kept}

-- a text that is being gathered
pub record Gathers (fetch : Fetch) (now : Gathering) : Type 0 where
  pub wanted : now.wanted ≡ fetch.wanted
  pub length : now.length ≡ length fetch.bytes
  pub parser : parse.Refines fetch.bytes now.parser

abbrev pub GathersSome : Option Fetch → Option Gathering → Type 0
GathersSome None None = Unit {0}
GathersSome (Some fetch) (Some now) = Gathers fetch now
GathersSome _ _ = ⊥

-- what a text becomes with a packet
abbrev pub Becomes : Fetch → Bytes → Gathered → Type 0
Becomes fetch packet (Part now) = (is_end fetch packet ≡ false) × Gathers (with_packet fetch packet) now
Becomes fetch packet (Text d) = (is_end fetch packet ≡ true) × (is_kept (fetch.bytes ++ packet) ≡ true) × Describes (all_items (fetch.bytes ++ packet)) d
Becomes fetch packet Nothing = (is_end fetch packet ≡ true) × (is_kept (fetch.bytes ++ packet) ≡ false)

-- the descriptor of a text that is kept
abbrev pub Keeps : Option Bytes → Option DescriptorValue → Type 0
Keeps None None = Unit {0}
Keeps (Some text) (Some d) = Describes (all_items text) d
Keeps _ _ = ⊥
