-- Trusted: what a text is refused for that is parsed for more than its fields.
use Rattle.shapes.specs.Shapes.{Bytes}
use Rattle.std.specs.Prelude.{◌≡◌, ℕ, ◌⊎◌, Bool, true, false, IsTrue, List, [], ◌∷◌}
use Rattle.descriptor_parse.specs.declared.beside.Refusal.{Refusal}
use Rattle.descriptor_parse.specs.declared.beside.Refusal.TheVariants.{Parse, Memory}
use Rattle.descriptor_parse.specs.declared.fault.ParseFault.{ParseFault}
use Rattle.descriptor_parse.specs.declared.tag.Tag.{Tag}
use Rattle.descriptor_parse.specs.declared.tag.Tag.TheVariants.{Main, Global, Skipped}
use Rattle.descriptor_parse.specs.declared.tag.MainTag.TheVariants.{Data, Collection}
use Rattle.descriptor_parse.specs.declared.tag.GlobalTag.TheVariants.{Push}
use Rattle.descriptor_parse.specs.Items.{ItemValue}
use Rattle.descriptor_parse.specs.Tags.{tag}
use Rattle.descriptor_parse.specs.Faults.{IsFaultless, IsFirst, all_items}
use Rattle.descriptor_parse.specs.Parse.{Refuses}

-- What is kept beside may want memory at a data item, a Collection, a Push, and an item that the parser skips.
abbrev pub wants_beside : Tag → Bool
wants_beside (Main (Data kind)) = true
wants_beside (Main Collection) = true
wants_beside (Global Push) = true
wants_beside Skipped = true
wants_beside _ = false

-- an item where it may be wanted begins at an offset
abbrev pub WantsBesideAt : List ItemValue → ℕ → Type 0
WantsBesideAt [] at = ⊥
WantsBesideAt (item ∷ before) at = (IsTrue (wants_beside (tag item)) × (item.offset ≡ at)) ⊎ WantsBesideAt before at

-- such an item comes before each fault of the text
abbrev pub MayWantBeside : Bytes → Type 0
MayWantBeside text = (offset : ℕ) × WantsBesideAt (all_items text) offset × IsFirst text ParseFault.Memory offset

-- for what the parser refuses it for, or for memory that is wanted beside, at an item or after the whole text
abbrev pub IsRefusal : Bytes → Refusal → Type 0
IsRefusal text (Parse e) = Refuses text e
IsRefusal text Memory = MayWantBeside text ⊎ IsFaultless text
