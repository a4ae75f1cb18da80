-- Trusted: what a text is answered.
use Rattle.shapes.specs.Shapes.{Bytes}
use Rattle.std.specs.Prelude.{◌≡◌, ◌≢◌, ℕ, Bool, true, false, IsTrue, Result, Ok, Err}
use Rattle.descriptor_parse.specs.declared.fault.ParseError.{ParseError}
use Rattle.descriptor_parse.specs.declared.fault.ParseFault.{ParseFault}
use Rattle.descriptor_parse.specs.declared.fault.ParseFault.TheVariants.{Memory, Truncated, CollectionOpen}
use Rattle.descriptor_parse.specs.Faults.{IsFirstFault, IsFaultless, MayWantMemory, all_items}
use Rattle.descriptor_parse.specs.declared.field.Kind.{Kind}
use Rattle.descriptor_parse.specs.Descriptor.{DescriptorValue, Describes, bits_of}

-- an answer that a text is given for its first fault, or for a growth that was refused
pub record Refuses (text : Bytes) (e : ParseError) : Type 0 where
  pub first : e.fault ≢ Memory → IsFirstFault text e
  pub memory : e.fault ≡ Memory → MayWantMemory text e.offset

-- the fault is that the text ends too early
abbrev pub is_of_the_end : ParseFault → Bool
is_of_the_end Truncated = true
is_of_the_end CollectionOpen = true
is_of_the_end _ = false

-- A text shows no fault, or its first one is that it ends within an item or a collection.
abbrev pub MayGoOn : Bytes → Type 0
MayGoOn text = (e : ParseError) → IsFirstFault text e → IsTrue (is_of_the_end e.fault)

-- an answer to a text: its descriptor, its first fault, or want of memory
abbrev pub Answers : Bytes → Result DescriptorValue ParseError → Type 0
Answers text (Ok d) = IsFaultless text × Describes (all_items text) d
Answers text (Err e) = Refuses text e

-- the answer is not that memory was refused
abbrev pub IsOfTheText : Result DescriptorValue ParseError → Type 0
IsOfTheText (Ok d) = Unit
IsOfTheText (Err e) = e.fault ≢ Memory

-- two answers are the same refusal, or descriptors with the same fields, usages, use of IDs and lengths of reports
abbrev pub AreSame : Result DescriptorValue ParseError → Result DescriptorValue ParseError → Type 0
AreSame (Ok a) (Ok b) = (a.fields ≡ b.fields) × (a.ranges ≡ b.ranges) × (a.uses_ids ≡ b.uses_ids) × ((kind : Kind) (id : ℕ) → bits_of a kind id ≡ bits_of b kind id)
AreSame (Err a) (Err b) = a ≡ b
AreSame _ _ = ⊥
