-- Trusted: the fault that a text is refused for in the lenient mode, and where memory may be wanted.
use Rattle.shapes.specs.Shapes.{Bytes}
use Rattle.std.specs.Prelude.{◌≡◌, ◌≢◌, ℕ, ◌≤◌, ◌⊎◌, [], length, slice_index_or}
use Rattle.descriptor_parse.specs.declared.fault.ParseError.{ParseError}
use Rattle.descriptor_parse.specs.Faults.{IsFirstFault, MayWantMemory}
use Rattle.lenient_parse.specs.Lenient.{LenientValue, passed_over, lenient_of}

-- the first fault of the lenient text, at the offset in the text itself
abbrev pub IsFaultOf : LenientValue → ParseError → Type 0
IsFaultOf l e = (at : ℕ) × (e.offset ≡ slice_index_or l.origins at l.len) × IsFirstFault l.text (record { fault = e.fault; offset = at })

-- memory may be wanted to parse the lenient text, at the offset in the text itself
abbrev pub MayWantIn : LenientValue → ℕ → Type 0
MayWantIn l offset = (at : ℕ) × (offset ≡ slice_index_or l.origins at l.len) × MayWantMemory l.text at

-- the first fault of a text that the lenient mode reads is at an offset
abbrev pub IsRefusedAt : Bytes → ℕ → Type 0
IsRefusedAt text offset = (length text ≤ 4096) × (e : ParseError) × IsFirstFault text e × (offset ≡ e.offset)

-- Memory may be wanted by the strict reader of a text; at its first fault, to write the lenient text; and by the reader of that.
abbrev pub MayWantFor : Bytes → ℕ → Type 0
MayWantFor text offset = MayWantMemory text offset ⊎ (IsRefusedAt text offset ⊎ ((passed_over text ≢ []) × MayWantIn (lenient_of text) offset))
