-- Trusted: what is printed of a field, of a descriptor's bytes, and of a fault.
use Rattle.shapes.specs.Shapes.{Bytes}
use Rattle.std.specs.Prelude.{ℕ, ◌==◌, if◌then◌else◌, Bool, true, false, List, [], ◌∷◌, ◌++◌, codes, zip}
use Rattle.std.specs.List.{flat_map}
use Rattle.std.specs.Fmt.{decimal, signed_decimal}
use Rattle.text_io.specs.Digits.{word_in_hex}
use Rattle.descriptor_parse.specs.Fault.{number_of}
use Rattle.descriptor_parse.specs.declared.field.Field.{Field}
use Rattle.descriptor_parse.specs.declared.field.Kind.{Kind}
use Rattle.descriptor_parse.specs.declared.field.Kind.TheVariants.{Input, Output, Feature}
use Rattle.parse_lines.specs.declared.fault.LinesError.{LinesError}
use Rattle.parse_lines.specs.declared.fault.LinesError.TheVariants as error

-- the usages of a range: the first and the last, or the only one
abbrev pub shown_range : ℕ × ℕ → Bytes
shown_range range =
    if range.0 == range.1 then word_in_hex range.0 else word_in_hex range.0 ++ (45 ∷ word_in_hex range.1)

-- the usages of a field, with commas between its ranges
unfoldable pub shown_usages : List (ℕ × ℕ) → Bytes
shown_usages [] = codes "-"
shown_usages (first ∷ more) = shown_range first ++ flat_map (λ range. 44 ∷ shown_range range) more

abbrev pub kind_name : Kind → Bytes
kind_name Input = codes "input"
kind_name Output = codes "output"
kind_name Feature = codes "feature"

abbrev pub form_name : Bool → Bytes
form_name true = codes "array"
form_name false = codes "variable"

-- where a field stands: its kind, report ID, first bit, bits of a place and number of places
abbrev pub place_text : Field → Bytes
place_text f = kind_name f.kind ++ (32 ∷ (decimal f.id ++ (32 ∷ (decimal f.bit ++ (32 ∷ (decimal f.size ++ (32 ∷ decimal f.count)))))))

-- what values a place has: the least, the greatest, and the form
abbrev pub values_text : Field → Bytes
values_text f = signed_decimal f.min ++ (32 ∷ (signed_decimal f.max ++ (32 ∷ form_name f.array)))

-- the line of a field: where it stands, its values, its usages
abbrev pub field_line : Field → List (ℕ × ℕ) → Bytes
field_line f ranges = place_text f ++ (32 ∷ (values_text f ++ (32 ∷ (shown_usages ranges ++ 10 ∷ []))))

-- the lines of fields, each with its usages
unfoldable pub field_lines : List Field → List (List (ℕ × ℕ)) → Bytes
field_lines fields usages = flat_map (λ p. field_line p.0 p.1) (zip fields usages)

-- the line of a fault; nothing is printed after the output failed
abbrev pub fault_line : LinesError → Bytes
fault_line error.BadHexText = codes "fault hex" ++ 10 ∷ []
fault_line (error.Refused e) = codes "fault parse " ++ (decimal (number_of e.fault) ++ (codes " at " ++ (decimal e.offset ++ 10 ∷ [])))
fault_line error.TooLong = codes "fault too long" ++ 10 ∷ []
fault_line error.Input = codes "fault input" ++ 10 ∷ []
fault_line error.Memory = codes "fault memory" ++ 10 ∷ []
fault_line error.Output = []
