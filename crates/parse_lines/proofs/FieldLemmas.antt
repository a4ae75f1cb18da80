-- Printing the fields of a descriptor, one by one.
use Rattle.std.proofs.Common.{◌≡◌, ℕ, zero, suc, ◌+◌, ◌<◌, List, [], ◌∷◌, ◌++◌, length, take, get_or, refl, ap, sym, ◌∙◌, arith, append_assoc, append-nil, add-one, subst, Option}
use Rattle.std.specs.Prelude.{slice_get, unwrap_or}
use Rattle.descriptor_parse.specs.declared.field.Field.{Field}
use Rattle.std.specs.Io.KnownBytes.{Appends}
use Rattle.std.proofs.KnownBytes.{Appends-trans}
use Rattle.parse_lines.specs.Prints.{field_line, field_lines}

pub field_lines-none : (usages : List (List (ℕ × ℕ))) → field_lines [] usages ≡ []
unfolding field_lines
field_lines-none usages = refl

-- one field more
pub field_lines_more : (fields : List Field) (usages : List (List (ℕ × ℕ))) (i : ℕ) (d : Field) → i < length fields → length usages ≡ length fields
    → field_lines (take i fields) usages ++ field_line (get_or fields i d) (unwrap_or (slice_get usages i) []) ≡ field_lines (take (suc i) fields) usages
unfolding field_lines
field_lines_more [] usages i d l same = absurd (omega (arith, l))
field_lines_more (f ∷ fs) [] i d l same = absurd (omega (arith, same))
field_lines_more (f ∷ fs) (ranges ∷ more) zero d l same = sym (append-nil (field_line f ranges))
field_lines_more (f ∷ fs) (ranges ∷ more) (suc i) d l same =
    append_assoc (field_line f ranges) (field_lines (take i fs) more) (field_line (get_or fs i d) (unwrap_or (slice_get more i) []))
    ∙ ap (λ xs. field_line f ranges ++ xs) (field_lines_more fs more i d (omega (arith, l)) (omega (arith, same)))

-- the line of one field more is printed
pub printed_more : (first before now : Option (List ℕ)) (items fields : List Field) (usages : List (List (ℕ × ℕ))) (i : ℕ) (d : Field) (ranges : List (ℕ × ℕ))
    → items ≡ fields → length usages ≡ length fields → i < length items → ranges ≡ unwrap_or (slice_get usages i) []
    → Appends first before (field_lines (take i fields) usages) → Appends before now (field_line (get_or items i d) ranges)
    → Appends first now (field_lines (take (i + 1) fields) usages)
printed_more first before now items fields usages i d ranges same as_many l its so_far line =
    let here : field_line (get_or items i d) ranges ≡ field_line (get_or fields i d) (unwrap_or (slice_get usages i) []) = rw (same, its) refl in
    let in_range : i < length fields = omega (arith, l, ap length same) in
    let more : field_lines (take i fields) usages ++ field_line (get_or items i d) ranges ≡ field_lines (take (i + 1) fields) usages
    = ap (λ xs. field_lines (take i fields) usages ++ xs) here ∙ rw add-one (field_lines_more fields usages i d in_range as_many) in
    subst (Appends first now) more (Appends-trans first before now _ _ so_far line)
