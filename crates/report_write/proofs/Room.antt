-- The fields of a report, and the room that they fit.
use Rattle.std.proofs.lemmas.Grind.{common_steps}
use Rattle.std.proofs.Common.{◌≡◌, ℕ, suc, ◌+◌, ◌*◌, ◌^◌, ◌<◌, ◌≤◌, Bool, true, false, List, [], ◌∷◌, ◌++◌, length, get_or, arith, refl, sym, ◌∙◌, ap}
use Rattle.std.specs.Prelude.{ℤ, ◌≤ℤ◌, All, slice_get, unwrap_or}
use Rattle.std.proofs.lemmas.Bool.{and_parts, eqb-true}
use Rattle.std.proofs.lemmas.Int.{ints}
use Rattle.std.proofs.lemmas.Option.{slice_get-get_or, unwrap_or-slice_get}
use Rattle.std.proofs.lemmas.List.{append-nil}
use Rattle.std.proofs.lemmas.List.Elements.{All-nil, All-push}
use Rattle.descriptor_parse.specs.declared.field.Kind.{Kind}
use Rattle.descriptor_parse.specs.declared.field.Field.{Field}
use Rattle.descriptor_parse.specs.Tags.{same_kind}
use Rattle.descriptor_parse.specs.Descriptor.{DescriptorValue, bits_of, ranges_at}
use Rattle.descriptor_parse.specs.Readers.{is_of_report}
use Rattle.descriptor_parse.specs.WellFormed.{FitsField, IsWellFormed, IsRange}
use Rattle.report_write.specs.declared.kept.Kept.{Kept}
use Rattle.report_write.specs.Fields.{kept, kept_below}
use Rattle.report_write.specs.representation.Fits.{FitsRoom, FitsKept}
use Rattle.field_values.proofs.Fractions.{to_abs}

-- ---- fields up to one

none_below : (d : DescriptorValue) (null_states : List Bool) (kind : Kind) (id : ℕ) → kept_below d null_states kind id 0 ≡ []
unfolding kept_below
none_below d null_states kind id = refl

one_kept : (d : DescriptorValue) (null_states : List Bool) (kind : Kind) (id number : ℕ) (field : Field) → number < length d.fields
    → is_of_report kind id (get_or d.fields number field) ≡ true
    → kept_below d null_states kind id (number + 1) ≡ kept_below d null_states kind id number ++ kept null_states number (get_or d.fields number field) ∷ []
unfolding kept_below
one_kept d null_states kind id number field l e =
    let next : number + 1 ≡ suc number = omega arith in
    rw (next, slice_get-get_or d.fields number field l, e) refl

one_left : (d : DescriptorValue) (null_states : List Bool) (kind : Kind) (id number : ℕ) (field : Field) → number < length d.fields
    → is_of_report kind id (get_or d.fields number field) ≡ false
    → kept_below d null_states kind id (number + 1) ≡ kept_below d null_states kind id number
unfolding kept_below
one_left d null_states kind id number field l e =
    let next : number + 1 ≡ suc number = omega arith in
    rw (next, slice_get-get_or d.fields number field l, e) (append-nil (kept_below d null_states kind id number))

-- ---- a field of a report

kinds_equal : (a b : Kind) → same_kind a b ≡ true → a ≡ b
kinds_equal a b same = grind (arith, common_steps)

ranges_in_order : (d : DescriptorValue) (number : ℕ) → IsWellFormed d → number < length d.fields → All IsRange (ranges_at d number)
ranges_in_order d number w l = rw (unwrap_or-slice_get d.ranges number []) (w.ranges number [] (omega (arith, w.as_many)))

field_fits : (d : DescriptorValue) (kind : Kind) (id number : ℕ) (field : Field) → IsWellFormed d → number < length d.fields
    → FitsField d field → is_of_report kind id field ≡ true → FitsRoom (bits_of d kind id) field (ranges_at d number)
field_fits d kind id number field w l f e =
    let parts = and_parts (same_kind field.kind kind) _ e in
    let its_kind : field.kind ≡ kind = kinds_equal field.kind kind parts.0 in
    let its_id : field.id ≡ id = eqb-true field.id id parts.1 in
    let end : field.bit + field.size * field.count ≤ bits_of d kind id = rw (its_kind, its_id) at f.bits in
    record {
      reading = record { size = f.size; bits = omega (arith, end, w.bits_few kind id) };
      limits = record {
        min = to_abs field.min (2 ^ 32) (omega (arith, ints, f.min_from)) (omega (arith, ints, f.min_to));
        max = to_abs field.max (2 ^ 32) (omega (arith, ints, f.max_from)) (omega (arith, ints, f.max_to));
      };
      size_some = f.size_some;
      count_some = f.count_some;
      few = f.count;
      end = end;
      in_order = ranges_in_order d number w l;
    }

kept_fits : (d : DescriptorValue) (null_states : List Bool) (kind : Kind) (id number : ℕ) (field : Field) → IsWellFormed d → number < length d.fields
    → is_of_report kind id (get_or d.fields number field) ≡ true
    → FitsKept d (bits_of d kind id) (kept null_states number (get_or d.fields number field))
kept_fits d null_states kind id number field w l e =
    record { fits = field_fits d kind id number (get_or d.fields number field) w l (w.fields number field l) e }

-- the fields of a report among the first of a descriptor, each within its room
pub record AreKept (d : DescriptorValue) (null_states : List Bool) (kind : Kind) (id number : ℕ) (items : List Kept) : Type 0 where
  pub kept : items ≡ kept_below d null_states kind id number
  pub fit : All (FitsKept d (bits_of d kind id)) items

pub nothing_kept : (d : DescriptorValue) (null_states : List Bool) (kind : Kind) (id : ℕ) → AreKept d null_states kind id 0 []
nothing_kept d null_states kind id = record { kept = sym (none_below d null_states kind id); fit = All-nil _ }

pub next_kept : (d : DescriptorValue) (null_states : List Bool) (kind : Kind) (id number : ℕ) (fields : List Field) (default : Field) (b null_state : Bool) (items : List Kept)
    → fields ≡ d.fields → IsWellFormed d → number < length fields → b ≡ is_of_report kind id (get_or fields number default) → b ≡ true
    → null_state ≡ unwrap_or (slice_get null_states number) false → AreKept d null_states kind id number items
    → AreKept d null_states kind id (number + 1) (items ++ (record { number = number; null_state = null_state; field = get_or fields number default }) ∷ [])
next_kept d null_states kind id number fields default b null_state items all w l is passes state a =
    let of_it : is_of_report kind id (get_or d.fields number default) ≡ true = rw all at (sym is ∙ passes) in
    let within : number < length d.fields = rw all at l in
    let one = kept_fits d null_states kind id number default w within of_it in
    let more = one_kept d null_states kind id number default within of_it in
    rw (all, state) (record {
      kept = ap (λ xs. xs ++ kept null_states number (get_or d.fields number default) ∷ []) a.kept ∙ sym more;
      fit = All-push (FitsKept d (bits_of d kind id)) items (kept null_states number (get_or d.fields number default)) a.fit one;
    })

pub next_left : (d : DescriptorValue) (null_states : List Bool) (kind : Kind) (id number : ℕ) (fields : List Field) (default : Field) (b : Bool) (items : List Kept)
    → fields ≡ d.fields → number < length fields → b ≡ is_of_report kind id (get_or fields number default) → b ≡ false
    → AreKept d null_states kind id number items → AreKept d null_states kind id (number + 1) items
next_left d null_states kind id number fields default b items all l is fails a =
    let other : is_of_report kind id (get_or d.fields number default) ≡ false = rw all at (sym is ∙ fails) in
    record { kept = a.kept ∙ sym (one_left d null_states kind id number default (rw all at l) other); fit = a.fit }

-- ---- more room
