use Rattle.std.proofs.Common.{◌≡◌, ◌∙◌, refl, sym, rules, to_z, of_z, w64}
use Rattle.std.specs.Prelude.{pos, ◌+ℤ◌, Some, None}
use Rattle.descriptor_parse.specs.Descriptor.{usage_list}
use Rattle.report_write.proofs.Controls.{listed_first}
use Rattle.report_write.proofs.ArraysCleared.{all_bits}
use Rattle.report_write.proofs.Hinted.{whole}
use Rattle.report_write.proofs.Knowing.{known_put, read_on}
use Rattle.report_write.proofs.ArraysRefused.{on_unknown, on_too_large, on_out_of_range, on_place, taken_twice, taken_once}
use Rattle.report_write.proofs.array.put_in.Goals as goal

pub returns-in-None-clause-refused : goal.returns-in-None-clause-refused
returns-in-None-clause-refused c =
    on_unknown c.args.declared.now.field (usage_list c.args.declared.now.ranges.now) c.args.bytes.now c.args.marks.now c.args.usage c.args.number c.in-None.ensures

pub returns-then-not-is_held-clause-refused : goal.returns-then-not-is_held-clause-refused
returns-then-not-is_held-clause-refused c =
    let field = c.args.declared.now.field in
    let least : to_z w64 (of_z w64 field.min) ≡ field.min = search rules in
    let value : to_z w64 (of_z w64 (to_z w64 (of_z w64 field.min) +ℤ to_z w64 c.in-Some.listed)) ≡ field.min +ℤ pos c.in-Some.listed = search rules in
    let held = rw (value, least) at c.is_held.ensures in
    on_too_large field (usage_list c.args.declared.now.ranges.now) c.args.bytes.now c.args.marks.now c.args.usage c.args.number c.in-Some.listed
    (field.min +ℤ pos c.in-Some.listed) c.in-Some.ensures refl (sym held ∙ c.if-not-is_held.true)

pub returns-then-value-declared-clause-refused : goal.returns-then-value-declared-clause-refused
returns-then-value-declared-clause-refused c =
    let field = c.args.declared.now.field in
    let least : to_z w64 (of_z w64 field.min) ≡ field.min = search rules in
    let most : to_z w64 (of_z w64 field.max) ≡ field.max = search rules in
    let value : to_z w64 (of_z w64 (to_z w64 (of_z w64 field.min) +ℤ to_z w64 c.in-Some.listed)) ≡ field.min +ℤ pos c.in-Some.listed = search rules in
    let held = rw (value, least) at c.is_held.ensures in
    let over = rw (value, most) at c.if-value-declared.true in
    on_out_of_range field (usage_list c.args.declared.now.ranges.now) c.args.bytes.now c.args.marks.now c.args.usage c.args.number c.in-Some.listed
    (field.min +ℤ pos c.in-Some.listed) c.in-Some.ensures refl (sym held ∙ c.if-not-is_held.false) over

pub returns-in-None-place_for-clause-refused : goal.returns-in-None-place_for-clause-refused
returns-in-None-place_for-clause-refused c =
    let field = c.args.declared.now.field in
    let least : to_z w64 (of_z w64 field.min) ≡ field.min = search rules in
    let most : to_z w64 (of_z w64 field.max) ≡ field.max = search rules in
    let value : to_z w64 (of_z w64 (to_z w64 (of_z w64 field.min) +ℤ to_z w64 c.in-Some.listed)) ≡ field.min +ℤ pos c.in-Some.listed = search rules in
    let held = rw (value, least) at c.is_held.ensures in
    let over = rw (value, most) at c.if-value-declared.false in
    on_place field (usage_list c.args.declared.now.ranges.now) c.args.bytes.now c.args.marks.now c.args.usage c.args.number c.in-Some.listed
    (field.min +ℤ pos c.in-Some.listed) None c.in-Some.ensures refl (sym held ∙ c.if-not-is_held.false) over c.in-None-place_for.ensures.place

pub returns-then-is_set-clause-refused : goal.returns-then-is_set-clause-refused
returns-then-is_set-clause-refused c =
    let field = c.args.declared.now.field in
    let least : to_z w64 (of_z w64 field.min) ≡ field.min = search rules in
    let most : to_z w64 (of_z w64 field.max) ≡ field.max = search rules in
    let value : to_z w64 (of_z w64 (to_z w64 (of_z w64 field.min) +ℤ to_z w64 c.in-Some.listed)) ≡ field.min +ℤ pos c.in-Some.listed = search rules in
    let held = rw (value, least) at c.is_held.ensures in
    let over = rw (value, most) at c.if-value-declared.false in
    on_place field (usage_list c.args.declared.now.ranges.now) c.args.bytes.now c.args.marks.now c.args.usage c.args.number c.in-Some.listed
    (field.min +ℤ pos c.in-Some.listed) (Some c.in-Some-place_for.place) c.in-Some.ensures refl (sym held ∙ c.if-not-is_held.false) over
    c.in-Some-place_for.ensures.place
    ∙ taken_twice field c.args.marks.now c.args.number c.in-Some-place_for.place (sym c.is_set.ensures ∙ c.if-is_set.true)

pub returns-clause-taken : goal.returns-clause-taken
returns-clause-taken c =
    let field = c.args.declared.now.field in
    let least : to_z w64 (of_z w64 field.min) ≡ field.min = search rules in
    let most : to_z w64 (of_z w64 field.max) ≡ field.max = search rules in
    let value : to_z w64 (of_z w64 (to_z w64 (of_z w64 field.min) +ℤ to_z w64 c.in-Some.listed)) ≡ field.min +ℤ pos c.in-Some.listed = search rules in
    let held = rw (value, least) at c.is_held.ensures in
    let over = rw (value, most) at c.if-value-declared.false in
    on_place field (usage_list c.args.declared.now.ranges.now) c.args.bytes.now c.args.marks.now c.args.usage c.args.number c.in-Some.listed
    (field.min +ℤ pos c.in-Some.listed) (Some c.in-Some-place_for.place) c.in-Some.ensures refl (sym held ∙ c.if-not-is_held.false) over
    c.in-Some-place_for.ensures.place
    ∙ taken_once field c.args.marks.now c.args.number c.in-Some-place_for.place (sym c.is_set.ensures ∙ c.if-is_set.false)

pub returns-clause-set : goal.returns-clause-set
returns-clause-set c =
    let field = c.args.declared.now.field in
    let value : to_z w64 (of_z w64 (to_z w64 (of_z w64 field.min) +ℤ to_z w64 c.in-Some.listed)) ≡ field.min +ℤ pos c.in-Some.listed = search rules in
    record {
      place = c.in-Some-place_for.place;
      listed = c.in-Some.listed;
      chosen = sym c.in-Some-place_for.ensures.place;
      number = listed_first (usage_list c.args.declared.now.ranges.now) c.args.usage c.in-Some.listed c.in-Some.ensures;
      put = rw value at c.put_one.ensures;
      marked = c.mark.ensures;
    }

pub mark-requires-clause-bits : goal.mark-requires-clause-bits
mark-requires-clause-bits c =
    all_bits c.args.declared.now.field c.args.declared.now.ranges.now c.args.bytes.now c.args.marks.now c.in-Some-place_for.place c.requires.fits c.requires.beside
    c.in-Some-place_for.ensures.within

pub returns-clause-known : goal.returns-clause-known
returns-clause-known c =
    let field = c.args.declared.now.field in
    let usages = usage_list c.args.declared.now.ranges.now in
    let most : to_z w64 (of_z w64 field.max) ≡ field.max = search rules in
    let value : to_z w64 (of_z w64 (to_z w64 (of_z w64 field.min) +ℤ to_z w64 c.in-Some.listed)) ≡ field.min +ℤ pos c.in-Some.listed = search rules in
    let over = rw (value, most) at c.if-value-declared.false in
    let named = c.place_for.new.known.named in
    rw (whole c.note_if.new.slots named.items named.len (rw c.deref_mut.ensures.value at c.note_if.ensures.length) named.ok.0)
    (known_put field usages c.args.usage c.in-Some-place_for.place (field.min +ℤ pos c.in-Some.listed) c.args.bytes.now c.put_one.new.bytes c.args.marks.now c.mark.new.marks
    c.place_for.new.known.free named.items c.note_if.new.slots
    c.requires.fits.size_some c.place_for.ensures.known (rw value at c.put_one.ensures) c.mark.ensures
    (read_on field usages c.args.usage c.in-Some.listed c.requires.array over c.in-Some.ensures _)
    (rw c.deref_mut.ensures.value at c.note_if.ensures.fell) c.note_if.ensures.noted)
