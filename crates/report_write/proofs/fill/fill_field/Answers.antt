use Rattle.std.proofs.Common.{◌≡◌, sym, rules, to_z, of_z, w64}
use Rattle.descriptor_parse.specs.Descriptor.{ranges_at, usage_list}
use Rattle.report_write.proofs.FilledHeld.{unused_held, filled_with, filled_array, filled_null}
use Rattle.report_write.proofs.fill.fill_field.Goals as goal

pub fill_places-requires-clause-held : goal.fill_places-requires-clause-held
fill_places-requires-clause-held c =
    let kept = c.args.kept.now in
    let value : to_z w64 (of_z w64 c.in-Some.value) ≡ c.in-Some.value = search rules in
    let taken = rw (c.usages_of.ensures.field, c.usages_of.ensures.ranges) at c.in-Some.ensures.unused in
    rw value (unused_held kept.field (usage_list (ranges_at c.args.descriptor.now kept.number)) c.in-Some.value (sym taken))

pub returns-in-Some-clause-filled : goal.returns-in-Some-clause-filled
returns-in-Some-clause-filled c =
    let kept = c.args.kept.now in
    let value : to_z w64 (of_z w64 c.in-Some.value) ≡ c.in-Some.value = search rules in
    let taken = rw (c.usages_of.ensures.field, c.usages_of.ensures.ranges) at c.in-Some.ensures.unused in
    let there = rw value at c.fill_places.ensures.there in
    filled_array c.args.descriptor.now kept c.in-Some.value c.args.bytes.now c.fill_places.new.bytes c.if-kept.true (sym taken)
    (filled_with kept (ranges_at c.args.descriptor.now kept.number) c.in-Some.value c.args.bytes.now c.fill_places.new.bytes c.requires.fits
    c.fill_places.ensures.length there c.fill_places.ensures.others)

pub returns-in-Some-null_of-clause-filled : goal.returns-in-Some-null_of-clause-filled
returns-in-Some-null_of-clause-filled c =
    let kept = c.args.kept.now in
    let value : to_z w64 (of_z w64 c.in-Some-null_of.value) ≡ c.in-Some-null_of.value = search rules in
    let there = rw value at c.fill_places-in-Some-null_of.ensures.there in
    filled_null c.args.descriptor.now kept c.in-Some-null_of.value c.args.bytes.now c.fill_places-in-Some-null_of.new.bytes c.if-kept.false c.if-kept-2.true
    (sym c.in-Some-null_of.ensures.null)
    (filled_with kept (ranges_at c.args.descriptor.now kept.number) c.in-Some-null_of.value c.args.bytes.now c.fill_places-in-Some-null_of.new.bytes
    c.requires.fits c.fill_places-in-Some-null_of.ensures.length there c.fill_places-in-Some-null_of.ensures.others)
