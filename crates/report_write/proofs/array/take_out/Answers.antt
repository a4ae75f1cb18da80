use Rattle.std.proofs.Common.{◌≡◌, ◌∙◌, refl, sym, rules, to_z, of_z, w64}
use Rattle.descriptor_parse.specs.Descriptor.{usage_list}
use Rattle.report_write.specs.Unused.{unused}
use Rattle.report_write.proofs.ArraysRefused.{off_no_room, off_twice, off_once}
use Rattle.report_write.proofs.FilledHeld.{unused_held}
use Rattle.report_write.proofs.array.take_out.Goals as goal

pub returns-in-None-clause-refused : goal.returns-in-None-clause-refused
returns-in-None-clause-refused c =
    let field = c.args.declared.now.field in
    let usages = usage_list c.args.declared.now.ranges.now in
    off_no_room field usages c.args.bytes.now c.args.marks.now c.args.usage c.args.number (unused field usages) c.in-None.ensures.unused

pub returns-then-is_set_already-clause-refused : goal.returns-then-is_set_already-clause-refused
returns-then-is_set_already-clause-refused c =
    let field = c.args.declared.now.field in
    let usages = usage_list c.args.declared.now.ranges.now in
    off_twice field usages c.args.bytes.now c.args.marks.now c.args.usage c.args.number (unused field usages) c.in-Some.value c.in-Some.ensures.unused
    (sym c.is_set_already.ensures ∙ c.if-is_set_already.true)

pub put_all-requires-clause-held : goal.put_all-requires-clause-held
put_all-requires-clause-held c =
    let field = c.args.declared.now.field in
    let usages = usage_list c.args.declared.now.ranges.now in
    let value : to_z w64 (of_z w64 c.in-Some.value) ≡ c.in-Some.value = search rules in
    rw value (unused_held field usages c.in-Some.value (sym c.in-Some.ensures.unused))

pub returns-clause-taken : goal.returns-clause-taken
returns-clause-taken c =
    let field = c.args.declared.now.field in
    let usages = usage_list c.args.declared.now.ranges.now in
    off_once field usages c.args.bytes.now c.args.marks.now c.args.usage c.args.number (unused field usages) c.in-Some.value c.in-Some.ensures.unused
    (sym c.is_set_already.ensures ∙ c.if-is_set_already.false)

pub returns-clause-set : goal.returns-clause-set
returns-clause-set c =
    let value : to_z w64 (of_z w64 c.in-Some.value) ≡ c.in-Some.value = search rules in
    record {
      value = c.in-Some.value;
      none = sym c.in-Some.ensures.unused;
      put = rw value at c.put_all.ensures;
      marks = refl;
    }
