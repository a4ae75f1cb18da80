use Rattle.std.proofs.Common.{◌≡◌, ◌∙◌, sym, arith, rules, to_z, of_z, w64}
use Rattle.descriptor_parse.specs.Descriptor.{usage_list}
use Rattle.report_write.specs.Arrays.{names}
use Rattle.report_write.proofs.ArraysCleared.{ahead, names_same, one_put, one_left, all_put}
use Rattle.report_write.proofs.array.put_all.Goals as goal
use Rattle.report_write.proofs.array.put_all.Goals.{then-is_named, else-is_named}

pub loop-place-preserved : goal.loop-place-preserved
loop-place-preserved c =
    let field = c.args.declared.now.field in
    let usages = usage_list c.args.declared.now.ranges.now in
    let old = c.args.bytes.now in
    let test = names field usages old c.args.usage in
    let value = to_z w64 (of_z w64 c.args.value) in
    let place = c.loop-place.place in
    let same = names_same field usages old c.loop-place.bytes c.args.usage place
    (ahead field test value old place c.loop-place.bytes place c.loop-place.invariant (omega arith)) in
    elim c.if-is_named.branch [
      | then-is_named w ↦ (
          let passed = same ∙ (sym c.is_named.ensures ∙ w.if-is_named.true) in
          rw w.bytes-is (one_put field test value old place c.loop-place.bytes w.put_one.new.bytes c.loop-place.invariant passed w.put_one.ensures))
      | else-is_named w ↦ (
          let failed = same ∙ (sym c.is_named.ensures ∙ w.if-is_named.false) in
          rw w.bytes-is (one_left field test value old place c.loop-place.bytes c.loop-place.invariant failed))
    ]

pub returns : goal.returns
returns c =
    let field = c.args.declared.now.field in
    let all : c.loop-place.place ≡ field.count = omega (arith, c.loop-place.auto.place-end, c.loop-place-test.false) in
    let value : to_z w64 (of_z w64 c.args.value) ≡ c.args.value = search rules in
    all_put field (names field (usage_list c.args.declared.now.ranges.now) c.args.bytes.now c.args.usage) c.args.value c.args.bytes.now c.loop-place.bytes
    (rw (all, value) at c.loop-place.invariant)
