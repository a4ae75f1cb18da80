use Rattle.std.proofs.Common.{◌≡◌, rules, to_z, of_z, w64}
use Rattle.report_write.proofs.Places.{placed}
use Rattle.report_write.proofs.place.put_one.Goals as goal

pub returns : goal.returns
returns c =
    let least : to_z w64 (of_z w64 c.args.field.now.min) ≡ c.args.field.now.min = search rules in
    let value : to_z w64 (of_z w64 c.args.value) ≡ c.args.value = search rules in
    placed c.args.field.now c.args.place c.first_bit.result c.args.value c.args.bytes.now c.put_value.new.bytes c.first_bit.ensures c.requires.bits
    c.put_value.ensures.length (rw (least, value) at c.put_value.ensures.there) c.put_value.ensures.others
