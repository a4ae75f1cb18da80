use Rattle.report_write.proofs.Places.{marked}
use Rattle.report_write.proofs.place.mark.Goals as goal

pub returns : goal.returns
returns c = marked c.args.field.now c.args.place c.first_bit.result c.args.marks.now c.put_number.new.bytes
    c.first_bit.ensures c.requires.size c.requires.bits c.put_number.ensures.length c.put_number.ensures.there c.put_number.ensures.others
