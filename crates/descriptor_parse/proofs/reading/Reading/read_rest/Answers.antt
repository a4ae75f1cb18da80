use Rattle.std.proofs.Common.{◌≡◌}
use Rattle.descriptor_parse.proofs.reading.Reading.read_rest.Goals as goal

pub returns-clause-read : goal.returns-clause-read
returns-clause-read c = λ text none a.
    let kept : c.keep.new.part.items ≡ c.in_ok-offset.left.now = c.keep.ensures none c.in_ok-offset.ensures.few in
    record { at = rw kept (c.in_ok-offset.ensures.read text a); short = rw kept c.in_ok-offset.ensures.short }
