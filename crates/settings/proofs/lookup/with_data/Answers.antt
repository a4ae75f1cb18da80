use Rattle.std.proofs.Common.{arith}
use Rattle.settings.proofs.Reading.{goes_on, is_whole}
use Rattle.settings.proofs.lookup.with_data.Goals as goal

pub returns-then-next-clause-outcome : goal.returns-then-next-clause-outcome
returns-then-next-clause-outcome c id rest =
    rw (c.ended.ensures, c.of_bytes.ensures) (is_whole id c.args.value c.args.partial c.with_bytes-next.result c.args.word rest c.requires.partial c.requires.data
    c.with_bytes-next.ensures.len c.with_bytes-next.ensures.got c.with_bytes-next.ensures.bytes (omega (arith, c.if-next.true)))

pub returns-clause-outcome : goal.returns-clause-outcome
returns-clause-outcome c id rest =
    goes_on id c.args.value c.args.partial c.with_bytes-next.result c.args.word rest c.requires.partial c.requires.data c.with_bytes-next.ensures.len c.with_bytes-next.ensures.bytes
