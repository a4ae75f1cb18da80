use Rattle.std.proofs.Common.{◌<◌, ◌^◌, arith}
use Rattle.report_read.proofs.Streams.{eight_bits}
use Rattle.report_read.proofs.stream.byte_from.Goals as goal

pub overflow_cast-result : goal.overflow_cast-result
overflow_cast-result c =
    let small : c.number_at.result < 2 ^ 8 = eight_bits c.args.report.now c.args.bit _ c.number_at.result (omega arith) c.number_at.ensures in
    record { fits = omega (arith, small) }
