use Rattle.std.proofs.Common.{arith}
use Rattle.report_read.proofs.Bytes.{byte_is}
use Rattle.report_read.proofs.lane.Lane.raw.Goals as goal

pub returns-in-Byte : goal.returns-in-Byte
returns-in-Byte c =
    byte_is c.args.self.now.kept.field c.args.self.now.form c.args.bytes.now c.args.place c.byte_at.result c.in-Byte.is c.requires.form
    (λ k. omega (arith, c.type_inv.bytes k)) c.byte_at.ensures
