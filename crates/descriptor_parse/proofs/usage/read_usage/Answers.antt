use Rattle.std.proofs.Common.{◌≤◌, ◌<◌, length, arith}
use Rattle.descriptor_parse.specs.Globals.{unsigned}
use Rattle.descriptor_parse.proofs.LocalLemmas.{unsigned_two}
use Rattle.descriptor_parse.proofs.usage.read_usage.Goals as goal

pub overflow_cast-result-else-bytes-eq4 : goal.overflow_cast-result-else-bytes-eq4
overflow_cast-result-else-bytes-eq4 c =
    let two : length c.args.bytes.now ≤ 2 = omega arith in
    let small : unsigned c.args.bytes.now < 65536 = unsigned_two c.args.bytes.now (λ i. omega (arith, c.type_inv.bytes i)) two in
    record { fits = omega arith }
