use Rattle.std.proofs.Common.{◌<◌}
use Rattle.std.proofs.lemmas.Simd.{Each1-from_get_or}
use Rattle.records.proofs.Lanes.{wide_lane}
use Rattle.records.proofs.kernels.halves_of.Goals as goal

pub returns-clause-lanes : goal.returns-clause-lanes
returns-clause-lanes c j l =
    wide_lane c.args.slots j c.requires.len (Each1-from_get_or (λ x. x < 256) c.args.slots 0 (λ k h. c.requires.bytes k)) l
