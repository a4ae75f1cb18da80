use Rattle.std.proofs.Common.{arith}
use Rattle.debounce.specs.Samples.{samples}
use Rattle.debounce.specs.representation.Counted.{Counted}
use Rattle.debounce.proofs.Fed.{pair-counted}
use Rattle.debounce.proofs.debouncer.Debouncer.pair.Goals as goal

pub returns : goal.returns
returns c scans h key at =
    let s = rw (← c.self.view_is) at h in
    let kept : Counted = record { matrix = c.self.inside.matrix; latest = c.self.inside.latest; planes = c.self.inside.planes } in
    pair-counted (samples scans key) kept c.args.scan.now key _ _ _ c.sampled.result c.sampled.ensures
    (c.joined.ensures key at) (c.joined-2.ensures key at) (c.joined-3.ensures key at) (c.joined-latest.ensures key at) (c.joined-4.ensures key at) (s.each key (omega (arith, c.requires, at)))
