use Rattle.std.proofs.Common.{◌∷◌}
use Rattle.debounce.specs.Scans.{has}
use Rattle.debounce.specs.Samples.{samples}
use Rattle.debounce.specs.representation.Counted.{IsCounted}
use Rattle.debounce.proofs.Fed.{all-counted}
use Rattle.debounce.proofs.debouncer.Debouncer.counted.Goals as goal

pub returns : goal.returns
returns c scans h key l =
    rw (c.parts.ensures, c.parts-2.ensures, c.parts-3.ensures) (all-counted (IsCounted (has c.args.scan.now key ∷ samples scans key) (has c.args.scan.now key)) c.pair-first.result c.pair-second.result c.pair-third.result key l
    (c.pair-first.ensures scans h key) (c.pair-second.ensures scans h key) (c.pair-third.ensures scans h key))
