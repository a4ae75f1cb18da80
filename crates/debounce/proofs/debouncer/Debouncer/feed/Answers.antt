use Rattle.std.proofs.Common.{◌∷◌, ◌∙◌}
use Rattle.debounce.specs.Samples.{down}
use Rattle.debounce.proofs.Fed.{was_down, is_down_now}
use Rattle.debounce.proofs.debouncer.Debouncer.feed.Goals as goal

pub returns-clause-refines : goal.returns-clause-refines
returns-clause-refines c scans h =
    let s = rw (← c.self.view_is) at h in
    record { matrix = c.feed-flips.ensures.refines scans s.matrix; each = c.counted-self-inside.ensures scans h }

pub returns-clause-released : goal.returns-clause-released
returns-clause-released c scans h key l =
    let s = (rw (← c.self.view_is) at h).matrix in
    rw c.scan.ensures (c.released.ensures (c.args.scan ∷ scans) (c.feed-flips.ensures.refines scans s) key l
    ∙ was_down (down scans key) (down (c.args.scan ∷ scans) key) _ (c.feed-flips.ensures.flips scans s key l))

pub returns-clause-pressed : goal.returns-clause-pressed
returns-clause-pressed c scans h key l =
    let s = (rw (← c.self.view_is) at h).matrix in
    rw c.scan-2.ensures (c.pressed.ensures (c.args.scan ∷ scans) (c.feed-flips.ensures.refines scans s) key l
    ∙ is_down_now (down scans key) (down (c.args.scan ∷ scans) key) _ (c.feed-flips.ensures.flips scans s key l))
