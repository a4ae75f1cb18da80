use Rattle.debounce.specs.representation.Kept.{Kept}
use Rattle.debounce.proofs.Fed.{pressed-of}
use Rattle.debounce.proofs.matrix.Matrix.pressed.Goals as goal

pub returns : goal.returns
returns c scans h key l =
    let kept : Kept = record { first = c.self.inside.first; second = c.self.inside.second; third = c.self.inside.third; down = c.self.inside.down } in
    pressed-of scans kept c.words.result.now c.args.flips.now c.of_words.result key c.words.ensures c.of_words.ensures (rw (← c.self.view_is) at h) l
