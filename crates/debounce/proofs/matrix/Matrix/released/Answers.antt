use Rattle.std.proofs.Common.{arith}
use Rattle.debounce.specs.representation.Kept.{Kept}
use Rattle.debounce.proofs.Fed.{released-of}
use Rattle.debounce.proofs.matrix.Matrix.released.Goals as goal

pub returns : goal.returns
returns c scans h key l =
    let kept : Kept = record { first = c.self.inside.first; second = c.self.inside.second; third = c.self.inside.third; down = c.self.inside.down } in
    released-of scans kept c.words.result.now c.args.flips.now c.of_words.result key c.words.ensures c.of_words.ensures (omega arith) (omega arith) (omega arith) (rw (← c.self.view_is) at h) l
