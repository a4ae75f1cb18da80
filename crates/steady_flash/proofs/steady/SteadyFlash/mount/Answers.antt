use Rattle.steady_flash.proofs.Session.{answered}
use Rattle.steady_flash.proofs.Shows.{read_image, ok_from}
use Rattle.steady_flash.proofs.steady.SteadyFlash.mount.Goals as goal

pub returns-clause-settled : goal.returns-clause-settled
returns-clause-settled g c = λ before k told.
    let s = c.start-started.ensures.settled before k in
    ok_from c.of.result _ _ _ c.of.ensures.same (λ steady same. (let t = rw same.2 at s in rw same.0 (read_image (g.F.MarkedFlash.slots c.args.flash) (g.F.MarkedFlash.slots c.start-started.new.flash) before steady.layout t.0 (λ p b. t.1 p b (told p b)))))

pub returns-clause-sound : goal.returns-clause-sound
returns-clause-sound g c = λ before k.
    let s = c.start-started.ensures.sound before k in
    answered c.of.result _ _ _ _
    (λ steady same. (let t = rw same.2 at s in rw same.0 t))
    (λ unmounted same. (let t = rw same.1 at s in rw same.0 t))
    c.of.ensures.same
