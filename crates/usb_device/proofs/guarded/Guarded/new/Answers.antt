use Rattle.std.proofs.Common.{ℕ, [], sym, subst}
use Rattle.usb_device.specs.declared.guard.Guard.{Guard}
use Rattle.usb_device.specs.representation.Guarded.{Guards}
use Rattle.usb_device.proofs.Locking.{begun}
use Rattle.usb_device.proofs.guarded.Guarded.new.Goals as goal

pub returns : goal.returns
returns g c = λ s.
    let refines = g.E.Endpoints.refines in
    let P : Guard → Type 0 = λ x. Guards refines c.min.result [] x c.args.behind in
    let at_result : Guards refines c.min.result [] c.new.result c.args.behind = subst P (sym c.new.ensures) (begun refines c.min.result c.args.behind s) in
    let Q : ℕ → Type 0 = λ x. Guards refines x [] c.new.result c.args.behind in
    subst Q c.min.ensures at_result
