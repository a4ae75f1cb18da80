use Rattle.std.proofs.Common.{rules, ◌≡◌, Some, sym, ◌∙◌}
use Rattle.steady_flash.proofs.Cells.{one_reading}
use Rattle.steady_flash.proofs.Doubts.{doubted_read, read_other}
use Rattle.steady_flash.proofs.steady.SteadyFlash.read.Goals as goal

pub returns-then-eq : goal.returns-then-eq
returns-then-eq g c b t =
    let here : c.args.self.now.in_doubt ≡ Some (record { page = c.args.page; slot = c.args.slot }) = search rules in
    sym (doubted_read (g.F.MarkedFlash.slots c.args.self.now.flash) c.args.self.now.layout c.args.self.now.in_doubt c.args.page c.args.slot here)

pub returns : goal.returns
returns g c b t =
    let apart : (c.args.self.now.in_doubt ≡ Some (record { page = c.args.page; slot = c.args.slot }) → ⊥) = search rules in
    one_reading _ _ _ (c.args.self.now.settled c.args.page c.args.slot b t apart) c.read_slot.ensures
    ∙ sym (read_other (g.F.MarkedFlash.slots c.args.self.now.flash) c.args.self.now.layout c.args.self.now.in_doubt c.args.page c.args.slot apart)
