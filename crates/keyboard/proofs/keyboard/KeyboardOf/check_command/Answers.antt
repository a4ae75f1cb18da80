use Rattle.std.proofs.Common.{sym, ap, ◌∙◌}
use Rattle.keyboard.specs.representation.Value.{KeyboardValue, at_work}
use Rattle.keyboard.proofs.keyboard.KeyboardOf.check_command.Goals as goal

pub returns-in-Ok : goal.returns-in-Ok
returns-in-Ok g c image r =
    let none = (c.busy.ensures image (rw (← c.self.view_is) at r)).0 c.if-busy.false in
    c.submit.ensures image c.args.bytes r (ap (λ (k : KeyboardValue). at_work k) (sym c.self.view_is) ∙ none) (sym c.command_of_bytes.ensures ∙ c.in-Ok.is)
