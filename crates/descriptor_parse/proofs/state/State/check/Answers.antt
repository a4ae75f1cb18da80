use Rattle.std.proofs.Common.{ap, ◌∙◌, sym}
use Rattle.descriptor_parse.specs.representation.StateRefines.{fault_of_main}
use Rattle.descriptor_parse.specs.representation.LocalsRefine.{fault_of_local}
use Rattle.descriptor_parse.proofs.StateLemmas.{checked_main, checked_global, checked_local, checked_skipped, long_skipped}
use Rattle.descriptor_parse.proofs.state.State.check.Goals as goal

pub returns-then-item : goal.returns-then-item
returns-then-item c = λ before s. sym (checked_skipped before _ (long_skipped _ c.if-item.true))

pub returns-in-Main : goal.returns-in-Main
returns-in-Main c = λ before s.
    c.check_main.ensures ∙ ap (λ v. fault_of_main c.in-Main.tag v c.args.self.now) c.unsigned.ensures ∙ sym (checked_main before _ c.in-Main.tag _ (sym c.in-Main.ensures) s)

pub returns-in-Global : goal.returns-in-Global
returns-in-Global c = λ before s.
    c.check_global.ensures ∙ sym (checked_global before _ c.in-Global.tag _ (sym c.in-Global.ensures) s)

pub returns-in-Local : goal.returns-in-Local
returns-in-Local c = λ before s.
    c.check.ensures ∙ ap (λ v. fault_of_local c.in-Local.tag v c.args.self.now.locals.half) c.read_usage.ensures
    ∙ sym (checked_local before _ c.in-Local.tag _ (sym c.in-Local.ensures) s.locals)

pub returns-in-Skipped : goal.returns-in-Skipped
returns-in-Skipped c = λ before s. sym (checked_skipped before _ (sym c.in-Skipped.ensures))
