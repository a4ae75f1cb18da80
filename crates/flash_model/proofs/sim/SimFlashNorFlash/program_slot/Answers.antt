use Rattle.std.proofs.Common.{◌≡◌, List, ℕ, ap, length, arith, ◌∙◌, refl, subst}
use Rattle.flash_model.specs.Operations.{Programs}
use Rattle.flash_model.specs.ByMask.{ProgramsByMask}
use Rattle.flash_model.proofs.Operating.{whole_program, torn_program}
use Rattle.flash_model.proofs.Writes.{written_back}
use Rattle.flash_model.proofs.sim.SimFlashNorFlash.program_slot.Goals as goal

pub returns-in-None-clause-operated : goal.returns-in-None-clause-operated
returns-in-None-clause-operated c =
    let same : length c.program.new.image ≡ length c.self.inside.bytes.items = c.program.ensures.programmed.rest.same_length ∙ ap length c.deref_mut.ensures.value in
    let fits : length c.program.new.image ≡ c.self.inside.bytes.len = omega (arith, same) in
    rw (← c.self.view_is)
    (whole_program _ _ c.args.page c.args.slot c.args.bytes (rw c.in-None.is refl)
    (rw (written_back c.self.inside.bytes.len c.program.new.image c.self.inside.bytes.items fits)
    (subst (λ (image : List ℕ). Programs image c.args.page c.args.slot c.args.bytes c.program.new.image) c.deref_mut.ensures.value c.program.ensures.programmed))
    (record { armed = rw c.in-None.is refl; operations = refl; faults_are = refl }))

pub returns-in-Some-clause-operated : goal.returns-in-Some-clause-operated
returns-in-Some-clause-operated c =
    let same : length c.program-in-Some.new.image ≡ length c.self.inside.bytes.items = c.program-in-Some.ensures.by_mask.rest.same_length ∙ ap length c.deref_mut-in-Some.ensures.value in
    let fits : length c.program-in-Some.new.image ≡ c.self.inside.bytes.len = omega (arith, same) in
    rw (← c.self.view_is, c.end_fault.ensures)
    (torn_program _ _ c.args.page c.args.slot c.args.bytes c.in-Some.mask.items (rw c.in-Some.is refl)
    (rw (written_back c.self.inside.bytes.len c.program-in-Some.new.image c.self.inside.bytes.items fits)
    (subst (λ (image : List ℕ). ProgramsByMask image c.args.page c.args.slot c.args.bytes c.in-Some.mask.items c.program-in-Some.new.image) c.deref_mut-in-Some.ensures.value (rw c.as_slice.ensures.value at c.program-in-Some.ensures.by_mask)))
    (record { armed = refl; operations = refl; faults_are = refl }))
