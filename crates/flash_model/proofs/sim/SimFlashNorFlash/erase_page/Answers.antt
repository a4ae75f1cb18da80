use Rattle.std.proofs.Common.{◌≡◌, List, ℕ, ap, length, arith, ◌∙◌, refl, subst}
use Rattle.flash_model.specs.Operations.{Erases}
use Rattle.flash_model.specs.ByMask.{ErasesByMask}
use Rattle.flash_model.proofs.Operating.{whole_erase, torn_erase}
use Rattle.flash_model.proofs.Writes.{written_back}
use Rattle.flash_model.proofs.sim.SimFlashNorFlash.erase_page.Goals as goal

pub returns-in-None-clause-operated : goal.returns-in-None-clause-operated
returns-in-None-clause-operated c =
    let same : length c.erase.new.image ≡ length c.self.inside.bytes.items = c.erase.ensures.erased.rest.same_length ∙ ap length c.deref_mut.ensures.value in
    let fits : length c.erase.new.image ≡ c.self.inside.bytes.len = omega (arith, same) in
    rw (← c.self.view_is)
    (whole_erase _ _ c.args.page (rw c.in-None.is refl)
    (rw (written_back c.self.inside.bytes.len c.erase.new.image c.self.inside.bytes.items fits)
    (subst (λ (image : List ℕ). Erases image c.args.page c.erase.new.image) c.deref_mut.ensures.value c.erase.ensures.erased))
    (record { armed = rw c.in-None.is refl; operations = refl; faults_are = refl }))

pub returns-in-Some-clause-operated : goal.returns-in-Some-clause-operated
returns-in-Some-clause-operated c =
    let same : length c.erase-in-Some.new.image ≡ length c.self.inside.bytes.items = c.erase-in-Some.ensures.by_mask.rest.same_length ∙ ap length c.deref_mut-in-Some.ensures.value in
    let fits : length c.erase-in-Some.new.image ≡ c.self.inside.bytes.len = omega (arith, same) in
    rw (← c.self.view_is, c.end_fault.ensures)
    (torn_erase _ _ c.args.page c.in-Some.mask.items (rw c.in-Some.is refl)
    (rw (written_back c.self.inside.bytes.len c.erase-in-Some.new.image c.self.inside.bytes.items fits)
    (subst (λ (image : List ℕ). ErasesByMask image c.args.page c.in-Some.mask.items c.erase-in-Some.new.image) c.deref_mut-in-Some.ensures.value (rw c.as_slice.ensures.value at c.erase-in-Some.ensures.by_mask)))
    (record { armed = refl; operations = refl; faults_are = refl }))
