-- One operation of a simulated flash.
use Rattle.std.proofs.Common.{◌≡◌, ℕ, ◌+◌, ◌%◌, ◌^◌, is_some, if◌then◌else◌, Option, Some, None, List, sym, ap, subst, ◌∙◌}
use Rattle.flash_model.specs.Operations.{Programs, Erases}
use Rattle.flash_model.specs.ByMask.{ProgramsByMask, ErasesByMask}
use Rattle.flash_model.specs.Sim.{SimValue}
use Rattle.flash_model.specs.FlashOperation.{FlashOperation, programs, erases}
use Rattle.flash_model.specs.Operated.{Outcome, IsOperated}

-- the counts, and that nothing is armed then
pub record CountsOne (old new : SimValue) (faults : ℕ) : Type 0 where
  pub armed : new.armed ≡ None
  pub operations : new.operations ≡ (old.operations + 1) % 2 ^ 64
  pub faults_are : new.faults ≡ faults

operated : (old new : SimValue) (operation : FlashOperation) (armed : Option (List ℕ)) → old.armed ≡ armed → Outcome old.image operation armed new.image → CountsOne old new (if is_some armed then (old.faults + 1) % 2 ^ 64 else old.faults) → IsOperated old operation new
operated old new operation armed e o c = record {
  outcome = subst (λ (a : Option (List ℕ)). Outcome old.image operation a new.image) (sym e) o;
  armed = c.armed;
  operations = c.operations;
  faults = c.faults_are ∙ ap (λ (a : Option (List ℕ)). if is_some a then (old.faults + 1) % 2 ^ 64 else old.faults) (sym e);
}

pub whole_program : (old new : SimValue) (page slot : ℕ) (bytes : List ℕ) → old.armed ≡ None → Programs old.image page slot bytes new.image → CountsOne old new old.faults → IsOperated old (programs page slot bytes) new
whole_program old new page slot bytes e p c = operated old new (programs page slot bytes) None e p c

pub whole_erase : (old new : SimValue) (page : ℕ) → old.armed ≡ None → Erases old.image page new.image → CountsOne old new old.faults → IsOperated old (erases page) new
whole_erase old new page e p c = operated old new (erases page) None e p c

pub torn_program : (old new : SimValue) (page slot : ℕ) (bytes mask : List ℕ) → old.armed ≡ Some mask → ProgramsByMask old.image page slot bytes mask new.image → CountsOne old new ((old.faults + 1) % 2 ^ 64) → IsOperated old (programs page slot bytes) new
torn_program old new page slot bytes mask e p c = operated old new (programs page slot bytes) (Some mask) e p c

pub torn_erase : (old new : SimValue) (page : ℕ) (mask : List ℕ) → old.armed ≡ Some mask → ErasesByMask old.image page mask new.image → CountsOne old new ((old.faults + 1) % 2 ^ 64) → IsOperated old (erases page) new
torn_erase old new page mask e p c = operated old new (erases page) (Some mask) e p c
