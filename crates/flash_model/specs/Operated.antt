-- Trusted: what one operation makes of a simulated flash, by the mask that it is torn by, if one is armed.
use Rattle.shapes.specs.Shapes.{Bytes}
use Rattle.std.specs.Prelude.{◌≡◌, ℕ, ◌+◌, ◌%◌, ◌^◌, is_some, if◌then◌else◌, Option, Some, None}
use Rattle.flash_model.specs.FlashOperation.{FlashOperation, programs, erases}
use Rattle.flash_model.specs.Operations.{Programs, Erases}
use Rattle.flash_model.specs.ByMask.{ProgramsByMask, ErasesByMask}
use Rattle.flash_model.specs.Sim.{SimValue}

-- nothing is armed: the whole operation; a mask is: the operation that is torn by it
abbrev pub Outcome : Bytes → FlashOperation → Option Bytes → Bytes → Type 0
Outcome old (programs page slot bytes) None new = Programs old page slot bytes new
Outcome old (programs page slot bytes) (Some mask) new = ProgramsByMask old page slot bytes mask new
Outcome old (erases page) None new = Erases old page new
Outcome old (erases page) (Some mask) new = ErasesByMask old page mask new

-- this operation was made, by what was armed; the counts tell of it, and nothing is armed any more
pub record IsOperated (old : SimValue) (operation : FlashOperation) (new : SimValue) : Type 0 where
  pub outcome : Outcome old.image operation old.armed new.image
  pub armed : new.armed ≡ None
  pub operations : new.operations ≡ (old.operations + 1) % 2 ^ 64
  pub faults : new.faults ≡ (if is_some old.armed then (old.faults + 1) % 2 ^ 64 else old.faults)
