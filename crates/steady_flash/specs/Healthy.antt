-- Trusted: why a start is refused where the flash never fails.
use Rattle.steady_flash.specs.declared.errors.MountError.{MountError}
use Rattle.steady_flash.specs.declared.errors.MountError.TheVariants.{Fault, Unreadable}
use Rattle.steady_flash.specs.declared.moving.Stop as Stops
use Rattle.steady_flash.specs.declared.moving.Stop.{Stop}

-- neither an operation nor a read failed: the pages or their marks are what is refused
abbrev pub IsRefusal : MountError → Type 0
IsRefusal Fault = ⊥
IsRefusal Unreadable = ⊥
IsRefusal _ = Unit {0}

-- and so of a step
abbrev pub IsRefused : Stop → Type 0
IsRefused (Stops.TheVariants.Named why) = IsRefusal why
IsRefused _ = ⊥
