-- Trusted: what a write unit holds, and what a program and an erase make of it.
use Rattle.shapes.specs.Shapes.{Bytes}
use Rattle.std.specs.Prelude.{◌≡◌, ℕ, ◌⊎◌, Option, None, Some}
use Rattle.ecc_flash.specs.Units.{IsEight, Lacks}
use Rattle.ecc_flash.specs.Reading.{blank}

-- the bytes that it was last programmed with, whole or torn, blank where it never was; and what it reads as, nothing where
-- that is an error
pub record WriteUnit : Type 0 where
  pub meant : Bytes
  pub reads : Option Bytes

-- what a unit that was torn may read as: an error, or bytes with each bit that was meant to be set, but for one at most
abbrev pub MayRead : Bytes → Option Bytes → Type 0
MayRead meant None = Unit {0}
MayRead meant (Some read) = IsEight read × Lacks meant read

-- a program, whole or torn, that the flash did not refuse
pub record IsProgrammed (bytes : Bytes) (new : WriteUnit) : Type 0 where
  pub meant : new.meant ≡ bytes
  pub reads : MayRead bytes new.reads

-- a program: the flash refused it, and nothing has changed, or it is whole or torn
abbrev pub MayHold : WriteUnit → Bytes → WriteUnit → Type 0
MayHold old bytes new = (new ≡ old) ⊎ IsProgrammed bytes new

-- an erase, whole, torn or refused: what a torn unit may read as stays so, it makes no unit read as it was meant to that did
-- not, and it leaves one blank that was
pub record MayBeErased (old new : WriteUnit) : Type 0 where
  pub meant : new.meant ≡ old.meant
  pub reads : MayRead old.meant old.reads → MayRead old.meant new.reads
  pub never_mended : new.reads ≡ Some old.meant → old.reads ≡ Some old.meant
  pub still_blank : old.reads ≡ Some blank → new.reads ≡ Some blank

-- no other unit is touched
abbrev pub OneUnit : (ℕ → ℕ → WriteUnit) → ℕ → ℕ → (ℕ → ℕ → WriteUnit) → Type 0
OneUnit old page unit new = (p u : ℕ) → (p ≡ page → u ≡ unit → ⊥) → new p u ≡ old p u

-- no unit of another page is
abbrev pub OnePageOfUnits : (ℕ → ℕ → WriteUnit) → ℕ → (ℕ → ℕ → WriteUnit) → Type 0
OnePageOfUnits old page new = (p u : ℕ) → (p ≡ page → ⊥) → new p u ≡ old p u
