-- Trusted: what is pressed by the readings of a report.
use Rattle.shapes.specs.Shapes.{UsageList}
use Rattle.std.specs.Prelude.{◌≡◌, ◌≢◌, ℕ, ◌↔◌, List, Contains, pos}
use Rattle.std.specs.List.Sorted.{IsStrictlyIncreasing}
use Rattle.host_extract.specs.declared.reading.Found.{Found}

-- a usage is read with a value that is not 0
abbrev pub IsRead : List Found → ℕ → Type 0
IsRead readings usage = (reading : Found) × Contains readings reading × (reading.usage ≡ usage) × (reading.value ≢ pos 0)

-- The usages with a value that is not 0, rising, each once.
pub record ArePressed (readings : List Found) (usages : UsageList) : Type 0 where
  pub rising : IsStrictlyIncreasing usages
  pub members : (usage : ℕ) → Contains usages usage ↔ IsRead readings usage
