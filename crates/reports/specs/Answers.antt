-- Trusted where this crate is called: what an idle request is answered from.
use Rattle.reports.specs.declared.IdleId.{IdleId}
use Rattle.reports.specs.declared.IdleId.TheVariants as id
use Rattle.reports.specs.declared.Input.{Input}
use Rattle.reports.specs.declared.Input.TheVariants.{One, Two}

-- the report whose idle value a request with this ID reads
abbrev pub idle_input : IdleId → Input
idle_input id.All = One
idle_input id.One = One
idle_input id.Two = Two
