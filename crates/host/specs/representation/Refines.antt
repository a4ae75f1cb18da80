-- Representation: a host refines its calls.
use Rattle.std.specs.Prelude.{List}
use Rattle.host.specs.declared.gatherer.Host.{Host}
use Rattle.host.specs.Calls.{HostCall}
use Rattle.host.specs.Kept.{gathering, kept}
use Rattle.host.specs.representation.Relation.{GathersSome, Keeps}

-- A host refines its calls, newest first.
pub record Refines (past : List HostCall) (host : Host) : Type 0 where
  pub gathering : GathersSome (gathering past) host.gathering
  pub kept : Keeps (kept past) host.kept
