-- Representation: what is kept refines a past. It holds of a new poller, and each call keeps it.
use Rattle.shapes.specs.Shapes.{Bytes}
use Rattle.std.specs.Prelude.{◌≡◌, min, None, List, []}
use Rattle.reports.specs.declared.Protocol.{Protocol}
use Rattle.reports.specs.declared.Protocol.TheVariants as protocol
use Rattle.reports.specs.declared.Input.{Input}
use Rattle.reports.specs.declared.Input.TheVariants.{Boot, One, Two}
use Rattle.reports.specs.Calls.{PollerCall}
use Rattle.reports.specs.Poll.{last_bytes, age, sent_last, idle_value}
use Rattle.reports.specs.Queue.{queue}
use Rattle.reports.specs.representation.Kept.{Kept, SentValue}

-- what is kept of one report
pub record SentRefines (report : Input) (past : List PollerCall) (sent : SentValue) : Type 0 where
  pub bytes : sent.bytes ≡ last_bytes report past
  pub age : sent.age ≡ min 65535 (age report past)

-- what the poll rule asks of a poller, but for the reports that wait
pub record RuleRefines (past : List PollerCall) (kept : Kept) : Type 0 where
  pub boot : SentRefines Boot past kept.boot
  pub one : SentRefines One past kept.one
  pub two : SentRefines Two past kept.two
  pub sent_last : kept.sent_last ≡ sent_last past
  pub idle_boot : kept.idle_one ≡ idle_value Boot past
  pub idle_one : kept.idle_one ≡ idle_value One past
  pub idle_two : kept.idle_two ≡ idle_value Two past

-- what is kept refines these calls, newest first
pub record Refines (past : List PollerCall) (kept : Kept) : Type 0 where
  pub rule : RuleRefines past kept
  pub queue : kept.queue ≡ queue past

-- nothing counts as sent, and nothing waits
pub record NothingSent (kept : Kept) : Type 0 where
  pub boot : SentRefines Boot [] kept.boot
  pub one : SentRefines One [] kept.one
  pub two : SentRefines Two [] kept.two
  pub sent_last : kept.sent_last ≡ None
  pub queue : kept.queue ≡ []

-- the bytes that were made last are these, of each report of the protocol that they were made for
abbrev pub AreMade : Protocol → (Input → Bytes) → Kept → Type 0
AreMade protocol.Boot bytes kept = kept.boot.made ≡ bytes Boot
AreMade protocol.Report bytes kept = (kept.one.made ≡ bytes One) × (kept.two.made ≡ bytes Two)

-- the bytes that were made last are these
pub record IsMade (bytes : Input → Bytes) (kept : Kept) : Type 0 where
  pub are : AreMade kept.made_for bytes kept

-- and they were made for this protocol
pub record IsMadeFor (protocol : Protocol) (bytes : Input → Bytes) (kept : Kept) : Type 0 where
  pub made_for : kept.made_for ≡ protocol
  pub are : AreMade protocol bytes kept

-- the bytes that were made last stay
pub record SameMade (old new : Kept) : Type 0 where
  pub boot : new.boot.made ≡ old.boot.made
  pub one : new.one.made ≡ old.one.made
  pub two : new.two.made ≡ old.two.made
  pub made_for : new.made_for ≡ old.made_for
