-- Trusted: what a host reads in a report that a poll was answered.
use Rattle.shapes.specs.Shapes.{Bytes}
use Rattle.std.specs.Prelude.{◌≡◌, None, IsSome, List}
use Rattle.reports.specs.declared.Protocol.TheVariants.{Report}
use Rattle.layers.specs.Codes.{DefaultCodes}
use Rattle.key_reports.specs.Past.{keys_after, consumer_after}
use Rattle.host.specs.Calls.{HostCall}
use Rattle.host.specs.Kept.{kept}
use Rattle.host.specs.Reads.{text_by}
use Rattle.host.specs.declared.reading.Reading.{Reading}
use Rattle.host.specs.declared.reading.Reading.TheVariants.{Unread, NoMemory, Usages}
use Rattle.keyboard.specs.Calls.{Call}
use Rattle.keyboard.specs.Effects.{protocol_after}
use Rattle.keyboard.specs.Keys.{key_calls}
use Rattle.world.specs.Usages.{wanted_usages}
use Rattle.world.specs.Sent.{IsWantedAt}

module _ (defaults : DefaultCodes) where
  -- the usages are those that the codes of the debounced keys name, as far as the report has room for them, at the moment that
  -- the report is of
  pub record NamesWanted (start : Bytes) (past : List Call) (bytes usages : Bytes) : Type 0 where
    pub sent : IsWantedAt defaults start past bytes
    pub usages_are : usages ≡ wanted_usages (keys_after (key_calls defaults start sent.moment)) (consumer_after (key_calls defaults start sent.moment)) sent.input

  -- A report is unread only where report protocol is in force and no descriptor is kept. Otherwise memory was refused, or its
  -- usages are read.
  abbrev pub IsReadAs : Bytes → List Call → List HostCall → Bytes → Reading → Type 0
  IsReadAs start past host bytes Unread = (protocol_after past ≡ Report) × (kept host ≡ None)
  IsReadAs start past host bytes NoMemory = IsSome (text_by (protocol_after past) host)
  IsReadAs start past host bytes (Usages usages) = IsSome (text_by (protocol_after past) host) × NamesWanted start past bytes usages
