-- Trusted: what the host reads in a report, and the descriptor that it keeps.
use Rattle.shapes.specs.Shapes.{Bytes}
use Rattle.std.specs.Prelude.{◌≡◌, None, Some, List, [], length, take}
use Rattle.flash_model.specs.Sim.{SimValue}
use Rattle.descriptor_build.specs.Served.{report_bytes}
use Rattle.host.specs.Kept.{Fetch, gathering, kept}
use Rattle.host.specs.declared.reading.Reading.{Reading}
use Rattle.layers.specs.Codes.{DefaultCodes}
use Rattle.keyboard.specs.Feature.{Where}
use Rattle.world.specs.Fetched.{IsFetched}
use Rattle.world.specs.Read.{IsReadAs}
use Rattle.world.specs.declared.event.Answer.TheVariants.{Sent}
use Rattle.world.specs.Kinds.{Step}
use Rattle.world.specs.History.{session, host_calls}

module _ (defaults : DefaultCodes) where
  -- what the host reads in a report that a poll sent is what the keymap gives for the debounced keys, at the moment of the
  -- session that the report is of. It is unread only where report protocol is in force and no descriptor is kept
  abbrev pub ReadsWanted : SimValue → List Step → Step → Type 0
  ReadsWanted start before step =
      (bytes : Bytes) (reading : Reading) → step.answer ≡ Sent (record { items = bytes }) reading
      → IsReadAs defaults (session start before).first (session start before).past (host_calls before) bytes reading

-- over all sessions the host keeps the keyboard's report descriptor where a fetch of it came through, whatever was asked,
-- refused and cut off before and after; else none
abbrev pub KeepsServed : SimValue → List Step → Type 0
KeepsServed start past = Where (IsFetched [] (host_calls past)) (kept (host_calls past) ≡ Some report_bytes) (kept (host_calls past) ≡ None)

-- over all sessions, what the host gathers, also of a fetch that is cut short, are the first bytes of that descriptor
abbrev pub GathersServed : SimValue → List Step → Type 0
GathersServed start past = (fetch : Fetch) → gathering (host_calls past) ≡ Some fetch → fetch.bytes ≡ take (length fetch.bytes) report_bytes
