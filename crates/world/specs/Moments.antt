-- Trusted: the moments that the reports of a session are of.
use Rattle.shapes.specs.Shapes.{Bytes}
use Rattle.std.specs.Prelude.{◌≡◌, ◌≢◌, Some, List, ◌∷◌, ◌++◌}
use Rattle.flash_model.specs.Sim.{SimValue}
use Rattle.host.specs.declared.reading.Reading.{Reading}
use Rattle.layers.specs.Codes.{DefaultCodes}
use Rattle.keyboard.specs.Calls.{Call, Polled}
use Rattle.world.specs.Due.{Due}
use Rattle.world.specs.Sent.{IsWantedAt}
use Rattle.world.specs.declared.event.Answer.TheVariants.{Sent}
use Rattle.world.specs.Kinds.{Step}
use Rattle.world.specs.History.{session}

module _ (defaults : DefaultCodes) where
  -- the report that was wanted, and the calls of the session up to its moment
  abbrev pub report_of : {first : Bytes} {past : List Call} {bytes : Bytes} → IsWantedAt defaults first past bytes → Due
  report_of sent = record { moment = sent.moment; input = sent.input }

  -- the bytes are those of a report as it was wanted at its moment. Of each report that a poll of the session sent before, it
  -- is of the same moment or a later one, and it is another one
  pub record SendsOnward (first : Bytes) (past : List Call) (bytes : Bytes) : Type 0 where
    pub sent : IsWantedAt defaults first past bytes
    pub onward : (since before : List Call) (earlier : Bytes) (was : IsWantedAt defaults first before earlier) → past ≡ since ++ Polled (Some earlier) ∷ before
        → (between : List Call) × (sent.moment ≡ between ++ was.moment)
    pub once : (since before : List Call) (earlier : Bytes) (was : IsWantedAt defaults first before earlier) → past ≡ since ++ Polled (Some earlier) ∷ before
        → report_of sent ≢ report_of was

  -- from one start to the next the moments of the reports that polls send do not go back, and no report is sent twice
  abbrev pub MovesOn : SimValue → List Step → Step → Type 0
  MovesOn start before step =
      (bytes : Bytes) (reading : Reading) → step.answer ≡ Sent (record { items = bytes }) reading
      → SendsOnward (session start before).first (session start before).past bytes
