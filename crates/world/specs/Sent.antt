-- Trusted: what a poll of endpoint 1 is answered, said of the moment that it is of.
use Rattle.shapes.specs.Shapes.{Bytes}
use Rattle.std.specs.Prelude.{◌≡◌, Some, List, Contains}
use Rattle.reports.specs.declared.Input.{Input}
use Rattle.reports.specs.Queue.{reports_of}
use Rattle.reports.specs.Wanted.{wanted}
use Rattle.layers.specs.Codes.{DefaultCodes}
use Rattle.key_reports.specs.Past.{keys_after, consumer_after}
use Rattle.keyboard.specs.Calls.{Call}
use Rattle.keyboard.specs.Effects.{protocol_after}
use Rattle.keyboard.specs.Keys.{key_calls}
use Rattle.world.specs.Due.{due}

module _ (defaults : DefaultCodes) where
  -- bytes are those of the report that is due, one of the protocol in force, for the usages that the codes of the debounced
  -- keys name at the moment that it is of
  pub record IsWantedAt (start : Bytes) (past : List Call) (bytes : Bytes) : Type 0 where
    pub moment : List Call
    pub input : Input
    pub is_due : due defaults start past ≡ Some (record { moment = moment; input = input })
    pub of_protocol : Contains (reports_of (protocol_after past)) input
    pub bytes_are : bytes ≡ wanted (keys_after (key_calls defaults start moment)) (consumer_after (key_calls defaults start moment)) input
